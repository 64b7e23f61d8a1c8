-- A minor point without user data, and its confirmation, are their own outlines, as they are written.
use Rattle.osi_side.proofs.Vocabulary.{◌≡◌, refl, ℕ, true, List, [], ◌∷◌, Some, Ok, arith, Meaning, GT, MIA, MIP}
use Rattle.osi_side.proofs.Vocabulary.{no_token, says, written, bare}
use Rattle.osi_message.specs.Reading.{said_at}
use Rattle.osi_message.specs.Tokens.{is_empty}
use Rattle.osi_message.specs.Written.{is_second}
use Rattle.osi_side.specs.Outlines.{outline}

own_outline : (tsdu : List ℕ) (m : Meaning) → said_at tsdu ≡ Ok (says (GT no_token) ∷ says m ∷ []) → is_second m ≡ true
    → bare m ≡ Some m → tsdu ≡ written m → tsdu ≡ outline tsdu
unfolding is_empty outline
own_outline tsdu m h s b w = grind arith

second_point : (n : ℕ) → is_second (MIP true n []) ≡ true
unfolding is_second
second_point n = refl

second_ack : (n : ℕ) → is_second (MIA n []) ≡ true
unfolding is_second
second_ack n = refl

pub point_outline : (tsdu : List ℕ) (n : ℕ) → said_at tsdu ≡ Ok (says (GT no_token) ∷ says (MIP true n []) ∷ [])
    → tsdu ≡ written (MIP true n []) → tsdu ≡ outline tsdu
point_outline tsdu n h w = own_outline tsdu (MIP true n []) h (second_point n) refl w

pub ack_outline : (tsdu : List ℕ) (n : ℕ) → said_at tsdu ≡ Ok (says (GT no_token) ∷ says (MIA n []) ∷ [])
    → tsdu ≡ written (MIA n []) → tsdu ≡ outline tsdu
ack_outline tsdu n h w = own_outline tsdu (MIA n []) h (second_ack n) refl w
