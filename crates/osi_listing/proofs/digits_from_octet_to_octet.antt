-- The digits of a text, from one octet to the next.
use Rattle.osi_listing.proofs.Vocabulary.{◌≡◌, ℕ, Bool, true, false, cond, List, ◌∷◌, arith, before_first, eqb_tells, is_comment_sign}
use Rattle.osi_listing.proofs.Vocabulary.{is_blank, digits_left}

kept : (c : ℕ) (line : List ℕ) → is_comment_sign c ≡ false → before_first is_comment_sign (c ∷ line) ≡ c ∷ before_first is_comment_sign line
kept c line h = grind arith

pub left_digit_of : (b : Bool) (c : ℕ) (text : List ℕ) → b ≡ false → (c ≡ 10 → ⊥) → (c ≡ 35 → ⊥) → is_blank c ≡ false →
    digits_left b (c ∷ text) ≡ c ∷ digits_left false text
left_digit_of b c text e feed sign blank = grind (arith, cond, kept, eqb_tells)

pub left_blank_of : (b : Bool) (c : ℕ) (text : List ℕ) → (c ≡ 10 → ⊥) → (c ≡ 35 → ⊥) → is_blank c ≡ true →
    digits_left b (c ∷ text) ≡ digits_left b text
left_blank_of b c text feed sign blank = search (arith, cond, kept)
