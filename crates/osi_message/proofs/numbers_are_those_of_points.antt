-- The numbers in messages are those that a point may have.
use Rattle.std.proofs.Common.{◌≡◌, ℕ, ◌≤◌, ◌<◌, true, List, [], ◌∷◌, length, arith}
use Rattle.osi_spdu.specs.declared.kinds.Kind.TheVariants as kind
use Rattle.osi_message.specs.declared.messages.Message.TheVariants as message
use Rattle.osi_message.proofs.Vocabulary.{list_all, and_parts, leb-true, ltb-true, Contents, Units, is_digit, decimal_from, decimal}
use Rattle.osi_message.proofs.Vocabulary.{Message, meant_by, IsNumbered, AreNumberedWords, meaning, word, said_by_units}

-- ---- numbers of at most six digits

abbrev pub IsDigit : ℕ → Type 0
IsDigit d = (48 ≤ d) × (d < 58)

split : (d : ℕ) (digits : List ℕ) → list_all is_digit (d ∷ digits) ≡ true → IsDigit d × (list_all is_digit digits ≡ true)
split d digits h = grind (arith, and_parts, leb-true, ltb-true)

pub six : (a b c d e f : ℕ) → list_all is_digit (a ∷ b ∷ c ∷ d ∷ e ∷ f ∷ []) ≡ true →
    IsDigit a × IsDigit b × IsDigit c × IsDigit d × IsDigit e × IsDigit f
six a b c d e f all =
    let p = split a (b ∷ c ∷ d ∷ e ∷ f ∷ []) all in let q = split b (c ∷ d ∷ e ∷ f ∷ []) p.1 in search (arith, split)

-- the first digits may be zeros
six_small : (a b c d e f : ℕ) → list_all is_digit (a ∷ b ∷ c ∷ d ∷ e ∷ f ∷ []) ≡ true → decimal (a ∷ b ∷ c ∷ d ∷ e ∷ f ∷ []) ≤ 999999
unfolding decimal_from
six_small a b c d e f all = let s = six a b c d e f all in omega arith

decimal_small : (digits : List ℕ) → list_all is_digit digits ≡ true → length digits ≤ 6 → decimal digits ≤ 999999
unfolding decimal_from
decimal_small (a ∷ []) h few = six_small 48 48 48 48 48 a h
decimal_small (a ∷ b ∷ []) h few = six_small 48 48 48 48 a b h
decimal_small (a ∷ b ∷ c ∷ []) h few = six_small 48 48 48 a b c h
decimal_small (a ∷ b ∷ c ∷ d ∷ []) h few = six_small 48 48 a b c d h
decimal_small (a ∷ b ∷ c ∷ d ∷ e ∷ []) h few = six_small 48 a b c d e h
decimal_small (a ∷ b ∷ c ∷ d ∷ e ∷ f ∷ []) h few = six_small a b c d e f h
decimal_small _ h few = omega arith

meaning_numbered : (unit : Contents) → IsNumbered (meaning unit)
unfolding meaning
meaning_numbered unit = search (arith, and_parts, decimal_small, leb-true)

-- the numbers in the units of a TSDU are those that a point may have
pub units_numbered : (units : Units) → AreNumberedWords (said_by_units units)
unfolding word
units_numbered [] = tt
units_numbered (unit ∷ units) = (grind (arith, meaning_numbered), units_numbered units)

-- ---- in memory

-- the numbers in a unit in memory are those that a point may have
pub meant_numbered : (m : Message) → IsNumbered (meant_by m)
meant_numbered m = grind arith
