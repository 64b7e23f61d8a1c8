-- Units that are alone in a TSDU: those of category 1 (X.225 section 6.3.7).
use Rattle.osi_session.proofs.Vocabulary.{list_any, Kind, Zero, Two, category_of, Known, Units, tsdu_at, Meaning, DT, meaning_by, meaning}
use Rattle.osi_session.proofs.Vocabulary.{word, said_by_units, said_at, Word, Words, as_message, ◌≡◌, refl, ℕ, Bool, true, false, not, ◌||◌}
use Rattle.osi_session.proofs.Vocabulary.{List, [], ◌∷◌, Ok, arith, AreBehind, bind_ok, ok_is, behind_stands}

-- a test that passes no token item and no unit of category 2
pub record StandsAlone (p : Meaning → Bool) : Type 0 where
  pub item : (k : Kind) (known : Known) (information : List ℕ) → category_of k ≡ Zero → p (meaning_by k known information) ≡ false
  pub behind : (k : Kind) (known : Known) (information : List ℕ) → category_of k ≡ Two → p (meaning_by k known information) ≡ false
  pub plain : (octets : List ℕ) → p (DT octets) ≡ false

abbrev pub passes : (Meaning → Bool) → Word → Bool
passes p w = p (as_message w)

-- what passes is alone
abbrev pub stands_alone : (Meaning → Bool) → Words → Bool
stands_alone p (w ∷ []) = true
stands_alone p words = not (list_any (passes p) words)

pub or_none : (a b : Bool) → a ≡ false → b ≡ false → (a || b) ≡ false
or_none a b h k = rw (h, k) refl

all_behind : (p : Meaning → Bool) → StandsAlone p → (units : Units) → AreBehind units → list_any (passes p) (said_by_units units) ≡ false
unfolding word meaning
all_behind p a [] h = refl
all_behind p a (unit ∷ units) h = grind (arith, or_none, all_behind p a units h.2)

none_alone : (p : Meaning → Bool) (words : Words) → list_any (passes p) words ≡ false → stands_alone p words ≡ true
none_alone p words h0 = grind arith

-- the same for octets
pub alone_in_octets : (p : Meaning → Bool) → StandsAlone p → (octets : List ℕ) (words : Words) → said_at octets ≡ Ok words →
    stands_alone p words ≡ true
unfolding said_at tsdu_at word meaning
alone_in_octets p a octets words e = grind (arith, bind_ok, behind_stands, ok_is, none_alone, or_none, all_behind)
