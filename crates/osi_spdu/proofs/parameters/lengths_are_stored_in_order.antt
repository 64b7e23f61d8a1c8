-- The lengths of units are stored one after the other, by a loop.
use Rattle.osi_spdu.proofs.Vocabulary.{cases_Bool, ltb-true, ltb-false, append-nil, length-set, take_more_set, drop_more, drop_all}
use Rattle.osi_spdu.proofs.Vocabulary.{Contents, Units, body_length, AreLengths, inl, inr, ◌≡◌, ℕ, zero, suc, ◌+◌, ◌<◌, ◌≤◌, List, [], ◌∷◌}
use Rattle.osi_spdu.proofs.Vocabulary.{◌++◌, length, take, drop, get_or, set, refl, ap, append_assoc, ltb, arith}

-- the lengths of all units are those stored, followed by those of the units that are left
pub record IsKeeping (lens : List ℕ) (count : ℕ) (units all : Units) : Type 0 where
  pub room : count + length units ≤ 16
  pub size : length lens ≡ 16
  pub goes : (tail : List ℕ) → AreLengths tail units → AreLengths (take count lens ++ tail) all

pub keeping_start : (lens : List ℕ) (all : Units) → length lens ≡ 16 → length all ≤ 16 → IsKeeping lens 0 all all
keeping_start lens all size few = record { room = omega arith; size = size; goes = λ tail h. h }

pub keeping_within : (lens : List ℕ) (count : ℕ) (units others all : Units) (unit : Contents) → units ≡ unit ∷ others →
    IsKeeping lens count units all → count < length lens
keeping_within lens count units others all unit h0 h1 = grind arith

pub keeping_next : {lens more : List ℕ} {count body : ℕ} {units others all : Units} {unit : Contents} → IsKeeping lens count units all →
    units ≡ unit ∷ others → body ≡ body_length unit → more ≡ set lens count body → IsKeeping more (count + 1) others all
keeping_next so_far e is same = grind (arith, length-set, take_more_set, append_assoc)

front_enough : (n : ℕ) (lens : List ℕ) (units : Units) → AreLengths (take n lens) units → AreLengths lens units
front_enough n lens [] h = tt
front_enough (suc n) (b ∷ lens) (unit ∷ units) h = (h.0, front_enough n lens units h.1)
front_enough _ _ _ h = absurd h

pub keeping_end : {lens : List ℕ} {count : ℕ} {units all : Units} → IsKeeping lens count units all → units ≡ [] → AreLengths lens all
keeping_end {lens = lens} {count = count} so_far e = grind (arith, front_enough, append-nil (take count lens))

-- the length of one unit is kept
pub one_kept : (lens more : List ℕ) (body : ℕ) (units : Units) (unit : Contents) → units ≡ unit ∷ [] → length lens ≡ 16 →
    body ≡ body_length unit → more ≡ set lens 0 body → AreLengths more units
one_kept lens more body units unit e size is same =
    keeping_end (keeping_next (keeping_start lens units size (let n = ap length e in omega arith)) e is same) refl

-- the lengths from a place on are those of the units that are left
pub record IsLeft (lens : List ℕ) (count : ℕ) (units : Units) : Type 0 where
  pub lengths : AreLengths (drop count lens) units

-- the length of the next unit
pub record IsNextLength (lens : List ℕ) (count : ℕ) (unit : Contents) (others : Units) : Type 0 where
  pub within : count < length lens
  pub is : get_or lens count 0 ≡ body_length unit
  pub rest : IsLeft lens (count + 1) others

pub next_length : {lens : List ℕ} {count : ℕ} {units others : Units} {unit : Contents} → units ≡ unit ∷ others → IsLeft lens count units →
    IsNextLength lens count unit others
next_length {lens = lens} {count = count} e h =
    elim (cases_Bool (ltb count (length lens))) [
      | inl t ↦ (let lt = ltb-true count (length lens) t in grind (arith, drop_more lens count 0 lt))
      | inr f ↦ grind (arith, drop_all, ltb-false)
    ]
