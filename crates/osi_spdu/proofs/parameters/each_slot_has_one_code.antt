-- Each slot belongs to one code of a unit: to itself, or to the group that knows it.
use Rattle.osi_spdu.proofs.Vocabulary.{list_any, list_all, or_cases, or_left, or_right, eqb-true, ltb-true, cases_Bool, Code, Kind}
use Rattle.osi_spdu.proofs.Vocabulary.{number_of, is_same, is_group, every_code, codes_of, members_of, code_among, among, inl, inr, ◌≡◌, ℕ}
use Rattle.osi_spdu.proofs.Vocabulary.{◌<◌, Bool, true, false, cond, not, ◌||◌, List, [], ◌∷◌, Option, Some, refl, ap, eqb, ltb, arith}
use Rattle.osi_spdu.proofs.basics.the_steps_of_reading.{same_true, same_refl, number_one}

-- ---- every code

-- a test of every code holds of each code
pub every_passes : (p : Code → Bool) (c : Code) → list_all p every_code ≡ true → p c ≡ true
every_passes p c all = grind arith

number_small : (c : Code) → ltb (number_of c) 256 ≡ true
number_small c =
    every_passes (λ d. ltb (number_of d) 256) c (let e : list_all (λ d. ltb (number_of d) 256) every_code ≡ true = all_small in e)
  where
    all_small : list_all (λ d. ltb (number_of d) 256) every_code ≡ true
    all_small = unfold number_of in refl

pub number_octet : (c : Code) → number_of c < 256
number_octet c = ltb-true (number_of c) 256 (number_small c)

-- the code of a number of the list is found there
pub among_found : (codes : List Code) (c : Code) → among codes c ≡ true → code_among codes (number_of c) ≡ Some c
among_found [] c there = absurd cc
among_found (d ∷ codes) c there =
    elim (cases_Bool (eqb (number_of d) (number_of c))) [
      | inl e ↦ rw e (ap {B = Option Code} (λ x. Some x) (number_one d c (eqb-true (number_of d) (number_of c) e)))
      | inr e ↦ rw e (elim (or_cases (is_same c d) (among codes c) there) [
        | inl s ↦ grind (arith, eqb, number_of, same_true, same_refl)
        | inr r ↦ among_found codes c r
      ])
    ]

pub among_named : (codes : List Code) (n : ℕ) (c : Code) → code_among codes n ≡ Some c → among codes c ≡ true
among_named [] n c e = absurd cc
among_named (d ∷ codes) n c e = grind (arith, or_left, same_refl, or_right, among_named codes n c)

pub any_weaker : (p q : Code → Bool) (codes : List Code) → ((c : Code) → p c ≡ true → q c ≡ true) → list_any p codes ≡ true →
    list_any q codes ≡ true
any_weaker p q [] h e = e
any_weaker p q (c ∷ codes) h e = grind (arith, or_cases, or_left, or_right, any_weaker p q codes h)

-- ---- owners

-- whether a slot is a code's own, or one of its group
abbrev pub owns : Kind → Code → Code → Bool
owns kind c d = is_same d c || among (members_of kind c) d

-- no two codes of the list own a slot
abbrev pub once : (Code → Code → Bool) → List Code → Code → Bool
once owner [] d = true
once owner (c ∷ codes) d = cond (owner c d) (not (list_any (λ e. owner e d) codes)) (once owner codes d)

codes_once : (kind : Kind) → list_all (once (owns kind) (codes_of kind)) every_code ≡ true
unfolding number_of codes_of members_of
codes_once kind = grind arith

pub code_once : (kind : Kind) (d : Code) → once (owns kind) (codes_of kind) d ≡ true
code_once kind d = every_passes (once (owns kind) (codes_of kind)) d (codes_once kind)

members_once : (kind : Kind) (g : Code) → list_all (once (λ c d. is_same d c) (members_of kind g)) every_code ≡ true
unfolding members_of number_of
members_once kind g = grind arith

pub member_once : (kind : Kind) (g d : Code) → once (λ c e. is_same e c) (members_of kind g) d ≡ true
member_once kind g d = every_passes (once (λ c e. is_same e c) (members_of kind g)) d (members_once kind g)

-- a group is not in itself
pub group_apart : (kind : Kind) (g : Code) → among (members_of kind g) g ≡ false
unfolding members_of number_of
group_apart kind g = grind arith

-- a parameter that is not a group has no members
pub members_none : (kind : Kind) (c : Code) → is_group c ≡ false → members_of kind c ≡ []
unfolding is_group members_of
members_none kind c h0 = grind arith
