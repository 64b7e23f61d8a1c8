-- A code is looked up by its number, and then among the codes that the unit knows.
use Rattle.osi_spdu.proofs.Vocabulary.{eqb-true, eqb-false, ne_eqb, Code, number_of, every_code, code_among, among, ◌≡◌, ◌≤◌, ◌<◌, ℕ, false}
use Rattle.osi_spdu.proofs.Vocabulary.{List, [], ◌∷◌, Option, Some, None, refl, eqb, if◌then◌else◌, arith}
use Rattle.osi_spdu.proofs.basics.the_steps_of_reading.{named, named_back}

pub low_unknown : (n : ℕ) → n ≤ 52 → (n ≡ 1 → ⊥) → (n ≡ 5 → ⊥) → (n ≡ 9 → ⊥) → (n ≡ 10 → ⊥) → (n ≡ 11 → ⊥) → (n ≡ 12 → ⊥) → (n ≡ 15 → ⊥) →
    (n ≡ 16 → ⊥) → (n ≡ 17 → ⊥) → (n ≡ 19 → ⊥) → (n ≡ 20 → ⊥) → (n ≡ 21 → ⊥) → (n ≡ 22 → ⊥) → (n ≡ 23 → ⊥) → (n ≡ 25 → ⊥) → (n ≡ 26 → ⊥) →
    (n ≡ 27 → ⊥) → (n ≡ 42 → ⊥) → (n ≡ 49 → ⊥) → (n ≡ 50 → ⊥) → (n ≡ 51 → ⊥) → (n ≡ 52 → ⊥)
    → code_among every_code n ≡ None
unfolding number_of
low_unknown n low n1 n5 n9 n10 n11 n12 n15 n16 n17 n19 n20 n21 n22 n23 n25 n26 n27 n42 n49 n50 n51 n52 = grind (arith, ne_eqb)

pub high_unknown : (n : ℕ) → 52 < n → (n ≡ 193 → ⊥) → (n ≡ 194 → ⊥) → code_among every_code n ≡ None
unfolding number_of
high_unknown n high n193 n194 = grind (arith, ne_eqb)

-- the code, if it is one of these
abbrev pub if_among : List Code → Option Code → Option Code
if_among codes None = None
if_among codes (Some c) = if among codes c then Some c else None

named_number : (codes : List Code) (n : ℕ) (c : Code) → code_among codes n ≡ Some c → number_of c ≡ n
named_number [] n c e = absurd cc
named_number (d ∷ codes) n c e = grind (arith, number_of, eqb-true, named_number codes n c)

skipped : (n : ℕ) (d : Code) (codes : List Code) (o : Option Code) → named n ≡ o → eqb (number_of d) n ≡ false →
    if_among (d ∷ codes) o ≡ if_among codes o
skipped n d codes None e f = refl
skipped n d codes (Some c) e f = grind (arith, ne_eqb, eqb-false, named_number every_code n c e)

looked_by : (codes : List Code) (n : ℕ) (o : Option Code) → named n ≡ o → code_among codes n ≡ if_among codes o
looked_by [] n None e = refl
looked_by [] n (Some c) e = refl
looked_by (d ∷ codes) n o e = grind (arith, eqb-true, named_back, skipped, looked_by codes n o e)

pub looked_up : (codes : List Code) (n : ℕ) → code_among codes n ≡ if_among codes (code_among every_code n)
looked_up codes n = looked_by codes n (named n) refl
