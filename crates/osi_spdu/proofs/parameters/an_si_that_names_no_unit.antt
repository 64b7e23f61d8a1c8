-- An SI that names no unit.
use Rattle.osi_spdu.proofs.Vocabulary.{ne_eqb, si_of, kind_named, arith, ◌≡◌, ℕ, Bool, None}

pub unnamed : (second : Bool) (si : ℕ) → (si ≡ 1 → ⊥) → (si ≡ 2 → ⊥) → (si ≡ 8 → ⊥) → (si ≡ 9 → ⊥) → (si ≡ 10 → ⊥) → (si ≡ 12 → ⊥) →
    (si ≡ 13 → ⊥) → (si ≡ 14 → ⊥) → (si ≡ 25 → ⊥) → (si ≡ 26 → ⊥) → (si ≡ 34 → ⊥) → (si ≡ 41 → ⊥) → (si ≡ 42 → ⊥) → (si ≡ 49 → ⊥) →
    (si ≡ 50 → ⊥) → (si ≡ 53 → ⊥)
    → kind_named second si ≡ None
unfolding kind_named si_of
unnamed second si n1 n2 n8 n9 n10 n12 n13 n14 n25 n26 n34 n41 n42 n49 n50 n53 = grind (arith, ne_eqb)
