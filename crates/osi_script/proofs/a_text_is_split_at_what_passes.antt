-- Splitting a list at the first element that passes a test.
use Rattle.std.proofs.Common.{◌≡◌, ◌∙◌, ℕ, ◌+◌, ◌<◌, ◌≤◌, Bool, true, false, List, [], ◌∷◌, ◌++◌, None, Some}
use Rattle.std.proofs.Common.{length, get_or, take, drop, ap, arith}
use Rattle.std.specs.List.{slice_split, All}
use Rattle.std.proofs.lemmas.List.{get_or-take, length-take}
use Rattle.std.proofs.lemmas.List.Elements.{All-from_get_or}
use Rattle.std.proofs.lemmas.List.Splits.{slice_split_none, slice_split_at}
use Rattle.std.proofs.Math.Seq.{split_at}
use Rattle.memchr.specs.Find.{IsFirstByte}

-- a test that does not come out true comes out false
pub fails : (b : Bool) → (b ≡ true → ⊥) → b ≡ false
fails b h = grind arith

-- if no element passes there is one part
pub one_part : (p : ℕ → Bool) (text : List ℕ) → IsFirstByte p text None → slice_split p text ≡ text ∷ []
one_part p text h =
    slice_split_none p text (All-from_get_or (λ x. p x ≡ false) text 0 (λ i below. fails (p (get_or text i 0)) (h i (omega arith) below)))

pub cut_here : (text : List ℕ) (i : ℕ) → i < length text → text ≡ take i text ++ get_or text i 0 ∷ drop (i + 1) text
cut_here text i below = grind (arith, split_at)

none_before : (p : ℕ → Bool) (text : List ℕ) (i : ℕ) → i < length text → ((k : ℕ) → k < i → p (get_or text k 0) ≡ true → ⊥)
    → All (λ x. p x ≡ false) (take i text)
none_before p text i within h =
    All-from_get_or (λ x. p x ≡ false) (take i text) 0
    (grind (arith, length-take, get_or-take, fails))

-- the first part ends at the first element that passes
pub first_part : (p : ℕ → Bool) (text : List ℕ) (i : ℕ) → IsFirstByte p text (Some i)
    → slice_split p text ≡ take i text ∷ slice_split p (drop (i + 1) text)
first_part p text i h =
    ap (slice_split p) (cut_here text i h.0.high)
    ∙ slice_split_at p (take i text) (get_or text i 0) (drop (i + 1) text)
    (none_before p text i h.0.high (λ k below. h.0.before k (omega arith) below)) h.1

pub ends_within : (p : ℕ → Bool) (text : List ℕ) (i : ℕ) → IsFirstByte p text (Some i) → i + 1 ≤ length text
ends_within p text i h = let high : i < length text = h.0.high in omega arith
