-- A side keeps the protocol, or strays from it at one TSDU: those before it are kept, and no more.
-- For the law that a side is found in one way.
use Rattle.osi_side.proofs.Vocabulary.{◌≡◌, refl, ap, ℕ, suc, zero, ◌+◌, ◌<◌, ◌≤◌, ◌⊎◌, inl, inr, Bool, true, List, [], ◌∷◌, take}
use Rattle.osi_side.proofs.Vocabulary.{arith, take-append-drop, Seen, Finding, Kept, Broke, TooMany, Told, IsKept, IsAstray, IsFound}
use Rattle.osi_side.proofs.Vocabulary.{IsFew, HasRoom, is_judged, place_of, Some}
use Rattle.osi_side.specs.declared.findings.Finding.TheVariants.{Left}
use Rattle.osi_side.proofs.honest.a_caller_is_explained.{front_told}

-- ---- the front part of what is kept is kept

front_kept : (begin : Seen) (us : List (List ℕ)) (said : List Told) (n : ℕ) → IsKept begin us said → IsKept begin us (take n said)
front_kept begin us said n k = (grind (arith, front_told, take-append-drop n said), grind arith)

kept_or_astray : (begin : Seen) (us : List (List ℕ)) (said : List Told) → IsKept begin us said → IsAstray begin us said → ⊥
kept_or_astray begin us said k h = grind arith

-- ---- where it strays

-- it is kept up to its i-th TSDU, and no further
pub record Strays (begin : Seen) (us : List (List ℕ)) (said : List Told) (i : ℕ) : Type 0 where
  pub so_far : IsKept begin us (take i said)
  pub astray : IsAstray begin us (take (i + 1) said)

take_less : (xs : List Told) (n m : ℕ) → n ≤ m → take n (take m xs) ≡ take n xs
take_less xs zero m l = refl
take_less [] (suc n) zero l = refl
take_less [] (suc n) (suc m) l = refl
take_less (x ∷ xs) (suc n) zero l = absurd (omega arith)
take_less (x ∷ xs) (suc n) (suc m) l = ap (λ (z : List Told). x ∷ z) (take_less xs n m (omega arith))

not_later : (begin : Seen) (us : List (List ℕ)) (said : List Told) (i j : ℕ) → Strays begin us said i → Strays begin us said j → i < j → ⊥
not_later begin us said i j b c l =
    grind (arith, take_less said (i + 1) j (omega arith), front_kept begin us (take j said) (i + 1) c.so_far)

compare : (i j : ℕ) → (i < j) ⊎ ((j < i) ⊎ (i ≡ j))
compare zero zero = inr (inr refl)
compare zero (suc j) = inl (omega arith)
compare (suc i) zero = inr (inl (omega arith))
compare (suc i) (suc j) = grind (arith, compare i j)

one_place : (begin : Seen) (us : List (List ℕ)) (said : List Told) (i j : ℕ) → Strays begin us said i → Strays begin us said j → i ≡ j
one_place begin us said i j b c = elim (compare i j) [
  | inl l ↦ absurd (not_later begin us said i j b c l)
  | inr k ↦ elim k [ inl l ↦ absurd (not_later begin us said j i c b l) | inr e ↦ e ]
]

-- ---- what is found

-- what a finding says of a side, by the TSDU that it names
abbrev Says : Seen → List (List ℕ) → List Told → Finding → Type 0
Says begin us said Kept = IsKept begin us said
Says begin us said (Broke i) = Strays begin us said i
Says begin us said (Left i) = Strays begin us said i
Says begin us said TooMany = ⊥

says : (begin : Seen) (us : List (List ℕ)) (said : List Told) (f : Finding) → is_judged f ≡ true → IsFound begin us said f
    → Says begin us said f
says begin us said f j k = grind arith

pub never_strays : (begin : Seen) (us : List (List ℕ)) (said : List Told) (i : ℕ) → IsKept begin us said → Strays begin us said i → ⊥
never_strays begin us said i k s = kept_or_astray begin us (take (i + 1) said) (front_kept begin us said (i + 1) k) s.astray

same_place : (begin : Seen) (us : List (List ℕ)) (said : List Told) (f g : Finding) → Says begin us said f → Says begin us said g
    → place_of f ≡ place_of g
same_place begin us said Kept Kept k h = refl
same_place begin us said Kept (Broke j) k h = absurd (never_strays begin us said j k h)
same_place begin us said Kept (Left j) k h = absurd (never_strays begin us said j k h)
same_place begin us said (Broke i) Kept k h = absurd (never_strays begin us said i h k)
same_place begin us said (Broke i) (Broke j) k h = ap (λ (n : ℕ). Some n) (one_place begin us said i j k h)
same_place begin us said (Broke i) (Left j) k h = ap (λ (n : ℕ). Some n) (one_place begin us said i j k h)
same_place begin us said (Left i) Kept k h = absurd (never_strays begin us said i h k)
same_place begin us said (Left i) (Broke j) k h = ap (λ (n : ℕ). Some n) (one_place begin us said i j k h)
same_place begin us said (Left i) (Left j) k h = ap (λ (n : ℕ). Some n) (one_place begin us said i j k h)
same_place begin us said TooMany g k h = absurd k
same_place begin us said f TooMany k h = absurd h

pub one_way : (begin : Seen) (us : List (List ℕ)) (said : List Told) (f g : Finding) → is_judged f ≡ true → is_judged g ≡ true
    → IsFound begin us said f → IsFound begin us said g → place_of f ≡ place_of g
one_way begin us said f g a b k h = same_place begin us said f g (says begin us said f a k) (says begin us said g b h)

-- ---- whether there were too many sessions

too_many : (n : ℕ) → 4096 < n → n ≤ 4096 → ⊥
too_many n h k = omega arith

-- a side strayed, and up to there there were not too many sessions
pub no_crowd : (begin : Seen) (us : List (List ℕ)) (said : List Told) (j : ℕ) → Strays begin us said j → IsFew begin us (take j said)
    → HasRoom begin us said TooMany → ⊥
no_crowd begin us said j s r (i, l, h, c) = elim (compare i j) [
  | inl b ↦ grind (arith, too_many, take_less said (i + 1) j (omega (arith, b)))
  | inr k ↦ grind (arith, kept_or_astray, take_less, front_kept begin us (take (i + 1) said) (j + 1) h)
]

one_room : (begin : Seen) (us : List (List ℕ)) (said : List Told) (f g : Finding) (a b : Bool) → is_judged f ≡ a → is_judged g ≡ b
    → IsFound begin us said f → IsFound begin us said g → HasRoom begin us said f → HasRoom begin us said g → a ≡ b
one_room begin us said f g a b a2 b2 k h r s = grind (arith, too_many, no_crowd, says)

pub one_judged : (begin : Seen) (us : List (List ℕ)) (said : List Told) (f g : Finding) → IsFound begin us said f → IsFound begin us said g
    → HasRoom begin us said f → HasRoom begin us said g → is_judged f ≡ is_judged g
one_judged begin us said f g k h r s = one_room begin us said f g (is_judged f) (is_judged g) refl refl k h r s
