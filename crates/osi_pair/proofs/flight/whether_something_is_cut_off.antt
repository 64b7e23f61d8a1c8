-- Whether something of what is in flight was cut off, and which references were given.
-- For turns, calls, breaks and ends, packets, carries and the promises.
use Rattle.osi_pair.proofs.Vocabulary.{◌≡◌, ◌≢◌, ℕ, ◌<◌, ◌≤◌, ◌==◌, ◌⊎◌, inl, inr, Bool, true, false, None, is_some, refl, sym, subst, ◌∙◌}
use Rattle.osi_pair.proofs.Vocabulary.{arith, eqb-true, eq-eqb, is_cut, TwoEnds, end_at, is_caller, carriers_of, Side}

-- the end of the side has not ended
abbrev pub Lasts : Side → TwoEnds → Type 0
Lasts s p = (end_at s p).end.carrier.ended ≡ None

-- if nothing is broken nothing is cut of what is in flight from an end that lasts
pub cut_none : (s : Side) (p : TwoEnds) (broken : Bool) → broken ≡ is_some p.reach → Lasts s p → broken ≡ false →
    is_cut (is_caller s) (carriers_of p) ≡ false
cut_none s p broken is alive e = grind arith

-- ---- references that were given, or not

abbrev pub IsWithin : ℕ → ℕ → Type 0
IsWithin n most = ((n ≡ 0) ⊎ (most < n)) ⊎ ((0 < n) × (n ≤ most))

record FoundAt (most n : ℕ) (A : Type 0) (P : A → Type 0) : Type 0 where
  what : A
  is : 0 < n → n ≤ most → P what

found_by : (most n : ℕ) (A : Type 0) (P : A → Type 0) → A → (0 < n → n ≤ most → (a : A) × P a) → IsWithin n most → FoundAt most n A P
found_by most n A P none all (inl out) = record { what = none; is = λ some few. absurd (grind arith) }
found_by most n A P none all (inr given) = let x = all given.0 given.1 in record { what = x.0; is = λ some few. x.1 }

-- what is found for each reference that was given is a function
pub record FoundEach (most : ℕ) (A : Type 0) (P : ℕ → A → Type 0) : Type 0 where
  pub at : ℕ → A
  pub is : (n : ℕ) → 0 < n → n ≤ most → P n (at n)

pub found_each : (most : ℕ) (A : Type 0) (P : ℕ → A → Type 0) → A → ((n : ℕ) → 0 < n → n ≤ most → (a : A) × P n a) → FoundEach most A P
found_each most A P none all =
    let each : (n : ℕ) → FoundAt most n A (P n) = λ n. found_by most n A (P n) none (all n) (grind arith) in
    record { at = λ n. (each n).what; is = λ n. (each n).is }

-- a reference is this one, or another
pub this_or_other : (n q : ℕ) (P : ℕ → Type 0) → P n → (q ≢ n → P q) → P q
this_or_other n q P this another = by (q == n) refl
  where
    by : (b : Bool) → (q == n) ≡ b → P q
    by true e = subst P (sym (eqb-true q n e)) this
    by false e = another (λ same. (let no_way : true ≡ false = sym (eq-eqb q n same) ∙ e in cc))
