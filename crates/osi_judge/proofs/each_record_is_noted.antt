-- The record of a connection that is over is found at the place that is noted for its number. For `Records`.
use Rattle.std.proofs.Common.{◌≡◌, ◌∙◌, refl, sym, ap, subst, ℕ, zero, suc, ◌<◌, ◌≤◌, ◌==◌, arith, List, [], ◌∷◌, ◌++◌, length, get_or}
use Rattle.std.proofs.Common.{Bool, true, false, set, Option, Some, None}
use Rattle.std.proofs.lemmas.Bool.{eqb-true, eqb-false, eq-eqb}
use Rattle.std.proofs.lemmas.Option.{slice_get_within, slice_get-get_or, get_or_from_slice_get}
use Rattle.std.specs.Prelude.{slice_get}
use Rattle.std.specs.List.{find}
use Rattle.osi_judge.specs.declared.pasts.Past.{Past}
use Rattle.osi_judge.specs.Records.{AreNoted, place_of}

-- ---- the place of the first record with a number

-- there it is, and it is the one that is found
pub record IsThere (number : ℕ) (ps : List Past) (i : ℕ) : Type 0 where
  pub within : i < length ps
  pub found : find (λ p. p.number == number) ps ≡ slice_get ps i
  pub number_is : (d : Past) → (get_or ps i d).number ≡ number

there : (number : ℕ) (ps : List Past) (i : ℕ) → place_of number ps ≡ Some i → IsThere number ps i
there number [] i e = absurd (cc)
there number (p ∷ ps) i e = by (λ k f. there number ps k f) (p.number == number) refl (place_of number ps) refl
  where
    by : ((k : ℕ) → place_of number ps ≡ Some k → IsThere number ps k) → (b : Bool) → (p.number == number) ≡ b → (o : Option ℕ)
        → place_of number ps ≡ o → IsThere number (p ∷ ps) i
    by behind true f o g = grind (arith, eqb-true)
    by behind false f None g = absurd (grind arith)
    by behind false f (Some k) g = grind (arith, behind k g)

nowhere : (number : ℕ) (ps : List Past) → place_of number ps ≡ None → find (λ p. p.number == number) ps ≡ None
nowhere number [] e = refl
nowhere number (p ∷ ps) e = by (λ f. nowhere number ps f) (p.number == number) refl (place_of number ps) refl
  where
    by : (place_of number ps ≡ None → find (λ p. p.number == number) ps ≡ None) → (b : Bool) → (p.number == number) ≡ b → (o : Option ℕ)
        → place_of number ps ≡ o → find (λ p. p.number == number) (p ∷ ps) ≡ None
    by behind true f o g = absurd (grind arith)
    by behind false f None g = grind (arith, behind g)
    by behind false f (Some k) g = absurd (grind arith)

-- ---- what is noted for a number

-- nothing is found, if no place that is noted has a record with that number
unfound : (number : ℕ) (places : List ℕ) (ps : List Past) → AreNoted places ps
    → ((i : ℕ) → slice_get places number ≡ Some i → IsThere number ps i → ⊥) → find (λ p. p.number == number) ps ≡ None
unfound number places ps noted never = by (place_of number ps) refl
  where
    by : (o : Option ℕ) → place_of number ps ≡ o → find (λ p. p.number == number) ps ≡ None
    by None e = nowhere number ps e
    by (Some i) e = absurd (never i (noted number i e) (there number ps i e))

not_past : (places : List ℕ) (number i : ℕ) → length places ≤ number → slice_get places number ≡ Some i → ⊥
not_past places number i le e = let lt = slice_get_within places number i e in omega (arith, lt)

-- no place is noted
pub none_noted : (number : ℕ) (places : List ℕ) (ps : List Past) → AreNoted places ps → length places ≤ number
    → None ≡ find (λ p. p.number == number) ps
none_noted number places ps noted le = sym (unfound number places ps noted (λ i e t. not_past places number i le e))

noted_is : (places : List ℕ) (number i d : ℕ) → slice_get places number ≡ Some i → get_or places number d ≡ i
noted_is places number i d e = get_or_from_slice_get places number i d e

-- there is no record at that place
pub none_at_place : (number d : ℕ) (places : List ℕ) (ps : List Past) → AreNoted places ps → length ps ≤ get_or places number d
    → None ≡ find (λ p. p.number == number) ps
none_at_place number d places ps noted le = sym (unfound number places ps noted
    (λ i e t. let is = noted_is places number i d e in let lt = t.within in omega (arith, le, is, lt)))

-- the record there has another number
pub another_there : (number d : ℕ) (places : List ℕ) (ps : List Past) (q : Past) → AreNoted places ps
    → q ≡ get_or ps (get_or places number d) q → (q.number == number) ≡ false → None ≡ find (λ p. p.number == number) ps
another_there number d places ps q noted is differs = sym (unfound number places ps noted
    (λ i e t. eqb-false q.number number differs (ap (λ (p : Past). p.number) is
    ∙ ap (λ (k : ℕ). (get_or ps k q).number) (noted_is places number i d e) ∙ t.number_is q)))

-- the record there has that number: no record before it has
some_there : (number i : ℕ) (ps : List Past) (p : Past) → i < length ps → (get_or ps i p).number ≡ number → place_of number ps ≡ None → ⊥
some_there number i [] p lt is e = omega (arith, lt)
some_there number zero (q ∷ ps) p lt is e = grind (arith, eq-eqb q.number number is)
some_there number (suc i) (q ∷ ps) p lt is e =
    by (λ g. some_there number i ps p (omega (arith, lt)) is g) (q.number == number) refl (place_of number ps) refl
  where
    by : (place_of number ps ≡ None → ⊥) → (b : Bool) → (q.number == number) ≡ b → (o : Option ℕ) → place_of number ps ≡ o → ⊥
    by behind true f o g = grind arith
    by behind false f (Some k) g = grind arith
    by behind false f None g = behind g

pub it_is_there : (number d : ℕ) (places : List ℕ) (ps : List Past) (p : Past) → AreNoted places ps → get_or places number d < length ps
    → (get_or ps (get_or places number d) p).number ≡ number
    → Some (get_or ps (get_or places number d) p) ≡ find (λ p. p.number == number) ps
it_is_there number d places ps p noted lt is = by (place_of number ps) refl
  where
    by : (o : Option ℕ) → place_of number ps ≡ o → Some (get_or ps (get_or places number d) p) ≡ find (λ p. p.number == number) ps
    by None e = absurd (some_there number (get_or places number d) ps p lt is e)
    by (Some i) e =
        let t = there number ps i e in
        ap (λ (k : ℕ). Some (get_or ps k p)) (noted_is places number i d (noted number i e))
        ∙ sym (slice_get-get_or ps i p t.within) ∙ sym t.found

-- ---- one more record

-- with a number that has one already
place_stays : (number i : ℕ) (ps : List Past) (p : Past) → place_of number ps ≡ Some i → place_of number (ps ++ p ∷ []) ≡ Some i
place_stays number i [] p e = absurd (cc)
place_stays number i (q ∷ ps) p e = by (λ k g. place_stays number k ps p g) (q.number == number) refl (place_of number ps) refl
  where
    by : ((k : ℕ) → place_of number ps ≡ Some k → place_of number (ps ++ p ∷ []) ≡ Some k) → (b : Bool) → (q.number == number) ≡ b
        → (o : Option ℕ) → place_of number ps ≡ o → place_of number ((q ∷ ps) ++ p ∷ []) ≡ Some i
    by behind true f o g = grind arith
    by behind false f None g = absurd (grind arith)
    by behind false f (Some k) g = grind (arith, behind k g)

-- with a number that has none: its place is the last, and all others stay
place_last : (number i : ℕ) (ps : List Past) (p : Past) → place_of number ps ≡ None → place_of number (ps ++ p ∷ []) ≡ Some i
    → (p.number ≡ number) × (i ≡ length ps)
place_last number i [] p e h = by (p.number == number) refl
  where
    by : (b : Bool) → (p.number == number) ≡ b → (p.number ≡ number) × (i ≡ 0)
    by true f = grind (arith, eqb-true)
    by false f = absurd (grind arith)
place_last number i (q ∷ ps) p e h =
    by (λ m g k. place_last number m ps p g k) (q.number == number) refl (place_of number ps) refl (place_of number (ps ++ p ∷ [])) refl
  where
    by : ((m : ℕ) → place_of number ps ≡ None → place_of number (ps ++ p ∷ []) ≡ Some m → (p.number ≡ number) × (m ≡ length ps))
        → (b : Bool) → (q.number == number) ≡ b → (o : Option ℕ) → place_of number ps ≡ o → (r : Option ℕ) → place_of number (ps ++ p ∷ []) ≡ r
        → (p.number ≡ number) × (i ≡ suc (length ps))
    by behind true f o g r k = absurd (grind arith)
    by behind false f (Some m) g r k = absurd (grind arith)
    by behind false f None g None k = absurd (grind arith)
    by behind false f None g (Some m) k = grind (arith, behind m g k)

pub noted_before : (places : List ℕ) (ps : List Past) (p : Past) → AreNoted places ps → (find (λ q. q.number == p.number) ps ≡ None → ⊥)
    → AreNoted places (ps ++ p ∷ [])
noted_before places ps p noted known number at e = by (place_of number ps) refl
  where
    by : (o : Option ℕ) → place_of number ps ≡ o → slice_get places number ≡ Some at
    by (Some i) f = grind (arith, place_stays number i ps p f, noted number i f)
    by None f =
        let last = place_last number at ps p f e in
        absurd (known (nowhere p.number ps (subst (λ (n : ℕ). place_of n ps ≡ None) (sym last.0) f)))

set_here : (places : List ℕ) (i x : ℕ) → i < length places → slice_get (set places i x) i ≡ Some x
set_here [] i x lt = absurd (omega arith)
set_here (y ∷ places) zero x lt = refl
set_here (y ∷ places) (suc i) x lt = set_here places i x (omega arith)

set_apart : (places : List ℕ) (i k x : ℕ) → (i ≡ k → ⊥) → slice_get (set places i x) k ≡ slice_get places k
set_apart [] i k x differ = refl
set_apart (y ∷ places) zero zero x differ = absurd (differ refl)
set_apart (y ∷ places) zero (suc k) x differ = refl
set_apart (y ∷ places) (suc i) zero x differ = refl
set_apart (y ∷ places) (suc i) (suc k) x differ = set_apart places i k x (λ e. differ (ap suc e))

pub noted_last : (places : List ℕ) (ps : List Past) (p : Past) → AreNoted places ps → find (λ q. q.number == p.number) ps ≡ None
    → p.number < length places → AreNoted (set places p.number (length ps)) (ps ++ p ∷ [])
noted_last places ps p noted unknown lt number at e = by (place_of number ps) refl
  where
    by : (o : Option ℕ) → place_of number ps ≡ o → slice_get (set places p.number (length ps)) number ≡ Some at
    by None f =
        let last = place_last number at ps p f e in
        subst (λ (n : ℕ). slice_get (set places p.number (length ps)) n ≡ Some at) last.0
        (set_here places p.number (length ps) lt ∙ ap (λ (k : ℕ). Some k) (sym last.1))
    by (Some i) f =
        set_apart places p.number number (length ps) (λ same. has_none i f same) ∙ noted number i f ∙ sym (place_stays number i ps p f) ∙ e
      where
        has_none : (i : ℕ) → place_of number ps ≡ Some i → p.number ≡ number → ⊥
        has_none i f same =
            let t = there number ps i f in
            grind (arith, slice_get-get_or ps i p t.within, t.found, same, unknown)

pub places_more : (old new : List ℕ) (x : ℕ) → new ≡ old ++ x ∷ [] → (n at : ℕ) → slice_get old n ≡ Some at → slice_get new n ≡ Some at
places_more old new x is n at e = subst (λ (l : List ℕ). slice_get l n ≡ Some at) (sym is) (in_front old n e)
  where
    in_front : (l : List ℕ) (n : ℕ) → slice_get l n ≡ Some at → slice_get (l ++ x ∷ []) n ≡ Some at
    in_front [] n e = absurd (cc)
    in_front (y ∷ l) zero e = e
    in_front (y ∷ l) (suc n) e = in_front l n e
