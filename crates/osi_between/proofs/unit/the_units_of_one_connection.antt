-- The units for one connection among those of all, that they fit packets, and the references that they ask for.
-- For octets in flight, joined carriers, class 0 and the invariant.
use Rattle.osi_between.proofs.Vocabulary.{◌≡◌, ◌≢◌, ℕ, zero, suc, ◌+◌, ◌==◌, Bool, List, [], ◌∷◌, ◌++◌, refl, sym, ap, ◌∙◌, arith, ne_eqb}
use Rattle.osi_between.proofs.Vocabulary.{Value, reference_of, units_of, AreFor, asked_by, requests, behind, live_behind, live_after}
use Rattle.osi_between.proofs.Vocabulary.{HasPlaces, AllByRecursion, ◌<◌, HasGivenInRange, IsSendable, addressed, Given, unit_length}
use Rattle.osi_between.proofs.Vocabulary.{unit_fits, suc-add}

-- ---- lists

pub all_join : {X : Type 0} (P : X → Type 0) (xs ys : List X) → AllByRecursion P xs → AllByRecursion P ys → AllByRecursion P (xs ++ ys)
all_join P [] ys a b = b
all_join P (x ∷ xs) ys a b = (a.0, all_join P xs ys a.1 b)

pub all_rest : {X : Type 0} (P : X → Type 0) (xs ys : List X) → AllByRecursion P (xs ++ ys) → AllByRecursion P ys
all_rest P [] ys h = h
all_rest P (x ∷ xs) ys h = all_rest P xs ys h.1

pub front_none : {X : Type 0} (xs ys : List X) → xs ++ ys ≡ [] → xs ≡ []
front_none [] ys e = refl
front_none (x ∷ xs) ys e = cc

pub rest_none : {X : Type 0} (xs ys : List X) → xs ++ ys ≡ [] → ys ≡ []
rest_none [] ys e = e
rest_none (x ∷ xs) ys e = cc

-- ---- the units of a connection

units_join_by : (n : ℕ) (u : Value) (us vs : List Value) (b : Bool) → (reference_of u == n) ≡ b →
    units_of n (us ++ vs) ≡ units_of n us ++ units_of n vs → units_of n (u ∷ (us ++ vs)) ≡ units_of n (u ∷ us) ++ units_of n vs
units_join_by n u us vs b e more = grind arith

pub units_join : (n : ℕ) (us vs : List Value) → units_of n (us ++ vs) ≡ units_of n us ++ units_of n vs
units_join n [] vs = refl
units_join n (u ∷ us) vs = units_join_by n u us vs (reference_of u == n) refl (units_join n us vs)

pub units_same : (n : ℕ) (us : List Value) → AreFor n us → units_of n us ≡ us
units_same n [] h = refl
units_same n (u ∷ us) h = (grind arith) ∙ ap (λ (l : List Value). u ∷ l) (units_same n us h.1)

pub units_other : (q n : ℕ) (us : List Value) → q ≢ n → AreFor n us → units_of q us ≡ []
units_other q n [] other h = refl
units_other q n (u ∷ us) other h = grind (arith, ne_eqb, units_other q n us other h.1)

-- the first unit of a connection
pub first_of_all : (u : Value) (us : List Value) → units_of (reference_of u) (u ∷ us) ≡ u ∷ units_of (reference_of u) us
first_of_all u us = grind arith

-- ---- references that are asked for

one_more : (g a : ℕ) → (g + 1) + a ≡ g + suc a
one_more g a = omega arith

pub behind_join : (g a b : ℕ) → behind g (a + b) ≡ behind g a ++ behind (g + a) b
behind_join g zero b = ap (λ (m : ℕ). behind g m) (grind arith) ∙ ap (λ (m : ℕ). behind m b) (grind arith)
behind_join g (suc a) b = search (arith, suc-add, one_more, behind_join (g + 1) a b)

-- the first of them
pub first_asked : (g k n : ℕ) (more : List ℕ) → n ∷ more ≡ behind g k →
    (n ≡ g + 1) × (j : ℕ) × (k ≡ suc j) × (more ≡ behind (g + 1) j)
first_asked g k n more e = grind arith

-- ---- places

pub places_join : (refs : List ℕ) (us vs : List Value) → HasPlaces refs us → HasPlaces (live_after refs us) vs → HasPlaces refs (us ++ vs)
places_join refs [] vs h more = more
places_join refs (u ∷ us) vs h more = (h.0, places_join (live_behind refs u) us vs h.1 more)

pub none_left : (coming rest : List Value) (u : Value) → coming ≡ [] → coming ≡ u ∷ rest → ⊥
none_left coming rest u a b = let no : [] ≡ u ∷ rest = sym a ∙ b in cc

pub places_rest : (refs : List ℕ) (us vs : List Value) → HasPlaces refs (us ++ vs) → HasPlaces (live_after refs us) vs
places_rest refs [] vs h = h
places_rest refs (u ∷ us) vs h = places_rest (live_behind refs u) us vs h.1

pub places_for : (refs : List ℕ) (us : List Value) → requests us ≡ [] → HasPlaces refs us
places_for refs [] e = tt
places_for refs (u ∷ us) e = grind (arith, places_for (live_behind refs u) us (rest_none (asked_by u) (requests us) e))

-- ---- units of links

-- they fit packets
pub all_sendable : (n : ℕ) (gs : List Given) → n < 65536 → AllByRecursion HasGivenInRange gs → AllByRecursion IsSendable (addressed n gs)
all_sendable n [] few h = tt
all_sendable n (g ∷ gs) few h = (grind (arith, unit_length, unit_fits), all_sendable n gs few h.1)
