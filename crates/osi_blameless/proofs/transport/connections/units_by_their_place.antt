-- Units in order, each with the place at the judge of the connection that it is of: the units of one place.
-- For the law on a whole called end.
use Rattle.osi_blameless.proofs.transport.Vocabulary.{arith, [], ap, Bool, false, List, None, Option, refl, Some, true, ℕ, ◌++◌, ◌∙◌, ◌∷◌}
use Rattle.osi_blameless.proofs.transport.Vocabulary.{◌≡◌, eq-eqb}
use Rattle.osi_blameless.proofs.transport.Vocabulary.{◌==◌, Value}
use Rattle.osi_blameless.proofs.transport.small_facts_that_many_lemmas_use.{unequal}
use Rattle.osi_blameless.proofs.transport.connections.which_units_are_for_a_connection.{keep, names_in}
pub use Rattle.osi_blameless.proofs.transport.connections.which_units_are_for_a_connection.{names_in as is_at}

-- a unit, and the place of its connection; none if it is of no connection
abbrev pub Placed : Type 0
Placed = Option ℕ × Value

abbrev pub units_at : ℕ → List Placed → List Value
units_at p [] = []
units_at p (t ∷ ts) = keep (names_in p t.0) t.1 (units_at p ts)

-- the first unit is of this place
abbrev pub first_at : ℕ → List Placed → Bool
first_at p [] = false
first_at p (t ∷ ts) = names_in p t.0

abbrev pub values : List Placed → List Value
values [] = []
values (t ∷ ts) = t.1 ∷ values ts

abbrev pub all_at : Option ℕ → List Value → List Placed
all_at o [] = []
all_at o (v ∷ vs) = (o, v) ∷ all_at o vs

pub at_join : (p : ℕ) (xs ys : List Placed) → units_at p (xs ++ ys) ≡ units_at p xs ++ units_at p ys
at_join p [] ys = refl
at_join p (x ∷ xs) ys = grind (arith, keep, names_in, at_join p xs ys)

pub values_join : (xs ys : List Placed) → values (xs ++ ys) ≡ values xs ++ values ys
values_join [] ys = refl
values_join (x ∷ xs) ys = ap (λ (l : List Value). x.1 ∷ l) (values_join xs ys)

pub values_all : (o : Option ℕ) (vs : List Value) → values (all_at o vs) ≡ vs
values_all o [] = refl
values_all o (v ∷ vs) = ap (λ (l : List Value). v ∷ l) (values_all o vs)

pub at_here : (p : ℕ) → names_in p (Some p) ≡ true
at_here p = eq-eqb p p refl

pub at_elsewhere : (p q : ℕ) → (q ≡ p → ⊥) → names_in p (Some q) ≡ false
at_elsewhere p q h = unequal q p (q == p) refl h

pub at_first : (p : ℕ) (v : Value) (ts : List Placed) → units_at p ((Some p, v) ∷ ts) ≡ v ∷ units_at p ts
at_first p v ts = ap (λ (b : Bool). keep b v (units_at p ts)) (at_here p)

pub at_other : (p q : ℕ) (v : Value) (ts : List Placed) → (q ≡ p → ⊥) → units_at p ((Some q, v) ∷ ts) ≡ units_at p ts
at_other p q v ts h = ap (λ (b : Bool). keep b v (units_at p ts)) (at_elsewhere p q h)

pub all_here : (p : ℕ) (vs : List Value) → units_at p (all_at (Some p) vs) ≡ vs
all_here p [] = refl
all_here p (v ∷ vs) = at_first p v (all_at (Some p) vs) ∙ ap (λ (l : List Value). v ∷ l) (all_here p vs)

pub all_elsewhere : (p q : ℕ) (vs : List Value) → (q ≡ p → ⊥) → units_at p (all_at (Some q) vs) ≡ []
all_elsewhere p q [] h = refl
all_elsewhere p q (v ∷ vs) h = at_other p q v (all_at (Some q) vs) h ∙ all_elsewhere p q vs h

pub all_nowhere : (p : ℕ) (vs : List Value) → units_at p (all_at None vs) ≡ []
all_nowhere p [] = refl
all_nowhere p (v ∷ vs) = all_nowhere p vs
