-- The CCs among the units that wait: for which references they are, in which order they come, and that no two give one reference.
-- For all connections of a called end and a judge.
use Rattle.osi_blameless.proofs.Vocabulary.{[], arith, inl, inr, List, refl, Some, subst, true, ℕ, ◌++◌, ◌<◌, ◌∙◌, ◌∷◌, ◌≡◌, ◌⊎◌}
use Rattle.osi_blameless.proofs.Vocabulary.{AllByRecursion, confirm, Connect, Rise, rise_from, Value, picked_rest, is_false, sym}
use Rattle.osi_blameless.proofs.transport.requests.units_that_wait_give_references_above_those_that_passed.{given_among}
use Rattle.osi_blameless.proofs.standing.what_stands_of_a_connection.{is_for, waiting_for}
use Rattle.osi_rules.specs.declared.directions.Direction.TheVariants as way

-- ---- CCs among units

-- a CC for this reference of the other side, with this one of the end
abbrev pub IsCc : (n r : ℕ) → Value → Type 0
IsCc n r (confirm m x) = (m ≡ n) × (x.source ≡ r)
IsCc n r _ = ⊥

abbrev pub HasCc : (n r : ℕ) → List Value → Type 0
HasCc n r [] = ⊥
HasCc n r (v ∷ vs) = IsCc n r v ⊎ HasCc n r vs

pub has_front : (n r : ℕ) (xs ys : List Value) → HasCc n r xs → HasCc n r (xs ++ ys)
has_front n r [] ys h = absurd h
has_front n r (x ∷ xs) ys (inl h) = inl h
has_front n r (x ∷ xs) ys (inr h) = inr (has_front n r xs ys h)

pub has_back : (n r : ℕ) (xs ys : List Value) → HasCc n r ys → HasCc n r (xs ++ ys)
has_back n r [] ys h = h
has_back n r (x ∷ xs) ys h = inr (has_back n r xs ys h)

pub has_either : (n r : ℕ) (xs ys : List Value) → HasCc n r (xs ++ ys) → HasCc n r xs ⊎ HasCc n r ys
has_either n r [] ys h = inr h
has_either n r (x ∷ xs) ys (inl h) = inl (inl h)
has_either n r (x ∷ xs) ys (inr h) = grind (arith, has_either n r xs ys h)

-- a CC selects class 2
abbrev pub AnswersTwo : Value → Type 0
AnswersTwo (confirm m x) = x.class ≡ 2
AnswersTwo _ = Unit {0}

-- each CC comes before all units for its reference of the other side
abbrev pub AreOrdered : List Value → Type 0
AreOrdered [] = Unit {0}
AreOrdered (v ∷ vs) = ((n r : ℕ) → is_for (Some n) v ≡ true → HasCc n r vs → ⊥) × AreOrdered vs

-- so nothing waits for that reference before it
pub none_before : (n r : ℕ) (xs ys : List Value) → AreOrdered (xs ++ ys) → HasCc n r ys → waiting_for (Some n) xs ≡ []
none_before n r [] ys h has = refl
none_before n r (x ∷ xs) ys h has =
    picked_rest (is_for (Some n)) x xs (is_false (is_for (Some n) x) (λ e. h.0 n r e (has_back n r xs ys has)))
    ∙ none_before n r xs ys h.1 has

-- no CC of class 0 comes first
pub first_not_zero : {A : Type 0} (m : ℕ) (x : Connect) (us vs : List Value) → confirm m x ∷ us ≡ vs → x.class ≡ 0 →
    AllByRecursion AnswersTwo vs → A
first_not_zero m x us vs e zero_is two =
    let first : x.class ≡ 2 = (subst (AllByRecursion AnswersTwo) (sym e) two).0 in absurd (omega (arith, first, zero_is))

-- ---- references of those that wait

among : (P : ℕ → Type 0) (n r : ℕ) (vs : List Value) → AllByRecursion P (given_among way.Right vs) → HasCc n r vs → P r
among P n r [] all h = absurd h
among P n r (confirm m x ∷ vs) all (inl (mine, source)) = subst P source all.0
among P n r (confirm m x ∷ vs) all (inr h) = among P n r vs all.1 h
among P n r (v ∷ vs) all (inl h) = absurd h
among P n r (v ∷ vs) all (inr h) = among P n r vs all h

rise_all : (b : ℕ) (rs : List ℕ) → Rise b rs → AllByRecursion (λ (r : ℕ). b < r) rs
rise_all b [] rise = tt
rise_all b (r ∷ rs) (above, rise) = (above, rise_all b rs (rise_from b r rs (omega (arith, above)) rise))

pub has_above : (b n r : ℕ) (vs : List Value) → Rise b (given_among way.Right vs) → HasCc n r vs → b < r
has_above b n r vs rise h = among (λ (q : ℕ). b < q) n r vs (rise_all b (given_among way.Right vs) rise) h

-- no two give the same one
pub not_twice : {A : Type 0} (b m n r : ℕ) (xs ys : List Value) → Rise b (given_among way.Right (xs ++ ys)) → HasCc m r xs →
    HasCc n r ys → A
not_twice b m n r [] ys rise h k = absurd h
not_twice b m n r (confirm i x ∷ xs) ys rise (inl (mine, source)) k =
    let more = has_above x.source n r (xs ++ ys) rise.1 (has_back n r xs ys k) in absurd (omega (arith, more, source))
not_twice b m n r (confirm i x ∷ xs) ys rise (inr h) k = not_twice x.source m n r xs ys rise.1 h k
not_twice b m n r (v ∷ xs) ys rise (inl h) k = absurd h
not_twice b m n r (v ∷ xs) ys rise (inr h) k = not_twice b m n r xs ys rise h k
