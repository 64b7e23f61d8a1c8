-- Lists of sessions that explain: one more, and one that is among them.
use Rattle.osi_side.proofs.Vocabulary.{◌≡◌, ℕ, suc, zero, ◌<◌, ◌⊎◌, ◌↔◌, inl, inr, List, [], ◌∷◌, ◌++◌, length, get_or, arith, Member}
use Rattle.osi_side.proofs.Vocabulary.{Remark, Explains, SomeExplains}

-- one more at the end
pub some_more : (us : List (List ℕ)) (members : List Member) (m : Member) (later : List Remark) →
    (SomeExplains us members later ⊎ Explains us later m.taken m.standing) → SomeExplains us (members ++ m ∷ []) later
some_more us [] m later (inl h) = absurd h
some_more us [] m later (inr h) = inl h
some_more us (n ∷ members) m later (inl (inl h)) = inl h
some_more us (n ∷ members) m later (inl (inr h)) = inr (some_more us members m later (inl h))
some_more us (n ∷ members) m later (inr h) = inr (some_more us members m later (inr h))

pub some_fewer : (us : List (List ℕ)) (members : List Member) (m : Member) (later : List Remark) →
    SomeExplains us (members ++ m ∷ []) later → (SomeExplains us members later ⊎ Explains us later m.taken m.standing)
some_fewer us [] m later (inl h) = inr h
some_fewer us [] m later (inr h) = absurd h
some_fewer us (n ∷ members) m later (inl h) = inl (inl h)
some_fewer us (n ∷ members) m later (inr h) = elim (some_fewer us members m later h) [ inl k ↦ inl (inr k) | inr k ↦ inr k ]

-- one that is among them
pub some_at : (us : List (List ℕ)) (members : List Member) (i : ℕ) (o m : Member) (later : List Remark) → i < length members →
    o ≡ get_or members i o
    → o.taken ≡ m.taken → o.standing ≡ m.standing → Explains us later m.taken m.standing → SomeExplains us members later
some_at us [] i o m later l e t s h = absurd (omega arith)
some_at us (n ∷ members) zero o m later l e t s h = grind arith
some_at us (n ∷ members) (suc i) o m later l e t s h = inr (some_at us members i o m later (omega arith) e t s h)

pub added : (us : List (List ℕ)) (old new : List Member) (m : Member) (later : List Remark) → new ≡ old ++ m ∷ []
    → (SomeExplains us old later ⊎ Explains us later m.taken m.standing) ↔ SomeExplains us new later
added us old new m later e = grind (arith, some_more, some_fewer)
