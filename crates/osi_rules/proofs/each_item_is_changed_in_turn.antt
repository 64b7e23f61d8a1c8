-- A loop that changes each item of a list in turn gives the list of the changed items: for the connections of a byte
-- connection, when a packet begins.
use Rattle.std.proofs.Common.{◌≡◌, ℕ, ◌+◌, ◌<◌, zero, suc, List, [], ◌∷◌, ◌++◌, length, take, drop, map, get_or, set, arith, refl, ap, ◌∙◌}
use Rattle.std.proofs.Common.{add-one}

record IsStep {A : Type 0} (f : A → A) (xs : List A) (i : ℕ) (d : A) : Type 0 where
  here : get_or (map f (take i xs) ++ drop i xs) i d ≡ get_or xs i d
  next : set (map f (take i xs) ++ drop i xs) i (f (get_or xs i d)) ≡ map f (take (suc i) xs) ++ drop (suc i) xs

step_at : {A : Type 0} (f : A → A) (xs : List A) (i : ℕ) (d : A) → i < length xs → IsStep f xs i d
step_at f [] i d h = absurd (omega arith)
step_at f (x ∷ xs) zero d h = record { here = refl; next = refl }
step_at f (x ∷ xs) (suc i) d h = grind (arith, step_at f xs i d (omega arith))

-- those before it are changed, and then the next is; `d` stands for what is past the end
pub changed_step : {A : Type 0} (f : A → A) (xs items : List A) (i : ℕ) (d new : A) → i < length xs →
    items ≡ map f (take i xs) ++ drop i xs → new ≡ f (get_or items i d) → set items i new ≡ map f (take (i + 1) xs) ++ drop (i + 1) xs
changed_step f xs items i d new within before changed =
    let step = step_at f xs i d within in
    let same : get_or items i d ≡ get_or xs i d = ap (λ l. get_or l i d) before ∙ step.here in
    let value : new ≡ f (get_or xs i d) = changed ∙ ap f same in
    let next : set items i new ≡ map f (take (suc i) xs) ++ drop (suc i) xs =
    ap (λ l. set l i new) before ∙ ap (λ v. set (map f (take i xs) ++ drop i xs) i v) value ∙ step.next in
    rw add-one next
