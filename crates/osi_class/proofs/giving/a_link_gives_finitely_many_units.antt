-- All that a link gives: a finite list of units.
use Rattle.std.proofs.Common.{◌≡◌, ℕ, zero, suc, ◌-◌, ◌<◌, ◌≤◌, [], ◌∷◌, map, Option, Some, None, refl, arith, is_some}
use Rattle.osi_class.proofs.Vocabulary.{Ends, Flow, drained_by, drained_within, drained, left_to_give, Standing, Given, next, is_of_two}
use Rattle.osi_class.proofs.Vocabulary.{give_out, MovesAlong}
use Rattle.osi_class.proofs.giving.giving_ends.{giving_lowers}
use Rattle.osi_class.proofs.between.parts_stay_in_order.{at_some}

-- giving a unit leaves the receiving state unchanged; and the class of the unit
pub record LeavesTaking (e : Ends) (flow : Option Flow) (g : Given) (new : Standing) : Type 0 where
  pub limit : new.ends.limit ≡ e.limit
  pub joining : new.ends.joining ≡ e.joining
  pub class : is_some new.flow ≡ is_some flow
  pub unit : is_of_two g ≡ is_some flow

pub giving_leaves : (old new : Standing) (given : Given) → next old ≡ Some (given, new) → LeavesTaking old.ends old.flow given new
giving_leaves old new given e = search (arith, at_some)

-- more fuel makes no difference
within_enough : (n m : ℕ) (s : Standing) → 0 < s.ends.limit → left_to_give s ≤ n → left_to_give s ≤ m →
    drained_within n s ≡ drained_within m s
within_enough zero zero s room a b = refl
within_enough zero (suc m) s room a b = grind arith
within_enough (suc n) zero s room a b = grind arith
within_enough (suc n) (suc m) s room a b =
    elim (next s) as (λ o. next s ≡ o → drained_by o s (drained_within n) ≡ drained_by o s (drained_within m)) [
      | None ↦ λ e. refl
      | Some p ↦ λ e. let less = giving_lowers s p.1 p.0 room e in
          grind (arith, giving_leaves, within_enough n m p.1 (grind (arith, giving_leaves)) (omega arith) (omega arith))
    ] refl

pub within_none : (n : ℕ) (s : Standing) → next s ≡ None → drained_within n s ≡ record { units = []; link = s }
within_none n s e = grind arith

pub drained_none : (s : Standing) → next s ≡ None → drained s ≡ record { units = []; link = s }
unfolding drained
drained_none s e = within_none (left_to_give s) s e

-- one step, if this much is left
first_step : (n : ℕ) (s t : Standing) (g : Given) → 0 < s.ends.limit → next s ≡ Some (g, t) → left_to_give s ≡ suc n →
    drained s ≡ record { units = g ∷ (drained t).units; link = (drained t).link }
unfolding drained
first_step n s t g room e is = grind (arith, giving_lowers, within_enough)

pub drained_some : (s t : Standing) (g : Given) → 0 < s.ends.limit → next s ≡ Some (g, t) →
    drained s ≡ record { units = g ∷ (drained t).units; link = (drained t).link }
drained_some s t g room e =
    let less = giving_lowers s t g room e in
    first_step (left_to_give s - 1) s t g room e (omega arith)

within_ends : (n : ℕ) (s : Standing) → 0 < s.ends.limit → left_to_give s ≤ n → next (drained_within n s).link ≡ None
within_ends zero s room a = grind (arith, giving_lowers)
within_ends (suc n) s room a =
    elim (next s) as (λ o. next s ≡ o → next (drained_by o s (drained_within n)).link ≡ None) [
      | None ↦ λ e. e
      | Some p ↦ λ e. let less = giving_lowers s p.1 p.0 room e in
          within_ends n p.1 (grind (arith, giving_leaves)) (omega arith)
    ] refl

pub drained_ends : (s : Standing) → 0 < s.ends.limit → next (drained s).link ≡ None
unfolding drained
drained_ends s room = within_ends (left_to_give s) s room (omega arith)

-- the calls of next_out that give all of it
within_moves : (n : ℕ) (s : Standing) → MovesAlong s (map give_out (drained_within n s).units) (drained_within n s).link
within_moves zero s = refl
within_moves (suc n) s =
    elim (next s) as (λ o. next s ≡ o →
    MovesAlong s (map give_out (drained_by o s (drained_within n)).units) (drained_by o s (drained_within n)).link) [
      | None ↦ λ e. refl
      | Some p ↦ λ e. (p.1, e, within_moves n p.1)
    ] refl

pub drained_moves : (s : Standing) → MovesAlong s (map give_out (drained s).units) (drained s).link
unfolding drained
drained_moves s = within_moves (left_to_give s) s

within_leaves : (n : ℕ) (s : Standing) → ((drained_within n s).link.ends.limit ≡ s.ends.limit) ×
    ((drained_within n s).link.ends.joining ≡ s.ends.joining) × (is_some (drained_within n s).link.flow ≡ is_some s.flow)
within_leaves zero s = (refl, refl, refl)
within_leaves (suc n) s =
    elim (next s) as (λ o. next s ≡ o → ((drained_by o s (drained_within n)).link.ends.limit ≡ s.ends.limit) ×
    ((drained_by o s (drained_within n)).link.ends.joining ≡ s.ends.joining) ×
    (is_some (drained_by o s (drained_within n)).link.flow ≡ is_some s.flow)) [
      | None ↦ λ e. (refl, refl, refl)
      | Some p ↦ grind (arith, giving_leaves, within_leaves n p.1)
    ] refl

pub drained_leaves : (s : Standing) → ((drained s).link.ends.limit ≡ s.ends.limit) ×
    ((drained s).link.ends.joining ≡ s.ends.joining) × (is_some (drained s).link.flow ≡ is_some s.flow)
unfolding drained
drained_leaves s = within_leaves (left_to_give s) s
