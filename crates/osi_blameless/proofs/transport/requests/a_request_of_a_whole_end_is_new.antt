-- The CRs that a whole calling end has put and that have not passed have references above those of all connections at the judge.
-- For the law on requests.
use Rattle.osi_blameless.proofs.transport.Vocabulary.{[], AllByRecursion, arith, arrives, asked_in, begins_other, begins_own, calls}
use Rattle.osi_blameless.proofs.transport.Vocabulary.{Connect, Event, false, Happens, is_not_judged, Left, List, list_any, None, packet}
use Rattle.osi_blameless.proofs.transport.Vocabulary.{passes, passes_rubbish, refl, request, Right, rubbish, subst, suc, sym, Traffic}
use Rattle.osi_blameless.proofs.transport.Vocabulary.{unit as passing, uses, Value, Whole, ℕ, ◌<◌, ◌∷◌, ◌≡◌, ◌≤◌}
use Rattle.osi_blameless.specs.transport.Wholes.{passes_other, passes_own}
use Rattle.osi_blameless.proofs.transport.requests.a_new_reference_is_not_in_use.{AreBelow, FewAsked, all_unlike, still_below, unused}
use Rattle.osi_blameless.proofs.transport.requests.references_of_requests_rise.{Rise, rise_from}
use Rattle.osi_blameless.proofs.transport.requests.units_that_wait_give_references_above_those_that_passed.{AreAbove, above_happens, gives}
use Rattle.osi_blameless.proofs.transport.requests.units_that_wait_give_references_above_those_that_passed.{given_among}
use Rattle.osi_blameless.proofs.transport.requests.units_that_wait_give_references_above_those_that_passed.{passes_another, passes_given}

rise_parts : (n : ℕ) (v : Value) (vs : List Value) → Rise n (given_among Left (v ∷ vs)) →
    ((x : Connect) → v ≡ request x → n < x.source) × Rise n (given_among Left vs)
rise_parts n v vs rise = grind (arith, rise_from)

pub rise_all : (n : ℕ) (vs : List Value) → Rise n (given_among Left vs) →
    AllByRecursion (λ (v : Value). (x : Connect) → v ≡ request x → n < x.source) vs
rise_all n [] h = tt
rise_all n (v ∷ vs) h = let (one, more) = rise_parts n v vs h in (one, rise_all n vs more)

-- The last CR that has passed, of those of this end; those that have not passed are above it.
pub record Newer (w : Whole) : Type 0 where
  pub last : ℕ
  pub below : AreBelow (suc last) w.judge
  pub above : AreAbove Left last w

below_more : (n m : ℕ) (s : Traffic) → n ≤ m → AreBelow n s → AreBelow m s
below_more n m s h a i c at = let b = a i c at in omega arith

-- ---- a unit of the end passes

abbrev after : Value → List Value → Whole → Whole
after v put w = record w { put = put; begun = false; judge = passes (passing Left v) w.judge }

passes_asked : (c : Connect) (put : List Value) (w : Whole) → w.put ≡ request c ∷ put → Newer w → Newer (after (request c) put w)
passes_asked c put w e n =
    let k = passes_given Left n.last c.source (request c) put w (after (request c) put w) refl e refl refl n.above in
    let up = k.new_is in
    record {
      last = c.source;
      below = still_below (suc c.source) (passing Left (request c)) w.judge (omega arith, tt)
          (below_more (suc n.last) (suc c.source) w.judge (omega (arith, up)) n.below);
      above = k.above;
    }

passes_none : (v : Value) (put : List Value) (w : Whole) → FewAsked (suc w.end.given) (asked_in v) → asked_in v ≡ [] → gives Left v ≡ None →
    w.put ≡ v ∷ put → Newer w → Newer (after v put w)
passes_none v put w few none gives_none e n = record {
  last = n.last;
  below = still_below (suc n.last) (passing Left v) w.judge (subst (λ (l : List ℕ). FewAsked (suc n.last) l) (sym none) tt) n.below;
  above = passes_another Left n.last v put w (after v put w) gives_none e refl refl n.above;
}

own : (v : Value) (put : List Value) (w : Whole) → w.put ≡ v ∷ put → Newer w → Newer (after v put w)
own (request c) put w e n = passes_asked c put w e n
own v put w e n = passes_none v put w tt refl refl e n

-- ---- what happens

-- the judge sees no CR
stays : (event : Event) (old new : Whole) → Happens Left event old new → (n : Newer old) → AreBelow (suc n.last) new.judge → Newer new
stays event old new happens n below =
    record { last = n.last; below = below; above = above_happens Left n.last event old new happens n.above }

pub still_newer : (event : Event) (old new : Whole) → Happens Left event old new → Newer old → Newer new
still_newer passes_own old new (v, (put, begun, is)) n = subst Newer (sym is) (own v new.put old put n)
still_newer arrives old new h n = stays arrives old new h n (subst (λ (w : Whole). AreBelow (suc n.last) w.judge) (sym h.2) n.below)
still_newer (calls call) old new h n =
    stays (calls call) old new h n (subst (λ (w : Whole). AreBelow (suc n.last) w.judge) (sym h.1) n.below)
still_newer begins_own old new h n =
    stays begins_own old new h n
    (subst (λ (w : Whole). AreBelow (suc n.last) w.judge) (sym h.2) (still_below (suc n.last) (packet Left) old.judge tt n.below))
still_newer begins_other old new h n =
    stays begins_other old new h n
    (subst (λ (w : Whole). AreBelow (suc n.last) w.judge) (sym h) (still_below (suc n.last) (packet Right) old.judge tt n.below))
still_newer (passes_other v) old new h n =
    stays (passes_other v) old new h n
    (subst (λ (w : Whole). AreBelow (suc n.last) w.judge) (sym h.1) (still_below (suc n.last) (passing Right v) old.judge tt n.below))
still_newer passes_rubbish old new h n =
    stays passes_rubbish old new h n
    (subst (λ (w : Whole). AreBelow (suc n.last) w.judge) (sym h) (still_below (suc n.last) (rubbish Right) old.judge tt n.below))

-- ---- the next CR

-- no connection at the judge has its reference
pub record IsUnused (r : ℕ) (s : Traffic) : Type 0 where
  pub used : list_any (uses Left r) s.connections ≡ false
  pub judged : list_any (is_not_judged r) s.connections ≡ false

pub next_unused : (c : Connect) (put : List Value) (w : Whole) → w.put ≡ request c ∷ put → Newer w → IsUnused c.source w.judge
next_unused c put w e n = search (arith, below_more, unused, all_unlike)
