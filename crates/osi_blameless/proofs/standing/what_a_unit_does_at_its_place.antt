-- What a unit that passes does to the connections: nothing, or to the one at its place, or it asks for a new one; for the rules of
-- transport and for what is joined alike.
-- For all connections of an end and a judge.
use Rattle.osi_blameless.proofs.Vocabulary.{[], ap, arith, Bool, false, if◌then◌else◌, length, None, Option, refl, set, Some, true, ℕ, ◌++◌}
use Rattle.osi_blameless.proofs.Vocabulary.{◌∷◌, ◌≡◌, slice_get_past, position, slice_get, offset_of, Connect, request, Value, first_true}
use Rattle.osi_blameless.proofs.Vocabulary.{is_applied, reach_of, first_failed, is_free, is_live, is_named, asked_by, asks_by, asks_kept}
use Rattle.osi_blameless.proofs.Vocabulary.{asks_of, at_found, at_place, class_for, connection_after, found_on, is_stopped, meaning_if}
use Rattle.osi_blameless.proofs.Vocabulary.{meant, none_told, Outcome, request_tests, route, routed, Traffic as State, takes, Connection}
use Rattle.osi_blameless.proofs.Vocabulary.{Finding, Kept, NotJudged, Reach, Route, Asks, Named, Only, Unnamed, Direction, asked, count}
use Rattle.osi_blameless.proofs.Vocabulary.{Joined, placed, Sessions, taken, way_of, first_there, HaveSamePlaces, IsOneOf}
use Rattle.osi_judge.specs.Connections as joined
use Rattle.osi_blameless.proofs.shown.connections_have_the_same_places.{as_long, at_same, not_asked}

-- only what is judged is over
free_judged : (c : Connection) → is_free c ≡ true → c.is_judged ≡ true
free_judged c h = grind arith

-- what a unit does of which this is told
pub data Does (d : Direction) (at : ℕ) (v : Value) (s : State) (t : Sessions) (o : Outcome) : Type 0 where
  -- it is for no connection
  nowhere : o.told.place ≡ None → o.state.connections ≡ s.connections → taken d at v o.told.meaning o.told.place t ≡ t →
      Does d at v s t o
  -- it is for this one
  somewhere : (i : ℕ) (c : Connection) (j : Joined) (b : Bool) (r : Reach) → o.told.place ≡ Some i → slice_get s.connections i ≡ Some c →
      slice_get t.live i ≡ Some j → IsOneOf c j → o.told.finding ≡ found_on (way_of d) s c v →
      is_applied (found_on (way_of d) s c v) ≡ b → o.told.reach ≡ r →
      o.state.connections ≡ set s.connections i (connection_after (way_of d) v b r c) →
      taken d at v o.told.meaning o.told.place t ≡ record t { live = set t.live i (joined.meant d at v (meaning_if b (meant v)) j) } →
      Does d at v s t o
  -- it is a CR, which gets a new place, or that of one that is over
  asks_more : (x : Connect) → v ≡ request x → (number : ℕ) → o.state.connections ≡ s.connections ++ asked_by x ∷ [] →
      taken d at v o.told.meaning o.told.place t ≡ record t { live = t.live ++ asked number x.source t.room ∷ [] } →
      Does d at v s t o
  asks_again : (x : Connect) → v ≡ request x → (number i : ℕ) (j : Joined) → slice_get t.live i ≡ Some j →
      ((free : Connection) × (slice_get s.connections i ≡ Some free) × (free.is_judged ≡ true)) →
      o.state.connections ≡ set s.connections i (asked_by x) →
      taken d at v o.told.meaning o.told.place t
      ≡ record t { live = set t.live i (asked number x.source t.room); done = t.done ++ j ∷ [] } → Does d at v s t o

module _ (d : Direction) (at : ℕ) (v : Value) (s : State) (t : Sessions) (h : HaveSamePlaces s.connections t.live) where
  does_one : (i : ℕ) (o : Option Connection) → slice_get s.connections i ≡ o → Does d at v s t (at_found (way_of d) v s i o)
  does_one i None e = nowhere refl refl refl
  does_one i (Some c) e =
      let (j, there, one) = at_same s.connections t.live i c h e in
      let b = is_applied (found_on (way_of d) s c v) in
      somewhere i c j b (reach_of (class_for (way_of d) s.course) (found_on (way_of d) s c v)) refl e there one refl refl refl refl
      (grind (arith, not_asked))

  does_any : (i : Option ℕ) → Does d at v s t (at_place (way_of d) v s i)
  does_any None = nowhere refl refl refl
  does_any (Some i) = does_one i (slice_get s.connections i) refl

module _ (d : Direction) (at : ℕ) (x : Connect) (s : State) (t : Sessions) (h : HaveSamePlaces s.connections t.live) where
  abbrev new : Joined
  new = asked (offset_of (count t)) x.source t.room

  does_ask : (i : Option ℕ) → position is_free s.connections ≡ i → Does d at (request x) s t (asks_kept x s i)
  does_ask None e =
      let past = slice_get_past t.live (length s.connections) (let l = as_long s.connections t.live h in omega (arith, l)) in
      asks_more x refl (offset_of (count t)) refl (ap (λ (o : Option Joined). placed (length s.connections) new t o) past)
  does_ask (Some i) e =
      let (free, there) = first_there is_free s.connections i i (asked_by x) e in
      let (over, here, was) = at_same s.connections t.live i free h there in
      asks_again x refl (offset_of (count t)) i over here
      (free, there, free_judged free (first_true is_free s.connections i free e there)) refl
      (ap (λ (o : Option Joined). placed i new t o) here)

  does_by : (f : Finding) → Does d at (request x) s t (asks_by (way_of d) f x s)
  does_by Kept = does_ask (position is_free s.connections) refl
  does_by _ = nowhere refl refl refl

asks_does : (d : Direction) (at : ℕ) (v : Value) (s : State) (t : Sessions) → HaveSamePlaces s.connections t.live →
    Does d at v s t (asks_of (way_of d) v s)
asks_does d at (request c) s t h = does_by d at c s t h (first_failed (request_tests s c))
asks_does d at _ s t h = nowhere refl refl refl

routed_does : (d : Direction) (at : ℕ) (v : Value) (s : State) (t : Sessions) (r : Route) → HaveSamePlaces s.connections t.live →
    Does d at v s t (routed (way_of d) v s r)
routed_does d at v s t Asks h = asks_does d at v s t h
routed_does d at v s t (Named n) h = does_any d at v s t h (position (is_named (way_of d) n) s.connections)
routed_does d at v s t Only h = does_any d at v s t h (position (is_live (way_of d)) s.connections)
routed_does d at v s t (Unnamed finding) h = nowhere refl refl refl

judged_does : (b : Bool) (d : Direction) (at : ℕ) (v : Value) (s : State) (t : Sessions) (r : Route) →
    HaveSamePlaces s.connections t.live →
    Does d at v s t (if b then none_told (way_of d) NotJudged s else routed (way_of d) v s r)
judged_does true d at v s t r h = nowhere refl refl refl
judged_does false d at v s t r h = routed_does d at v s t r h

pub unit_does : (d : Direction) (at : ℕ) (v : Value) (s : State) (t : Sessions) → HaveSamePlaces s.connections t.live →
    Does d at v s t (takes (way_of d) v s)
unit_does d at v s t h = judged_does (is_stopped (way_of d) s.course) d at v s t (route (way_of d) s.course v) h
