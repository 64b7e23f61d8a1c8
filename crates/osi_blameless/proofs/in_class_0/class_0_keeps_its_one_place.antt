-- At a judge one connection has class 0, with a reference of the end, and of all others the references are gone: so it stays as packets
-- begin and as units pass in class 0. For the session of the connection of an end in class 0.
use Rattle.osi_blameless.proofs.Vocabulary.{arith, ◌≡◌, ◌∙◌, ◌⊎◌, inl, inr, refl, sym, ap, subst, ℕ, Bool, true, false, set, Some, None}
use Rattle.osi_blameless.proofs.Vocabulary.{Course, unit_passes, ◌==◌, slice_get, eqb-true, slice_get-map, Connect, Value, acknowledge}
use Rattle.osi_blameless.proofs.Vocabulary.{confirm, data0, data2, disconnect, disconnected, error, request, Zero, Direction, Connection}
use Rattle.osi_blameless.proofs.Vocabulary.{Reach, begins, is_refused, State, class_for, connection_after, is_stopped, meaning_if, meant}
use Rattle.osi_blameless.proofs.Vocabulary.{route_zero, routed, takes, unlike, after_change, set_there, Joined, Sessions, all_begin}
use Rattle.osi_blameless.proofs.Vocabulary.{reference_of, taken, way_of, HaveSamePlaces}
use Rattle.osi_rules.specs.declared.directions.Direction.{Direction as Way}
use Rattle.osi_rules.specs.Traffic as traffic
use Rattle.osi_judge.specs.Connections.{packet_begins}
use Rattle.osi_judge.specs.Connections as joined
use Rattle.osi_blameless.proofs.keeping.what_a_taker_passes_over.{IsMild}
use Rattle.osi_blameless.proofs.standing.all_connections_stand.{map_of}
use Rattle.osi_blameless.proofs.transport.requests.one_request_waits.{set_other}
use Rattle.osi_blameless.proofs.shown.connections_have_the_same_places.{unit_joins, unit_knows}
use Rattle.osi_blameless.proofs.standing.what_a_unit_does_at_its_place.{Does, asks_again, asks_more, nowhere, somewhere, unit_does}
use Rattle.osi_blameless.proofs.small_facts_that_many_lemmas_use.{same_one}
use Rattle.osi_blameless.proofs.standing.what_stands_of_a_connection.{named_begun}

-- The called side has not refused the connection at this place, to which this side gave this reference. Of each other one, the reference
-- of this side is gone.
pub record HasOne (d : Direction) (r : ℕ) (gone : ℕ → Type 0) (s : State) (t : Sessions) : Type 0 where
  pub place : ℕ
  pub connection : Connection
  pub there : slice_get s.connections place ≡ Some connection
  pub up : is_refused connection.right.phase ≡ false
  pub mine : (j : Joined) → slice_get t.live place ≡ Some j → reference_of d j ≡ Some r
  pub others : (i : ℕ) (j : Joined) (q : ℕ) → (i ≡ place → ⊥) → slice_get t.live i ≡ Some j → reference_of d j ≡ Some q → gone q
  pub done : (i : ℕ) (j : Joined) (q : ℕ) → slice_get t.done i ≡ Some j → reference_of d j ≡ Some q → gone q

pub still_gone : (d : Direction) (r : ℕ) (gone then_gone : ℕ → Type 0) (s : State) (t : Sessions) → ((q : ℕ) → gone q → then_gone q) →
    HasOne d r gone s t → HasOne d r then_gone s t
still_gone d r gone then_gone s t f h = grind arith

-- ---- a packet begins

pub one_begins : (d e : Direction) (r : ℕ) (gone : ℕ → Type 0) (s : State) (t : Sessions) → HasOne d r gone s t →
    HasOne d r gone (traffic.packet_begins (way_of e) s) (all_begin e t)
one_begins d e r gone s t h = search (arith, map_of, named_begun, slice_get-map (begins (way_of e)) s.connections h.place)

-- ---- a unit in class 0

-- a DT or a DC; or an ER for no connection
abbrev pub IsStill : Direction → Value → State → Type 0
IsStill e (data0 end user) s = Unit {0}
IsStill e (disconnected n source) s = Unit {0}
IsStill e (error n cause) s = (takes (way_of e) (error n cause) s).told.place ≡ None
IsStill e (request x) s = ⊥
IsStill e (confirm n x) s = ⊥
IsStill e (disconnect n source reason user) s = ⊥
IsStill e (data2 n number end user) s = ⊥
IsStill e (acknowledge credit n number) s = ⊥

error_nowhere : (d : Way) (b : Bool) (n cause : ℕ) (s : State) →
    (routed d (error n cause) s (route_zero d b (error n cause))).told.place ≡ None
error_nowhere d b n cause s = grind arith

module _ (e : Direction) (s : State) (goes : is_stopped (way_of e) s.course ≡ false)
    (zero : class_for (way_of e) s.course ≡ Some Zero) where
  -- every other unit is a break that is not passed over
  pub zero_still : (v : Value) → IsMild v (takes (way_of e) v s).told.finding → IsStill e v s
  zero_still v mild = grind (arith, error_nowhere)

-- ---- what it leaves

-- at a place
abbrev IsHere : Value → Type 0
IsHere (data0 end user) = Unit {0}
IsHere (disconnected n source) = Unit {0}
IsHere (error n cause) = ⊥
IsHere (request x) = ⊥
IsHere (confirm n x) = ⊥
IsHere (disconnect n source reason user) = ⊥
IsHere (data2 n number end user) = ⊥
IsHere (acknowledge credit n number) = ⊥

after_up : (d : Way) (v : Value) (b : Bool) (x : Reach) (c : Connection) → IsHere v → is_refused c.right.phase ≡ false →
    is_refused (connection_after d v b x c).right.phase ≡ false
after_up d v b x c h up = grind arith

meant_named : (d e : Direction) (at : ℕ) (v : Value) (b : Bool) (j : Joined) → IsHere v →
    reference_of d (joined.meant e at v (meaning_if b (meant v)) j) ≡ reference_of d j
meant_named d e at v b j h = grind arith

here_so : (e : Direction) (v : Value) (s : State) (i : ℕ) → IsStill e v s → (takes (way_of e) v s).told.place ≡ Some i → IsHere v
here_so e v s i h is = grind arith

no_cr : {A : Type 0} (e : Direction) (v : Value) (s : State) (x : Connect) → v ≡ request x → IsStill e v s → A
no_cr e v s x is h = absurd (subst (λ (u : Value). IsStill e u s) is h)

module _ (d e : Direction) (r : ℕ) (gone : ℕ → Type 0) (at : ℕ) (v : Value) (s : State) (t : Sessions) (h : HasOne d r gone s t) where
  abbrev After : State → Sessions → Type 0
  After s t = HasOne d r gone s t

  -- the connection at this place changes
  module _ (p : ℕ) (c : Connection) (k : Joined) (b : Bool) (x : Reach) (there : slice_get s.connections p ≡ Some c)
      (here : slice_get t.live p ≡ Some k) (kind : IsHere v) where
    abbrev new : Connection
    new = connection_after (way_of e) v b x c

    abbrev next : Joined
    next = joined.meant e at v (meaning_if b (meant v)) k

    mine_by : (j : Joined) → ((h.place ≡ p) × (j ≡ next)) ⊎ ((h.place ≡ p → ⊥) × (slice_get t.live h.place ≡ Some j)) →
        reference_of d j ≡ Some r
    mine_by j (inl (same, is)) = ap (reference_of d) is ∙ (grind (arith, meant_named)) ∙ h.mine k (ap (slice_get t.live) same ∙ here)
    mine_by j (inr (apart, is)) = h.mine j is

    others_by : (i : ℕ) (j : Joined) (q : ℕ) → (i ≡ h.place → ⊥) →
        ((i ≡ p) × (j ≡ next)) ⊎ ((i ≡ p → ⊥) × (slice_get t.live i ≡ Some j)) → reference_of d j ≡ Some q → gone q
    others_by i j q apart (inl (same, is)) named_q = grind (arith, meant_named)
    others_by i j q apart (inr (other, is)) named_q = h.others i j q apart is named_q

    place_by : (y : Bool) → (h.place == p) ≡ y →
        (z : Connection) × (slice_get (set s.connections p new) h.place ≡ Some z) × (is_refused z.right.phase ≡ false)
    place_by true is =
        let same = eqb-true h.place p is in
        let one : h.connection ≡ c = same_one h.connection c (sym h.there ∙ ap (slice_get s.connections) same ∙ there) in (
          new,
          ap (slice_get (set s.connections p new)) same ∙ set_there s.connections p new c there,
          after_up (way_of e) v b x c kind (ap (λ (z : Connection). is_refused z.right.phase) (sym one) ∙ h.up),
        )
    place_by false is = (h.connection, set_other s.connections p h.place new (unlike h.place p is) ∙ h.there, h.up)

    changed_one : After (record s { connections = set s.connections p new }) (record t { live = set t.live p next })
    changed_one =
        let (z, at_z, up) = place_by (h.place == p) refl in
        record {
          place = h.place;
          connection = z;
          there = at_z;
          up = up;
          mine = λ j is. mine_by j (after_change t.live p h.place next j is);
          others = λ i j q apart is named_q. others_by i j q apart (after_change t.live p i next j is) named_q;
          done = h.done;
        }

  same_conns : (after : State) (joins : Sessions) → after.connections ≡ s.connections → joins ≡ t → After after joins
  same_conns after joins cs ts = grind arith

  as_other : (after other : State) (joins : Sessions) → after.connections ≡ other.connections → After other joins → After after joins
  as_other after other joins cs one = search arith

  one_by : IsStill e v s → Does e at v s t (takes (way_of e) v s) → After (takes (way_of e) v s).state
      (taken e at v (takes (way_of e) v s).told.meaning (takes (way_of e) v s).told.place t)
  one_by still (nowhere place cs ts) = same_conns (takes (way_of e) v s).state _ cs ts
  one_by still (somewhere p c k b x place there here one finding is far cs ts) =
      subst (After (takes (way_of e) v s).state) (sym ts)
      (as_other (takes (way_of e) v s).state
      (record s { connections = set s.connections p (connection_after (way_of e) v b x c) })
      (record t { live = set t.live p (joined.meant e at v (meaning_if b (meant v)) k) }) cs
      (changed_one p c k b x there here (here_so e v s p still place)))
  one_by still (asks_more x is number cs ts) = no_cr e v s x is still
  one_by still (asks_again x is number p k here free cs ts) = no_cr e v s x is still

  one_passes : HaveSamePlaces s.connections t.live → IsStill e v s → After (takes (way_of e) v s).state
      (taken e at v (takes (way_of e) v s).told.meaning (takes (way_of e) v s).told.place t)
  one_passes places still = one_by still (unit_does e at v s t places)

-- so it is at a judge
pub one_stays : (d e : Direction) (r : ℕ) (gone : ℕ → Type 0) (at : ℕ) (v : Value) (c : Course) → HasOne d r gone c.traffic c.sessions →
    HaveSamePlaces c.traffic.connections c.sessions.live → IsStill e v c.traffic →
    HasOne d r gone (unit_passes e at v c).traffic (unit_passes e at v c).sessions
one_stays d e r gone at v c one places still = search (arith, unit_knows, unit_joins, one_passes)
