-- An end of class 2 hears each unit of the other side: a DT that has its effect adds to what is left over at its connection alone, and
-- after any other unit what is left over at a connection that is judged stays. So all its connections stand after each unit; and nobody of
-- the end is to blame at those that have lost their judgement. For all connections of an end and a judge.
use Rattle.osi_blameless.proofs.Vocabulary.{[], Bool, false, List, None, refl, Some, subst, sym, true, ℕ, ◌++◌, ◌∷◌, ◌≡◌, slice_get}
use Rattle.osi_blameless.proofs.Vocabulary.{acknowledge, confirm, data0, data2, destination_of, disconnect, disconnected, error, request}
use Rattle.osi_blameless.proofs.Vocabulary.{Connect, Value, Zero, is_applied, is_refused, class_for, found_on, is_stopped, takes}
use Rattle.osi_blameless.proofs.Vocabulary.{Traffic as State, Connection, Broke, Left, Right, Direction, other, IsOngoing, Deeds, Joined}
use Rattle.osi_blameless.proofs.Vocabulary.{reference_of, Sessions, unit_passes, judged_same, arith, way_of, Course}
use Rattle.osi_rules.specs.declared.directions.Direction.{Direction as Way}
use Rattle.osi_rules.specs.declared.directions.Direction.TheVariants as way
use Rattle.osi_rules.specs.declared.findings.Reach.TheVariants as reach
use Rattle.osi_rules.specs.declared.findings.Rule.TheVariants as rule
use Rattle.osi_blameless.proofs.keeping.a_break_ends_no_judging_or_all.{takes_reach}
use Rattle.osi_blameless.proofs.shown.a_dt_that_is_no_break_is_right.{found_two}
use Rattle.osi_blameless.proofs.coming.a_unit_after_a_dr_leaves_all_standing.{after_keeps}
use Rattle.osi_blameless.proofs.shown.a_unit_is_joined_where_it_is_named.{joined_any}
use Rattle.osi_blameless.proofs.standing.nobody_of_a_side_is_to_blame.{NoneIsToBlame}
use Rattle.osi_blameless.proofs.standing.all_connections_stand.{AllStand, Loses, all_room}
use Rattle.osi_blameless.proofs.shown.connections_have_the_same_places.{at_same, unit_joins, unit_knows}
use Rattle.osi_blameless.proofs.putting.nothing_is_done_before_a_cr_passes.{known_from}
use Rattle.osi_blameless.proofs.putting.references_of_an_end_are_distinct.{AreDistinct, GivesNew, stays_so, unit_distinct}
use Rattle.osi_blameless.proofs.standing.right_units_leave_all_standing.{dt, link_placed}
use Rattle.osi_blameless.proofs.coming.the_dr_of_the_other_side_is_in_flight.{AreShut, HaveRoom, other_shut}
use Rattle.osi_blameless.proofs.standing.what_a_unit_does_at_its_place.{Does, unit_does}
use Rattle.osi_blameless.proofs.shown.what_has_no_effect_joins_nothing.{joins_none}
use Rattle.osi_blameless.proofs.standing.what_holds_of_a_lost_connection.{now_so}
use Rattle.osi_blameless.proofs.standing.what_is_left_for_an_end.{known_left, left_grows, left_same}
use Rattle.osi_blameless.proofs.standing.what_passes_leaves_all_standing.{AllGoesOn, IsHeard, no_zero, other_stands}
use Rattle.osi_blameless.proofs.standing.what_stands_of_a_connection.{waiting_for}

-- ---- units of the other side

-- Both sides are judged, in class 2 or before a class is known, and all judging does not end with the unit. If a connection loses its
-- judgement with it, nobody is to blame there.
pub record IsHeardOn (d : Direction) (v : Value) (c : Course) : Type 0 where
  pub lasts : IsOngoing c.traffic.course
  pub goes : is_stopped (way_of (other d)) c.traffic.course ≡ false
  pub two : class_for (way_of (other d)) c.traffic.course ≡ Some Zero → ⊥
  pub on : AllGoesOn v d c.traffic
  pub loses : (takes (way_of (other d)) v c.traffic).told.reach ≡ reach.Connection → NoneIsToBlame d c.sessions

-- each, as it passes
abbrev pub AreFine : Direction → ℕ → List Value → Course → Type 0
AreFine d at [] c = Unit {0}
AreFine d at (v ∷ vs) c = IsHeardOn d v c × AreFine d at vs (unit_passes (other d) at v c)

-- ---- a DT without an effect, after which its connection is judged, comes after a DR

dt_closed : (d : Way) (n number : ℕ) (end : Bool) (user : List ℕ) (s : State) (e : Connection) → e.is_judged ≡ true →
    (takes d (data2 n number end user) s).told.finding ≡ found_on d s e (data2 n number end user) →
    (class_for d s.course ≡ Some Zero → ⊥) → is_applied (takes d (data2 n number end user) s).told.finding ≡ false →
    ((takes d (data2 n number end user) s).told.reach ≡ reach.Everything → ⊥) →
    ((takes d (data2 n number end user) s).told.reach ≡ reach.Connection → ⊥) →
    (takes d (data2 n number end user) s).told.finding ≡ Broke rule.Closed
dt_closed d n number end user s e judged finding two none all part = search (arith, judged_same, found_two, takes_reach)

other_twice : (d : Direction) → other (other d) ≡ d
other_twice d = grind arith

-- ---- its place

-- what the judge knows of the connection that a unit is for
record IsAt (e : Direction) (v : Value) (c : Course) : Type 0 where
  place : ℕ
  connection : Connection
  joined : Joined
  told : (takes (way_of e) v c.traffic).told.place ≡ Some place
  there : slice_get c.traffic.connections place ≡ Some connection
  here : slice_get c.sessions.live place ≡ Some joined

at_by : (e : Direction) (at : ℕ) (v : Value) (n : ℕ) (c : Course) → destination_of v ≡ Some n →
    ((takes (way_of e) v c.traffic).told.place ≡ None → ⊥) → Does e at v c.traffic c.sessions (takes (way_of e) v c.traffic) → IsAt e v c
at_by e at v n c dest some h = grind arith

-- ---- what is heard

-- no unit of a calling end waits for the reference that a CC gives
abbrev pub IsNotAwaited : Direction → (put : List Value) → Value → State → Type 0
IsNotAwaited Left put (confirm n x) s = is_applied (takes way.Right (confirm n x) s).told.finding ≡ true →
    waiting_for (Some x.source) put ≡ []
IsNotAwaited d put v s = Unit {0}

module _ (is_live : ℕ → Bool) (put coming : List Value) where
  cc_heard : (d : Direction) (n : ℕ) (x : Connect) (s : State) (t : Sessions) → IsNotAwaited d put (confirm n x) s →
      IsHeard d (known_left is_live coming) (known_left is_live (coming ++ confirm n x ∷ [])) (confirm n x) put s t
  cc_heard Left n x s t none = (none, λ r later sure. left_same is_live coming (confirm n x) r later refl sure)
  cc_heard Right n x s t none = λ r later sure. left_same is_live coming (confirm n x) r later refl sure

  heard_from : (d : Direction) (v : Value) (s : State) (t : Sessions) →
      IsHeard d (known_left is_live coming) (known_left is_live (coming ++ v ∷ [])) v put s t →
      IsHeard d (known_from is_live coming) (known_from is_live (coming ++ v ∷ [])) v put s t
  heard_from d (data2 n number end user) s t h = (
    λ later sure. (sure.0, h.0 later sure.1),
    record {
      live = λ p i j apart told here r later named sure. (sure.0, h.1.live p i j apart told here r later named sure.1);
      done = λ i j here r later named sure. (sure.0, h.1.done i j here r later named sure.1);
    },
    λ p e j place there here judged finding none part r later named sure.
        (sure.0, h.2 p e j place there here judged finding none part r later named sure.1),
  )
  heard_from Left (confirm n x) s t h = (h.0, λ r later sure. (sure.0, h.1 r later sure.1))
  heard_from Right (confirm n x) s t h = λ r later sure. (sure.0, h r later sure.1)
  heard_from d (request x) s t h = λ r later sure. (sure.0, h r later sure.1)
  heard_from d (disconnect n source reason user) s t h = λ r later sure. (sure.0, h r later sure.1)
  heard_from d (disconnected n source) s t h = λ r later sure. (sure.0, h r later sure.1)
  heard_from d (data0 end user) s t h = λ r later sure. (sure.0, h r later sure.1)
  heard_from d (acknowledge credit n number) s t h = λ r later sure. (sure.0, h r later sure.1)
  heard_from d (error n cause) s t h = λ r later sure. (sure.0, h r later sure.1)

module _ (d : Direction) (deeds : ℕ → Deeds) (is_live : ℕ → Bool) (put : List Value) (begun : Bool) (at : ℕ) where
  -- all connections stand, are distinct, and the DRs of the other side are in flight
  pub record AreHeard (coming : List Value) (c : Course) : Type 0 where
    pub stand : AllStand d deeds (known_from is_live coming) put begun c.traffic c.sessions
    pub distinct : AreDistinct d c.sessions
    pub shut : AreShut d is_live coming c.traffic c.sessions

  module _ (coming : List Value) (c : Course) (h : AreHeard coming c) where
    rooms : HaveRoom c.sessions
    rooms i j here = all_room d deeds (known_from is_live coming) put begun c.traffic c.sessions h.stand i j here

    pub lost_known : (i : ℕ) (e : Connection) → slice_get c.traffic.connections i ≡ Some e → e.is_judged ≡ false →
        is_refused e.seen_by_left.phase ≡ false
    lost_known i e there lost =
        let (j, here, one) = at_same c.traffic.connections c.sessions.live i e h.stand.places there in
        (h.stand.lost i e j there here lost).left_knows

    dt_heard : (n number : ℕ) (end : Bool) (user : List ℕ) → IsHeardOn d (data2 n number end user) c →
        IsHeard d (known_left is_live coming) (known_left is_live (coming ++ data2 n number end user ∷ [])) (data2 n number end user) put
        c.traffic c.sessions
    dt_heard n number end user p =
        let v : Value = data2 n number end user in
        let a = h.stand in
        let k = at_by (other d) at v n c refl
        (λ none. link_placed (way_of (other d)) v n c.traffic (dt number end user refl) p.goes p.two p.on none)
        (unit_does (other d) at v c.traffic c.sessions a.places) in
        let named = subst (λ (e : Direction). reference_of e k.joined ≡ Some n) (other_twice d)
        (joined_any (other d) v c n k.place k.connection k.joined a.places refl k.told k.there
        (λ lost. lost_known k.place k.connection k.there lost) k.here) in (
          λ later sure. left_grows is_live coming n number end user later sure,
          stays_so d is_live coming n number end user c.traffic c.sessions k.place k.joined h.distinct k.here named k.told,
          λ i e j place there here judged finding none part r later mine sure.
              after_keeps d is_live coming at v c
              (record {
                n = n;
                link = dt number end user refl;
                closed = dt_closed (way_of (other d)) n number end user c.traffic e judged finding p.two none p.on part;
              }) h.shut a.places r later sure,
        )

    unit_heard : (v : Value) → IsHeardOn d v c → IsNotAwaited d put v c.traffic →
        IsHeard d (known_left is_live coming) (known_left is_live (coming ++ v ∷ [])) v put c.traffic c.sessions
    unit_heard (data2 n number end user) p none = dt_heard n number end user p
    unit_heard (data0 end user) p none = no_zero (way_of (other d)) end user c.traffic p.goes p.two p.on
    unit_heard (confirm n x) p none = cc_heard is_live put coming d n x c.traffic c.sessions none
    unit_heard (request x) p none = λ r later sure. left_same is_live coming (request x) r later refl sure
    unit_heard (disconnect n source reason user) p none =
        λ r later sure. left_same is_live coming (disconnect n source reason user) r later refl sure
    unit_heard (disconnected n source) p none = λ r later sure. left_same is_live coming (disconnected n source) r later refl sure
    unit_heard (acknowledge credit n number) p none =
        λ r later sure. left_same is_live coming (acknowledge credit n number) r later refl sure
    unit_heard (error n cause) p none = λ r later sure. left_same is_live coming (error n cause) r later refl sure

    then_distinct : (v : Value) (x : Bool) → is_applied (takes (way_of (other d)) v c.traffic).told.finding ≡ x →
        (is_applied (takes (way_of (other d)) v c.traffic).told.finding ≡ true → GivesNew d v c.sessions) →
        AreDistinct d (unit_passes (other d) at v c).sessions
    then_distinct v false none new = subst (AreDistinct d) (sym (joins_none (other d) at v c none)) h.distinct
    then_distinct v true applied new =
        subst (AreDistinct d) (sym (unit_joins (other d) at v c))
        (unit_distinct d (other d) at v c.traffic c.sessions h.stand.places h.distinct (new applied) rooms)

    loses_so : (v : Value) → IsHeardOn d v c → Loses d (other d) v c.traffic c.sessions
    loses_so v p i e j place there here one judged far =
        now_so d v c.traffic i e j one (h.stand.apart.sound i e there judged) judged there p.two place far ((p.loses far).live i j here)
        (rooms i j here)

    -- so it is after a unit
    pub one_heard : (v : Value) → IsHeardOn d v c → IsNotAwaited d put v c.traffic →
        (is_applied (takes (way_of (other d)) v c.traffic).told.finding ≡ true → GivesNew d v c.sessions) →
        AreHeard (coming ++ v ∷ []) (unit_passes (other d) at v c)
    one_heard v p none new = record {
      stand = other_stands d deeds (known_from is_live coming) (known_from is_live (coming ++ v ∷ [])) at v put begun c p.goes p.two p.on
          (heard_from is_live put coming d v c.traffic c.sessions (unit_heard v p none)) (loses_so v p) h.stand;
      distinct = then_distinct v (is_applied (takes (way_of (other d)) v c.traffic).told.finding) refl new;
      shut = subst (λ (s : State). AreShut d is_live (coming ++ v ∷ []) s (unit_passes (other d) at v c).sessions)
          (sym (unit_knows (other d) at v c))
          (subst (λ (t : Sessions). AreShut d is_live (coming ++ v ∷ []) (takes (way_of (other d)) v c.traffic).state t)
          (sym (unit_joins (other d) at v c))
          (other_shut d at is_live coming c.traffic c.sessions h.stand.places rooms h.shut v));
    }
