-- Of a connection that has lost its judgement nothing more is joined: nobody of the end is to blame there, as when it was lost, and what
-- passes leaves it so. For all connections of an end and a judge.
use Rattle.osi_blameless.proofs.Vocabulary.{arith, Bool, false, if◌then◌else◌, None, Option, refl, Some, true, ℕ, ◌≡◌, slice_get}
use Rattle.osi_blameless.proofs.Vocabulary.{acknowledge, confirm, data0, data2, destination_of, disconnect, disconnected, error, request}
use Rattle.osi_blameless.proofs.Vocabulary.{Value, Class, Two, Zero, is_applied, reach_of, begins, is_named, is_refused, class_for}
use Rattle.osi_blameless.proofs.Vocabulary.{connection_after, found_on, is_stopped, judged_on, none_told, has_broken, route, route_in}
use Rattle.osi_blameless.proofs.Vocabulary.{routed, takes, Traffic as State, Connection, Way, Finding, NotJudged, Reach, other, Direction}
use Rattle.osi_blameless.proofs.Vocabulary.{Left, Right, IsToBlame, Joined, way_of, All, IsOneOf, Sound}
use Rattle.osi_rules.specs.declared.directions.Direction.TheVariants as way
use Rattle.osi_rules.specs.declared.findings.Reach.TheVariants as reach
use Rattle.osi_rules.specs.Sides as sides
use Rattle.osi_judge.specs.Connections.{packet_begins}
use Rattle.osi_blameless.proofs.small_facts_that_many_lemmas_use.{or_first}
use Rattle.osi_blameless.proofs.shown.a_unit_is_joined_where_it_is_named.{named_there, names_there}

-- ---- what holds

-- right has answered it, and did not refuse it
pub record IsLost (d : Direction) (c : Connection) (j : Joined) : Type 0 where
  pub none : IsToBlame d j → ⊥
  pub room : j.room ≡ All
  pub right : is_refused c.right.phase ≡ false
  pub left_knows : is_refused c.seen_by_left.phase ≡ false

pub lost_begins : (d e : Direction) (c : Connection) (j : Joined) → IsLost d c j →
    IsLost d (begins (way_of e) c) (packet_begins e j)
lost_begins d Left c j h = grind arith
lost_begins d Right c j h = grind arith

-- a unit without an effect leaves it so, however far it reaches
pub lost_still : (d : Direction) (r : Reach) (c : Connection) (j : Joined) → IsLost d c j → IsLost d (judged_on r c) j
lost_still d r c j h = grind arith

-- ---- which is lost after a unit

pub was_judged : (e : Way) (v : Value) (x : Bool) (r : Reach) (c : Connection) → (connection_after e v x r c).is_judged ≡ true →
    c.is_judged ≡ true
was_judged e v x r c h = grind arith

pub now_lost : (e : Way) (v : Value) (x : Bool) (r : Reach) (c : Connection) → (connection_after e v x r c).is_judged ≡ false →
    c.is_judged ≡ true → r ≡ reach.Connection
now_lost e v x r c h was = grind arith

-- the unit has no effect then
pub part_applied : (k : Option Class) (f : Finding) → reach_of k f ≡ reach.Connection → is_applied f ≡ false
part_applied k f h = grind arith

-- nor has a unit for a connection that is lost
pub lost_applied : (e : Way) (v : Value) (s : State) (c : Connection) → c.is_judged ≡ false → is_applied (found_on e s c v) ≡ false
lost_applied e v s c lost = grind arith

-- ---- a connection that is lost by a unit of the other side

-- in class 2 such a unit has a reference
dest_by : (k : Option Class) (d : Way) (b : Bool) (v : Value) (s : State) (p : ℕ) → (k ≡ Some Zero → ⊥) →
    (routed d v s (route_in k d b v)).told.place ≡ Some p → (routed d v s (route_in k d b v)).told.reach ≡ reach.Connection →
    (n : ℕ) × (destination_of v ≡ Some n)
dest_by k d b (confirm n x) s p two place far = (n, refl)
dest_by k d b (disconnect n source reason user) s p two place far = (n, refl)
dest_by k d b (disconnected n source) s p two place far = (n, refl)
dest_by k d b (data2 n number end user) s p two place far = (n, refl)
dest_by k d b (acknowledge credit n number) s p two place far = (n, refl)
dest_by k d b (error n cause) s p two place far = (n, refl)
dest_by (Some Zero) d b v s p two place far = absurd (two refl)
dest_by None way.Left b (data0 end user) s p two place far = absurd (cc)
dest_by None way.Right b (data0 end user) s p two place far = absurd (cc)
dest_by (Some Two) way.Left b (data0 end user) s p two place far = absurd (cc)
dest_by (Some Two) way.Right b (data0 end user) s p two place far = absurd (cc)
dest_by None way.Left b (request x) s p two place far = grind arith
dest_by None way.Right b (request x) s p two place far = absurd (cc)
dest_by (Some Two) way.Left b (request x) s p two place far = grind arith
dest_by (Some Two) way.Right b (request x) s p two place far = absurd (cc)

dest_so : (b : Bool) (d : Way) (v : Value) (s : State) (p : ℕ) → (class_for d s.course ≡ Some Zero → ⊥) →
    (if b then none_told d NotJudged s else routed d v s (route d s.course v)).told.place ≡ Some p →
    (if b then none_told d NotJudged s else routed d v s (route d s.course v)).told.reach ≡ reach.Connection →
    (n : ℕ) × (destination_of v ≡ Some n)
dest_so true d v s p two place far = absurd (cc)
dest_so false d v s p two place far = dest_by (class_for d s.course) d (has_broken (sides.other d) s.course) v s p two place far

right_not : (d : Direction) (n : ℕ) (c : Connection) (j : Joined) → IsOneOf c j → c.is_judged ≡ true → is_named (way_of d) n c ≡ true →
    is_refused c.right.phase ≡ false
right_not Left n c j one judged named = grind (arith, named_there Left n c j one judged named)
right_not Right n c j one judged named = grind (arith, or_first)

pub now_so : (d : Direction) (v : Value) (s : State) (p : ℕ) (c : Connection) (j : Joined) → IsOneOf c j → Sound c →
    c.is_judged ≡ true → slice_get s.connections p ≡ Some c → (class_for (way_of (other d)) s.course ≡ Some Zero → ⊥) →
    (takes (way_of (other d)) v s).told.place ≡ Some p → (takes (way_of (other d)) v s).told.reach ≡ reach.Connection →
    (IsToBlame d j → ⊥) → j.room ≡ All → IsLost d c j
now_so d v s p c j one sound judged there two place far none room =
    let e = way_of (other d) in
    let (n, dest) = dest_so (is_stopped e s.course) e v s p two place far in
    let right = right_not (other d) n c j one judged (names_there e v s n p c there dest place) in
    record {
      none = none;
      room = room;
      right = right;
      left_knows = grind arith;
    }
