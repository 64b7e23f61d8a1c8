-- In class 0 a break of the other side changes nothing that is judged of an end but that the other side is not judged any more. So a judge
-- judges what the end sends after it as if the break had not come. For the sessions of an end after such a break.
use Rattle.osi_blameless.proofs.Vocabulary.{arith, ◌≡◌, ◌∙◌, ap, ℕ, Bool, false, Option, Some, slice_set, Value, data0}
use Rattle.osi_blameless.proofs.Vocabulary.{disconnected, error, Zero, other, Direction, Left, Right, Connection, Finding, Reach, Route}
use Rattle.osi_blameless.proofs.Vocabulary.{is_applied, reach_of, Outcome, State, asks_of, at_place, class_for, connection_after}
use Rattle.osi_blameless.proofs.Vocabulary.{course_after, found_on, is_stopped, none_told, noted, one_told, routed, stops, takes}
use Rattle.osi_blameless.proofs.Vocabulary.{unnamed_told, set_same, Cause, Course, unit_passes, unread, way_of}
use Rattle.osi_rules.specs.declared.courses.Course.{Course as Judging}
use Rattle.osi_rules.specs.declared.directions.Direction.{Direction as Way}
use Rattle.osi_rules.specs.declared.directions.Direction.TheVariants as way
use Rattle.osi_rules.specs.declared.findings.Reach.TheVariants as reach
use Rattle.osi_rules.specs.Traffic as traffic
use Rattle.osi_rules.specs.Traffic.{reached}
use Rattle.osi_blameless.proofs.keeping.a_break_ends_no_judging_or_all.{refused_traffic, refuses, unread_sessions}
use Rattle.osi_blameless.proofs.shown.connections_have_the_same_places.{unit_joins, unit_knows}
use Rattle.osi_blameless.proofs.shown.what_has_no_effect_joins_nothing.{joins_none}

abbrev pub IsDt0 : Value → Type 0
IsDt0 (data0 end user) = Unit {0}
IsDt0 _ = ⊥

-- ---- the other side is not judged any more

-- what is noted of the breaks of this side is this
abbrev erring : Way → Bool → Judging → Judging
erring way.Left erred c = record c { left_erred = erred }
erring way.Right erred c = record c { right_erred = erred }

-- beside an end that sends in this direction
abbrev halting : Direction → (erred : Bool) → Judging → Judging
halting d erred c = erring (way_of (other d)) erred (stops (way_of (other d)) c)

abbrev pub halts : Direction → (erred : Bool) → State → State
halts d erred s = record s { course = halting d erred s.course }

abbrev pub halts_after : Direction → (erred : Bool) → Outcome → Outcome
halts_after d erred o = record { told = o.told; state = halts d erred o.state }

-- ---- a unit of the end

reached_same : (d : Direction) (r : Reach) (erred : Bool) (c : Judging) →
    reached (way_of d) r (halting d erred c) ≡ halting d erred (reached (way_of d) r c)
reached_same d r erred c = grind arith

-- how far a finding reaches, and that it is noted
found_so_same : (d : Direction) (f : Finding) (r : Reach) (erred : Bool) (c : Judging) →
    noted (way_of d) f (reached (way_of d) r (halting d erred c)) ≡ halting d erred (noted (way_of d) f (reached (way_of d) r c))
found_so_same d f r erred c = ap (noted (way_of d) f) (reached_same d r erred c) ∙ (grind arith)

none_same : (d : Direction) (erred : Bool) (f : Finding) (s : State) →
    none_told (way_of d) f (halts d erred s) ≡ halts_after d erred (none_told (way_of d) f s)
none_same d erred f s = grind (arith, found_so_same)

-- an ER may answer a break of the other side
abbrev IsEr : Value → Type 0
IsEr (error n cause) = Unit {0}
IsEr v = ⊥

-- what is told of a unit for a connection, by what is found of it and how far that reaches
abbrev by_finding : Direction → (place : ℕ) → Connection → Value → State → Finding → Reach → Judging → Outcome
by_finding d place c v s f r k = record {
  told = record { finding = f; meaning = traffic.meaning_if (is_applied f) (traffic.meant v); place = Some place; reach = r };
  state = record {
    connections = slice_set s.connections place (connection_after (way_of d) v (is_applied f) r c);
    course = noted (way_of d) f (reached (way_of d) r k);
  };
}

one_same : (d : Direction) (erred : Bool) (place : ℕ) (c : Connection) (v : Value) (s : State) → (IsEr v → ⊥) →
    one_told (way_of d) place c v (halts d erred s) ≡ halts_after d erred (one_told (way_of d) place c v s)
one_same d erred place c v s plain = by d
  where
    last : (d : Direction) (f : Finding) (r : Reach) →
        by_finding d place c v s f r (course_after (way_of d) c v (is_applied f) (halts d erred s).course)
        ≡ halts_after d erred (by_finding d place c v s f r (course_after (way_of d) c v (is_applied f) s.course))
    last d f r =
        ap (by_finding d place c v s f r) (grind arith)
        ∙ (λ i. record {
          told = (by_finding d place c v s f r (course_after (way_of d) c v (is_applied f) s.course)).told;
          state = record {
            connections = slice_set s.connections place (connection_after (way_of d) v (is_applied f) r c);
            course = found_so_same d f r erred (course_after (way_of d) c v (is_applied f) s.course) i;
          };
        })

    by : (d : Direction) → one_told (way_of d) place c v (halts d erred s) ≡ halts_after d erred (one_told (way_of d) place c v s)
    by Left =
        ap (λ (f : Finding). by_finding Left place c v s f (reach_of (class_for (way_of Left) s.course) f)
        (course_after (way_of Left) c v (is_applied f) (halts Left erred s).course)) (grind arith)
        ∙ last Left (found_on (way_of Left) s c v) (reach_of (class_for (way_of Left) s.course) (found_on (way_of Left) s c v))
    by Right =
        ap (λ (f : Finding). by_finding Right place c v s f (reach_of (class_for (way_of Right) s.course) f)
        (course_after (way_of Right) c v (is_applied f) (halts Right erred s).course)) (grind arith)
        ∙ last Right (found_on (way_of Right) s c v) (reach_of (class_for (way_of Right) s.course) (found_on (way_of Right) s c v))

unnamed_same : (d : Direction) (erred : Bool) (v : Value) (s : State) → (IsEr v → ⊥) →
    unnamed_told (way_of d) v (halts d erred s) ≡ halts_after d erred (unnamed_told (way_of d) v s)
unnamed_same d erred v s plain = grind (arith, none_same)

at_place_same : (d : Direction) (erred : Bool) (v : Value) (s : State) (o : Option ℕ) → (IsEr v → ⊥) →
    at_place (way_of d) v (halts d erred s) o ≡ halts_after d erred (at_place (way_of d) v s o)
at_place_same d erred v s o plain = grind (arith, unnamed_same, one_same)

asks_same : (d : Direction) (erred : Bool) (v : Value) (s : State) →
    asks_of (way_of d) v (halts d erred s) ≡ halts_after d erred (asks_of (way_of d) v s)
asks_same d erred v s = grind (arith, none_same)

routed_same : (d : Direction) (erred : Bool) (v : Value) (s : State) (r : Route) → (IsEr v → ⊥) →
    routed (way_of d) v (halts d erred s) r ≡ halts_after d erred (routed (way_of d) v s r)
routed_same d erred v s r plain = grind (arith, asks_same, at_place_same, none_same)

-- ---- for which connection it is

module _ (d : Direction) (v : Value) (erred : Bool) (s : State) (goes : is_stopped (way_of d) s.course ≡ false) (plain : IsEr v → ⊥) where
  -- it is found to be the same, and leaves the same
  pub own_same : takes (way_of d) v (halts d erred s) ≡ halts_after d erred (takes (way_of d) v s)
  own_same = grind (arith, routed_same)

-- ---- the break

-- of such a unit of the other side, which has no effect
abbrev Halts : Direction → State → Outcome → Type 0
Halts e s o = is_applied o.told.finding ≡ false → o.told.reach ≡ reach.Side →
    o.state ≡ record s { course = noted (way_of e) o.told.finding (stops (way_of e) s.course) }

none_halts : (e : Direction) (f : Finding) (s : State) → Halts e s (none_told (way_of e) f s)
none_halts e f s unapplied side = ap (λ (r : Reach). record s { course = noted (way_of e) f (reached (way_of e) r s.course) }) side

-- a DT of class 0, or a DC
abbrev IsThere : Value → Type 0
IsThere (data0 end user) = Unit {0}
IsThere (disconnected n source) = Unit {0}
IsThere v = ⊥

after_there : (e : Direction) (c : Connection) (v : Value) (b : Bool) (k : Judging) → IsThere v → course_after (way_of e) c v b k ≡ k
after_there e c v b k h = grind arith

place_halts : (e : Direction) (o : Option ℕ) (v : Value) (s : State) → IsThere v → Halts e s (at_place (way_of e) v s o)
place_halts e o v s h = grind (arith, none_halts, set_same, after_there)

-- ---- at a judge

-- nothing is noted
erring_same : (e : Direction) (c : Judging) → c ≡ erring (way_of e) (traffic.has_erred (way_of e) c) c
erring_same e c = grind arith

-- What has passed with the break, and what would have without it: the same is joined, and judged of the end. That the other side broke a
-- rule may be noted.
pub record IsBeside (d : Direction) (c without : Course) : Type 0 where
  pub erred : Bool
  pub sessions : c.sessions ≡ without.sessions
  pub traffic : c.traffic ≡ halts d erred without.traffic

-- a unit of the end
pub beside_own : (d : Direction) (at : ℕ) (v : Value) (c without : Course) → is_stopped (way_of d) without.traffic.course ≡ false →
    IsDt0 v → IsBeside d c without →
    IsBeside d (unit_passes d at v c) (unit_passes d at v without)
    × ((takes (way_of d) v c.traffic).told.finding ≡ (takes (way_of d) v without.traffic).told.finding)
beside_own d at v c without goes dt b = search (arith, own_same, unit_joins, unit_knows)

-- the break itself
pub beside_break : (d : Direction) (at : ℕ) (v : Value) (c : Course) → class_for (way_of (other d)) c.traffic.course ≡ Some Zero →
    is_stopped (way_of (other d)) c.traffic.course ≡ false → is_applied (takes (way_of (other d)) v c.traffic).told.finding ≡ false →
    (takes (way_of (other d)) v c.traffic).told.reach ≡ reach.Side → IsBeside d (unit_passes (other d) at v c) c
beside_break d at v c zero goes unapplied side =
    let e = other d in
    let f = (takes (way_of e) v c.traffic).told.finding in
    let stopped = stops (way_of e) c.traffic.course in
    grind (arith, none_halts, place_halts, joins_none e at v c unapplied, unit_knows e at v c)

-- or what nobody can read
pub beside_unread : (d : Direction) (at : ℕ) (k : Cause) (c : Course) → class_for (way_of (other d)) c.traffic.course ≡ Some Zero →
    unread (other d) at k c ≡ refuses (other d) at k c → IsBeside d (unread (other d) at k c) c
beside_unread d at k c zero is = record {
  erred = traffic.has_erred (way_of (other d)) (stops (way_of (other d)) c.traffic.course);
  sessions = unread_sessions (other d) at k c;
  traffic = grind (arith, refused_traffic, erring_same);
}
