-- What has passed on a byte connection, and what a unit means after it.
use Rattle.std.specs.Prelude.{ℕ, ◌+◌, ◌%◌, Bool, true, false, not, ◌&&◌, ◌||◌, ◌==◌, nat_lt, min, List, [], ◌∷◌, ◌++◌, length, map, position, slice_get, slice_set, ◌^◌, Option, Some, None, is_some, option_map, if◌then◌else◌}
use Rattle.std.specs.List.{list_any, list_all}
use Rattle.osi_tpdu.specs.Value.{Value, Connect, request, confirm, disconnect, disconnected, data0, data2, acknowledge, error}
use Rattle.osi_class.specs.Limits.{longest_tsdu}
use Rattle.osi_class.specs.declared.terms.Class.{Class}
use Rattle.osi_class.specs.declared.terms.Class.TheVariants.{Zero, Two}
use Rattle.osi_rules.specs.declared.connections.Connection.{Connection}
use Rattle.osi_rules.specs.declared.connections.Offer.{Offer}
use Rattle.osi_rules.specs.declared.courses.Course.{Course}
use Rattle.osi_rules.specs.declared.directions.Direction.{Direction}
use Rattle.osi_rules.specs.declared.directions.Direction.TheVariants.{Left, Right}
use Rattle.osi_rules.specs.declared.disconnects.Disconnects.{Disconnects}
use Rattle.osi_rules.specs.declared.findings.Finding.{Finding}
use Rattle.osi_rules.specs.declared.findings.Finding.TheVariants.{Kept, Broke, TooMany, NotJudged}
use Rattle.osi_rules.specs.declared.findings.Meaning.{Meaning}
use Rattle.osi_rules.specs.declared.findings.Meaning.TheVariants as meaning
use Rattle.osi_rules.specs.declared.findings.Reach.{Reach}
use Rattle.osi_rules.specs.declared.findings.Reach.TheVariants as reach
use Rattle.osi_rules.specs.declared.findings.Rule.TheVariants as rule
use Rattle.osi_rules.specs.declared.findings.Told.{Told}
use Rattle.osi_rules.specs.declared.halves.Half.{Half}
use Rattle.osi_rules.specs.declared.halves.Phase.TheVariants.{Silent, Open, Refused, Closing, Closed}
use Rattle.osi_rules.specs.declared.routes.Route.{Route}
use Rattle.osi_rules.specs.declared.routes.Route.TheVariants.{Asks, Named, Only, Unnamed}
use Rattle.osi_rules.specs.Reaches.{reach_of, reach_by, is_applied, is_break}
use Rattle.osi_rules.specs.Rows.{Test, first_failed, confirm_tests, data0_tests, data2_tests, acknowledge_tests, disconnect_tests, disconnected_tests, error_tests, offers_zero, offers_two, offers_others, asks_expedited, is_without_flow_control, is_extended, code_named}
use Rattle.osi_rules.specs.Sides.{other, is_silent, is_open, is_closing, own, theirs, sends, begins, is_over, is_live, is_free, is_named, uses}

-- 64 that are open at an end of this product, and 64 that one side has closed
abbrev pub most_connections : ℕ
most_connections = 128

-- the connections by their places, and what is of none of them
pub record State : Type 0 where
  pub connections : List Connection
  pub course : Course

-- no DR has passed
abbrev pub no_disconnects : Disconnects
no_disconnects = record { strays = false; left = false; right = false; seen_by_left = false; seen_by_right = false }

abbrev pub fresh_course : Course
fresh_course = record {
  class = None;
  class_seen = None;
  disconnects = no_disconnects;
  loose = false;
  left_stopped = false;
  right_stopped = false;
  left_erred = false;
  right_erred = false;
}

abbrev pub fresh : State
fresh = record { connections = []; course = fresh_course }

-- that of left or that of right
abbrev pub of_side : {A : Type 0} → Direction → A → A → A
of_side Left left right = left
of_side Right left right = right

-- ---- the DRs that a DC may answer

-- a DR of this side has passed
abbrev pub has_disconnected : Direction → Disconnects → Bool
has_disconnected d k = of_side d k.left k.right

-- one of the other side had passed when the current packet of this side began
abbrev pub knows_disconnect : Direction → Disconnects → Bool
knows_disconnect d k = of_side d k.seen_by_left k.seen_by_right

-- A DR has passed that does not just close an open connection: a DC of a side that knows a DR of the other side may answer
-- it, whatever references the DC has.
abbrev pub may_answer : Direction → Disconnects → Bool
may_answer d k = k.strays && knows_disconnect d k

-- a packet of this side begins
abbrev pub disconnects_begin : Direction → Disconnects → Disconnects
disconnects_begin Left k = record k { seen_by_left = k.right }
disconnects_begin Right k = record k { seen_by_right = k.left }

-- after a DR of this side; `stray`: it does not just close an open connection
abbrev pub with_disconnect : Direction → (stray : Bool) → Disconnects → Disconnects
with_disconnect d stray k = record k {
  strays = k.strays || stray;
  left = of_side d true k.left;
  right = of_side d k.right true;
}

-- ---- what is of no single connection

-- nothing more of this side is judged
abbrev pub is_stopped : Direction → Course → Bool
is_stopped d c = of_side d c.left_stopped c.right_stopped

-- a unit of this side has broken a rule
abbrev pub has_erred : Direction → Course → Bool
has_erred d c = of_side d c.left_erred c.right_erred

-- the class, as far as this side may know it: right's CC selects it
abbrev pub class_for : Direction → Course → Option Class
class_for d c = of_side d c.class_seen c.class

-- a packet of this side begins
abbrev pub course_begins : Direction → Course → Course
course_begins Left c = record c { class_seen = c.class; disconnects = disconnects_begin Left c.disconnects }
course_begins Right c = record c { disconnects = disconnects_begin Right c.disconnects }

abbrev pub stops : Direction → Course → Course
stops Left c = record c { left_stopped = true }
stops Right c = record c { right_stopped = true }

abbrev pub stops_all : Course → Course
stops_all c = record c { left_stopped = true; right_stopped = true }

-- after a unit of this side; a connection that is not judged any more may have any references
abbrev pub reached : Direction → Reach → Course → Course
reached d reach.Nothing c = c
reached d reach.Connection c = record c { loose = true }
reached d reach.Side c = stops d c
reached d reach.Everything c = stops_all c

-- this has been found of a unit of this side
abbrev pub noted : Direction → Finding → Course → Course
noted d finding c = record c {
  left_erred = (is_break finding && of_side d true false) || c.left_erred;
  right_erred = (is_break finding && of_side d false true) || c.right_erred;
}

-- ---- for which connection a unit is

-- before the class is known: a CR, and the answers to it
abbrev pub route_before : Direction → Value → Route
route_before Left (request c) = Asks
route_before Right (confirm destination c) = Named destination
route_before Right (disconnect destination source reason user) = Named destination
route_before Right (error destination cause) = Named destination
route_before d (disconnected destination source) = Named destination
route_before d v = Unnamed (Broke rule.UnexpectedUnit)

-- class 0 has only DTs after its CC; an ER may report a break of the other side
abbrev pub route_zero : Direction → (other_broke : Bool) → Value → Route
route_zero Left other_broke (request c) = Unnamed (Broke rule.OneConnection)
route_zero Right other_broke (request c) = Unnamed (Broke rule.UnexpectedUnit)
route_zero d other_broke (data0 end user) = Only
route_zero d other_broke (disconnected destination source) = Named destination
route_zero d true (error destination cause) = Unnamed Kept
route_zero d other_broke v = Unnamed (Broke rule.WrongForm)

abbrev pub route_two : Direction → Value → Route
route_two Left (request c) = Asks
route_two Right (request c) = Unnamed (Broke rule.UnexpectedUnit)
route_two d (data0 end user) = Unnamed (Broke rule.UnexpectedUnit)
route_two d (confirm destination c) = Named destination
route_two d (disconnect destination source reason user) = Named destination
route_two d (disconnected destination source) = Named destination
route_two d (data2 destination number end user) = Named destination
route_two d (acknowledge credit destination number) = Named destination
route_two d (error destination cause) = Named destination

abbrev pub route_in : Option Class → Direction → (other_broke : Bool) → Value → Route
route_in None d other_broke v = route_before d v
route_in (Some Zero) d other_broke v = route_zero d other_broke v
route_in (Some Two) d other_broke v = route_two d v

-- this side has broken a rule: by a unit, or by octets that can't be read
abbrev pub has_broken : Direction → Course → Bool
has_broken d c = is_stopped d c || has_erred d c

abbrev pub route : Direction → Course → Value → Route
route d c v = route_in (class_for d c) d (has_broken (other d) c) v

-- ---- a unit for a connection

-- what is found of it; `in_use`: this side has given the reference of its CC to another connection
abbrev pub found : Direction → Course → (in_use : Bool) → Connection → Value → Finding
found Right course in_use c (confirm destination content) = first_failed (confirm_tests c course.class in_use course.loose content)
found d course in_use c (disconnect destination source reason user) = first_failed (disconnect_tests d c)
found d course in_use c (disconnected destination source) = first_failed (disconnected_tests d c source (may_answer d course.disconnects))
found d course in_use c (data0 end user) = first_failed (data0_tests d c (length user))
found d course in_use c (data2 destination number end user) = first_failed (data2_tests d c number (length user))
found d course in_use c (acknowledge credit destination number) = first_failed (acknowledge_tests d c number credit)
found d course in_use c (error destination cause) = first_failed (error_tests d (has_erred (other d) course) c)
found d course in_use c v = Broke rule.WrongForm

-- what it means if it has its effect
abbrev pub meant : Value → Meaning
meant (confirm destination c) = meaning.Opens
meant (disconnect destination source reason user) = meaning.Closes
meant (data0 end user) = meaning.Adds end
meant (data2 destination number end user) = meaning.Adds end
meant (error destination cause) = meaning.Closes
meant v = meaning.Nothing

-- the octets of the unfinished TSDU, which is not too long
abbrev pub begun_after : Half → (end : Bool) → ℕ → ℕ
begun_after half true octets = 0
begun_after half false octets = min (half.begun + octets) longest_tsdu

abbrev pub closing_phase : (was_silent : Bool) → Half → Half
closing_phase true half = record half { phase = Refused }
closing_phase false half = record half { phase = Closing }

-- what its sender has sent after it
abbrev pub half_after : Value → Half → Half
half_after (confirm destination c) half = record half { phase = Open; reference = c.source; credit = c.credit }
half_after (disconnect destination source reason user) half = closing_phase (is_silent half.phase) half
half_after (disconnected destination source) half = record half { phase = Closed }
half_after (data0 end user) half = record half { begun = begun_after half end (length user) }
half_after (data2 destination number end user) half =
    record half { next = (half.next + 1) % 128; begun = begun_after half end (length user) }
half_after (acknowledge credit destination number) half = record half { awaited = number; credit = credit }
half_after (error destination cause) half = record half { phase = Refused }
half_after v half = half

-- what its sender has sent on the connection after it, and the size that a CC names
abbrev pub sized : Value → Connection → Connection
sized (confirm destination content) c = record c { size = option_map (λ code. 2 ^ code) content.parameters.size }
sized v c = c

abbrev pub sent_on : Direction → Value → Connection → Connection
sent_on d v c = sized v (sends d (half_after v (own d c)) c)

abbrev pub judged_on : Reach → Connection → Connection
judged_on reach.Connection c = record c { is_judged = false }
judged_on reach c = c

abbrev pub connection_after : Direction → Value → (applied : Bool) → Reach → Connection → Connection
connection_after d v true how_far c = judged_on how_far (sent_on d v c)
connection_after d v false how_far c = judged_on how_far c

-- A DR that does not just close an open connection: it refuses one, or comes after another, or has not the reference of its
-- sender, or crosses a DR of the other side. It may be answered by a DC all the same.
abbrev pub is_stray : Direction → Connection → ℕ → Bool
is_stray d c source = not (is_open (own d c).phase) || (not (source == (own d c).reference) || is_closing (theirs d c).phase)

abbrev pub class_of : Connect → Class
class_of c = if c.class == 2 then Two else Zero

-- what is of no single connection, after a unit for this one
abbrev pub course_after : Direction → Connection → Value → (applied : Bool) → Course → Course
course_after d c (confirm destination content) true course = record course { class = Some (class_of content) }
course_after d c (disconnect destination source reason user) applied course =
    record course { disconnects = with_disconnect d (not applied || is_stray d c source) course.disconnects }
course_after d c v applied course = course

-- a DR for no connection is such a one too
abbrev pub course_after_none : Direction → Value → Course → Course
course_after_none d (disconnect destination source reason user) course =
    record course { disconnects = with_disconnect d true course.disconnects }
course_after_none d v course = course

-- ---- what a unit means, and what has passed after it

pub record Outcome : Type 0 where
  pub told : Told
  pub state : State

abbrev pub outcome : Told → State → Outcome
outcome told state = record { told = told; state = state }

abbrev pub meaning_if : (applied : Bool) → Meaning → Meaning
meaning_if true m = m
meaning_if false m = meaning.Nothing

-- a unit for no connection
abbrev pub none_told : Direction → Finding → State → Outcome
none_told d finding s =
    let how_far = reach_of (class_for d s.course) finding in
    record {
      told = record { finding = finding; meaning = meaning.Nothing; place = None; reach = how_far };
      state = record s { course = noted d finding (reached d how_far s.course) };
    }

-- right has given the reference that its CC names to another connection
abbrev pub uses_source : Direction → List Connection → Value → Bool
uses_source d connections (confirm destination content) = list_any (λ c. uses d content.source c) connections
uses_source d connections v = false

abbrev pub found_on : Direction → State → Connection → Value → Finding
found_on d s c v = if c.is_judged then found d s.course (uses_source d s.connections v) c v else NotJudged

-- a unit for the connection at this place
abbrev pub one_told : Direction → (place : ℕ) → Connection → Value → State → Outcome
one_told d place c v s =
    let finding = found_on d s c v in
    let how_far = reach_of (class_for d s.course) finding in
    record {
      told = record { finding = finding; meaning = meaning_if (is_applied finding) (meant v); place = Some place; reach = how_far };
      state = record {
        connections = slice_set s.connections place (connection_after d v (is_applied finding) how_far c);
        course = noted d finding (reached d how_far (course_after d c v (is_applied finding) s.course));
      };
    }

-- a unit for a reference of no connection
abbrev pub unnamed_by : (may_answer : Bool) → Value → Finding
unnamed_by true (disconnected destination source) = NotJudged
unnamed_by may_answer v = Broke rule.UnknownReference

-- it breaks no rule if a connection that is not judged any more has got the reference since
abbrev pub in_doubt : Finding → Finding
in_doubt (Broke rule) = TooMany
in_doubt finding = finding

-- an ER, which may answer a break of the other side
abbrev pub is_report : (other_erred : Bool) → Value → Bool
is_report other_erred (error destination cause) = other_erred
is_report other_erred v = false

abbrev pub unnamed : Direction → Course → Value → Finding
unnamed d course v =
    if is_report (has_erred (other d) course) v then NotJudged
    else (if course.loose then in_doubt (unnamed_by (may_answer d course.disconnects) v)
    else unnamed_by (may_answer d course.disconnects) v)

abbrev pub unnamed_told : Direction → Value → State → Outcome
unnamed_told d v s = none_told d (unnamed d s.course v) (record s { course = course_after_none d v s.course })

abbrev pub at_found : Direction → Value → State → (place : ℕ) → Option Connection → Outcome
at_found d v s place None = unnamed_told d v s
at_found d v s place (Some c) = one_told d place c v s

abbrev pub at_place : Direction → Value → State → Option ℕ → Outcome
at_place d v s None = unnamed_told d v s
at_place d v s (Some place) = at_found d v s place (slice_get s.connections place)

-- ---- a CR of left (X.224 section 6.5)

abbrev pub is_not_judged : ℕ → Connection → Bool
is_not_judged reference c = not c.is_judged && (c.left.reference == reference)

-- There is a place for it: that of a connection that is over for both sides, or a new one.
abbrev pub has_place : List Connection → Bool
has_place connections = is_some (position is_free connections) || nat_lt (length connections) most_connections

-- a CR that finds no free place needs memory for one
abbrev pub needs_place : Value → List Connection → Bool
needs_place (request c) connections = not (is_some (position is_free connections))
needs_place v connections = false

-- No other CR is unanswered while the class is not known; its reference is not in use. That of a connection that is not
-- judged any more may be free.
abbrev pub request_tests : State → Connect → List Test
request_tests s c =
    (is_some s.course.class_seen || list_all (is_over Left) s.connections, Broke rule.Negotiating)
    ∷ (not (list_any (is_not_judged c.source) s.connections), TooMany)
    ∷ (not (list_any (uses Left c.source) s.connections), Broke rule.ReferenceInUse)
    ∷ (has_place s.connections, TooMany) ∷ []

abbrev pub silent_half : Half
silent_half = record { phase = Silent; reference = 0; next = 0; awaited = 0; credit = 0; begun = 0 }

abbrev pub offer_of : Connect → Offer
offer_of c = record {
  class0 = offers_zero c;
  class2 = offers_two c;
  others = offers_others c;
  expedited = asks_expedited c.parameters.additional;
  without_flow_control = is_without_flow_control c.options;
  extended = is_extended c.options;
  size_code = code_named c.parameters.size;
}

abbrev pub asked_by : Connect → Connection
asked_by c = record {
  offer = offer_of c;
  size = None;
  is_judged = true;
  left = record silent_half { phase = Open; reference = c.source; credit = c.credit };
  right = silent_half;
  seen_by_left = silent_half;
  seen_by_right = silent_half;
}

-- at the first place whose connection is over, or at a new one
abbrev pub placed : Connection → List Connection → Option ℕ → List Connection
placed c connections (Some place) = slice_set connections place c
placed c connections None = connections ++ c ∷ []

abbrev pub place_among : List Connection → Option ℕ → ℕ
place_among connections (Some place) = place
place_among connections None = length connections

abbrev pub asks_kept : Connect → State → Option ℕ → Outcome
asks_kept c s place = record {
  told = record { finding = Kept; meaning = meaning.Asks; place = Some (place_among s.connections place); reach = reach.Nothing };
  state = record s { connections = placed (asked_by c) s.connections place };
}

abbrev pub asks_by : Direction → Finding → Connect → State → Outcome
asks_by d Kept c s = asks_kept c s (position is_free s.connections)
asks_by d finding c s = none_told d finding s

-- ---- by route

abbrev pub asks_of : Direction → Value → State → Outcome
asks_of d (request c) s = asks_by d (first_failed (request_tests s c)) c s
asks_of d v s = none_told d NotJudged s

abbrev pub routed : Direction → Value → State → Route → Outcome
routed d v s Asks = asks_of d v s
routed d v s (Named reference) = at_place d v s (position (is_named d reference) s.connections)
routed d v s Only = at_place d v s (position (is_live d) s.connections)
routed d v s (Unnamed finding) = none_told d finding s

-- a unit of this side passes
abbrev pub takes : Direction → Value → State → Outcome
takes d v s = if is_stopped d s.course then none_told d NotJudged s else routed d v s (route d s.course v)

-- a packet of this side begins
abbrev pub packet_begins : Direction → State → State
packet_begins d s = record { connections = map (begins d) s.connections; course = course_begins d s.course }

-- what this side sends can't be read as packets or units: the other side ends
abbrev pub refused_reach : Direction → State → Reach
refused_reach d s = reach_by (class_for d s.course) false

abbrev pub refused : Direction → State → State
refused d s = record s { course = reached d (refused_reach d s) s.course }

-- ---- what a stop says

-- whether nothing more of a side is judged after a unit of this side of which so much is told
abbrev pub stops_by : Direction → Reach → Direction → Bool
stops_by d reach.Nothing e = false
stops_by d reach.Connection e = false
stops_by Left reach.Side Left = true
stops_by Left reach.Side Right = false
stops_by Right reach.Side Left = false
stops_by Right reach.Side Right = true
stops_by d reach.Everything e = true
