-- Two carriers and the octets between them, whatever was called, and whatever happened to them and to the byte
-- connection.
use Rattle.std.specs.Prelude.{◌≡◌, ◌≢◌, ℕ, ◌+◌, ◌-◌, ◌≤◌, ◌||◌, Bool, true, false, not, List, [], ◌∷◌, ◌++◌, length, take, drop, Option, Some, None, is_some, IfSome, if◌then◌else◌}
use Rattle.std.specs.List.{flat_map, AllByRecursion}
use Rattle.osi_tpkt.specs.Packet.{IsPartial}
use Rattle.osi_tpdu.specs.Value.{Value}
use Rattle.osi_tpdu.specs.Writing.{written}
use Rattle.osi_class.specs.Link.{Standing}
use Rattle.osi_class.specs.declared.terms.Local.{Local}
use Rattle.osi_carrier.specs.Calls.{fresh_state}
use Rattle.osi_carrier.specs.Coming.{IsSendable}
use Rattle.osi_carrier.specs.Place.{Place, never, was_given, place_at, connection_in}
use Rattle.osi_carrier.specs.Happenings.{Happening, refused}
use Rattle.osi_carrier.specs.Packets.{after_packet}
use Rattle.osi_carrier.specs.React.{react}
use Rattle.osi_carrier.specs.State.{Connection, State, packets, ends}
use Rattle.osi_carrier.specs.declared.ends.EndReason.{EndReason}
use Rattle.osi_between.specs.Addresses.{reference_of, units_of}
use Rattle.osi_between.specs.Course.{answers_at, told_opening, progress_of, BringsTo}
use Rattle.osi_between.specs.Joined.{AreJoined, IsEmpty}
use Rattle.osi_between.specs.Messages.{Message, deny, messages_after, uncut_units, unsent_at, begun_at, AreLike}
use Rattle.osi_between.specs.Progress.{references_for, class_behind_all, leaves_use}
use Rattle.osi_between.specs.Refusing.{AreRefusing}
use Rattle.osi_between.specs.Terms.{Terms, by_two, by_zero, refusing, accepts_in, class_of}
use Rattle.osi_between.specs.Zero.{AreJoinedZero}

-- ---- two carriers

-- a carrier, and octets that were handed over to it and not yet taken
pub record Side : Type 0 where
  pub state : State
  pub held : List ℕ

-- `reach`: none until the byte connection breaks; then how many of the octets that the caller has still to hand over
-- will arrive, and how many of the called end's
pub record Both : Type 0 where
  pub caller : Side
  pub called : Side
  pub reach : Option (ℕ × ℕ)

-- Below, the first argument says which end is meant; `true` is the caller.
abbrev pub side : Bool → Both → Side
side true both = both.caller
side false both = both.called

abbrev pub with_side : Bool → Side → Both → Both
with_side true s both = record both { caller = s }
with_side false s both = record both { called = s }

abbrev pub reach_of : Bool → Option (ℕ × ℕ) → Option ℕ
reach_of end None = None
reach_of true (Some reach) = Some reach.0
reach_of false (Some reach) = Some reach.1

abbrev pub within_reach : Option ℕ → List ℕ → List ℕ
within_reach None octets = octets
within_reach (Some k) octets = take k octets

-- the octets that an end has still to hand over and that will arrive
abbrev pub arriving : Bool → Both → List ℕ
arriving end both = within_reach (reach_of end both.reach) (side end both).state.outgoing

-- ---- what is between them

-- Each end in its last state before it ended, if it has; the units in flight from it; and the units after those that it
-- wrote and that a break discarded.
pub record Between : Type 0 where
  pub caller : State
  pub called : State
  pub going : List Value
  pub going_lost : List Value
  pub coming : List Value
  pub coming_lost : List Value

abbrev pub last_of : Bool → Between → State
last_of true b = b.caller
last_of false b = b.called

abbrev pub units_from : Bool → Between → List Value
units_from true b = b.going
units_from false b = b.coming

abbrev pub lost_from : Bool → Between → List Value
lost_from true b = b.going_lost
lost_from false b = b.coming_lost

-- what an end holds, followed by what will arrive there, are these packets, and then a part of the next one if a break
-- discarded the rest
pub record IsOnTheWay (held arriving : List ℕ) (units lost : List Value) : Type 0 where
  pub front : List ℕ
  pub never : List ℕ
  pub octets : held ++ arriving ≡ packets units ++ front
  pub partial : IsPartial front
  pub rest : front ++ never ≡ packets lost
  pub sendable : AllByRecursion IsSendable units
  pub sendable_lost : AllByRecursion IsSendable lost

-- two carriers and all units between them, by the terms that they agree on
abbrev pub AreJoinedBy : Terms → State → State → List Value → List Value → Type 0
AreJoinedBy by_two caller called going coming = AreJoined caller called going coming
AreJoinedBy by_zero caller called going coming = AreJoinedZero caller called going coming
AreJoinedBy (refusing reason) caller called going coming = AreRefusing reason caller called going coming

-- The invariant of two carriers. An end that has not ended is in its last state. The last states are joined by all
-- units, as if those that were discarded would still arrive, so discarded units need no case of their own. It says
-- nothing of what arrives at an end that has ended.
pub record AreBetween (terms : Terms) (both : Both) (b : Between) : Type 0 where
  pub lives : (end : Bool) → (side end both).state.ended ≡ None → (side end both).state ≡ last_of end b
  pub joined : AreJoinedBy terms b.caller b.called (b.going ++ b.going_lost) (b.coming ++ b.coming_lost)
  -- what an end that has not ended holds, followed by what will arrive there, are these units
  pub comes : (end : Bool) → (side (not end) both).state.ended ≡ None →
      IsOnTheWay (side (not end) both).held (arriving end both) (units_from end b) (lost_from end b)
  -- only a break discards units, and no more can arrive than there is to hand over
  pub unbroken : both.reach ≡ None → (end : Bool) → lost_from end b ≡ []
  pub bound : (end : Bool) → IfSome (reach_of end both.reach) (λ k. k ≤ length (side end both).state.outgoing)

-- ---- what is in flight

-- nothing more will arrive than what the end wrote: it has ended, or the byte connection broke
abbrev pub is_cut : Bool → Both → Bool
is_cut end both = is_some both.reach || is_some (side end both).state.ended

-- the units that a connection has still to send, if more will arrive
abbrev pub to_come : Bool → Option Connection → List Value
to_come cut connection = if cut then [] else uncut_units (unsent_at connection)

-- the messages in flight from an end to the other, for the connection with this reference
abbrev pub under_way : Bool → ℕ → Both → Between → List Message
under_way end n both b =
    messages_after (begun_at (connection_in (place_at n (last_of (not end) b))))
    (units_of n (units_from end b) ++ to_come (is_cut end both) (connection_in (place_at n (last_of end b))))

-- ---- the effect of a step

-- what an arriving message reports to the user of an end; a CR that is refused reports nothing
abbrev pub told_of : Terms → ℕ → Place → Message → List Happening
told_of by_two n place m = told_opening n place m
told_of by_zero n place m = told_opening n place m
told_of (refusing reason) n never m = []
told_of (refusing reason) n (was_given connection) (deny why) = refused n why ∷ []
told_of (refusing reason) n (was_given connection) m = []

-- the messages that answer the unit that was taken
abbrev pub answers_in : Terms → Place → Value → List Message
answers_in by_two place unit = answers_at place unit
answers_in by_zero place unit = answers_at place unit
answers_in (refusing reason) never unit = deny reason ∷ []
answers_in (refusing reason) (was_given connection) unit = []

-- what is put after what is in flight; nothing if a break has come before
abbrev pub put_in : Both → List Message → List Message
put_in both put = if is_some both.reach then [] else put

-- An end acted for a connection. These messages arrived there, and its user was told of them. What was in flight from
-- it stays, except for `gone`, and `put` follows it. For all other connections the places and what is in flight, both
-- ways, are the same.
pub record Carries (terms : Terms) (end : Bool) (n : ℕ) (old new : Both) (b c : Between) (taken : List Value) (put : List Message) : Type 0 where
  pub arrived : List Message
  pub stays : List Message
  pub gone : List Message
  -- what its user is told, and what was in flight to it: what arrived, and then what still is in flight
  pub told : (last_of end c).events ≡ (last_of end b).events ++ flat_map (told_of terms n (place_at n (last_of end b))) arrived
  pub came : AreLike (connection_in (place_at n (last_of end c))) (under_way (not end) n old b) (arrived ++ under_way (not end) n new c)
  -- what was in flight from it, and what now is
  pub before : under_way end n old b ≡ stays ++ gone
  pub after : under_way end n new c ≡ stays ++ put_in old put
  -- what the units that it took mean for the connection
  pub brings : BringsTo (accepts_in terms) (place_at n (last_of end b)) (place_at n (last_of end c)) taken arrived put
  -- all other connections stay as they were
  pub others : (q : ℕ) → q ≢ n → (from : Bool) → under_way from q old b ≡ under_way from q new c
  pub other_places : (q : ℕ) → q ≢ n → place_at q (last_of end c) ≡ place_at q (last_of end b)
  -- it gave a reference for each connection that it requested or accepted, and agreed the class
  pub given : (last_of end c).given ≡ (last_of end b).given + references_for (accepts_in terms) arrived put
  pub class : (last_of end c).class ≡ class_behind_all (class_of terms) (last_of end b).class arrived
  pub local : (last_of end c).local ≡ (last_of end b).local
  -- something in flight from it is discarded only if the connection is no longer open
  pub keeps : leaves_use (progress_of (place_at n (last_of end b))) (progress_of (place_at n (last_of end c))) ≡ false → gone ≡ []
  -- the other end is unchanged; the units in flight to it are those after the units it took
  pub there : last_of (not end) c ≡ last_of (not end) b
  pub cut : units_from (not end) b ≡ taken ++ units_from (not end) c
  pub lost_still : lost_from (not end) c ≡ lost_from (not end) b

-- An end acted, and the invariant holds again.
pub record Acted (terms : Terms) (end : Bool) (n : ℕ) (old new : Both) (b : Between) (taken : List Value) (put : List Message) : Type 0 where
  pub now : Between
  pub between : AreBetween terms new now
  pub carries : Carries terms end n old new b now taken put
  -- it has not ended: what the other wrote is no fault
  pub lasts : (side end new).state.ended ≡ None

-- with this state, and these octets held
abbrev pub becomes : Bool → State → List ℕ → Both → Both
becomes end state held both = with_side end (record { state = state; held = held }) both

-- The first packet that an end held was taken: it is one unit, which acted.
pub record Took (terms : Terms) (end : Bool) (packet behind : List ℕ) (both : Both) (b : Between) : Type 0 where
  pub unit : Value
  pub is : packet ≡ written unit
  pub acts : after_packet (side end both).state packet ≡ react unit (side end both).state
  pub acted : Acted terms end (reference_of unit) both (becomes end (react unit (side end both).state) behind both) b (unit ∷ [])
      (answers_in terms (place_at (reference_of unit) (last_of end b)) unit)

-- ---- nothing is carried

-- The same is in flight, and all places are the same.
pub record Same (terms : Terms) (old new : Both) (b : Between) : Type 0 where
  pub now : Between
  pub between : AreBetween terms new now
  pub units : (end : Bool) → units_from end now ≡ units_from end b
  pub lost : (end : Bool) → lost_from end now ≡ lost_from end b
  pub under : (end : Bool) (n : ℕ) → under_way end n old b ≡ under_way end n new now
  pub stays : (end : Bool) (n : ℕ) → place_at n (last_of end now) ≡ place_at n (last_of end b)
  pub given : (end : Bool) → (last_of end now).given ≡ (last_of end b).given
  pub class : (end : Bool) → (last_of end now).class ≡ (last_of end b).class

abbrev pub reach_less : Bool → ℕ → Option (ℕ × ℕ) → Option (ℕ × ℕ)
reach_less end k None = None
reach_less true k (Some reach) = Some (reach.0 - k, reach.1)
reach_less false k (Some reach) = Some (reach.0, reach.1 - k)

abbrev pub without_front : ℕ → Side → Side
without_front k s = record s { state = record s.state { outgoing = drop k s.state.outgoing } }

abbrev pub with_behind : List ℕ → Side → Side
with_behind octets s = record s { held = s.held ++ octets }

-- k octets from this end are handed over to the other
abbrev pub handed_over : Bool → ℕ → Both → Both
handed_over end k both =
    with_side end (without_front k (side end both))
    (with_side (not end) (with_behind (take k (side end both).state.outgoing) (side (not end) both))
    (record both { reach = reach_less end k both.reach }))

-- these events are still to be reported at an end
abbrev pub still_to_tell : Bool → List Happening → Both → Both
still_to_tell true events both = record both { caller = record both.caller { state = record both.caller.state { events = events } } }
still_to_tell false events both = record both { called = record both.called { state = record both.called.state { events = events } } }

-- ---- an end ends, or the byte connection breaks

abbrev pub ended_at : Bool → EndReason → Both → Both
ended_at true reason both = record both { caller = record both.caller { state = ends reason both.caller.state } }
ended_at false reason both = record both { called = record both.called { state = ends reason both.called.state } }

abbrev pub broken_at : ℕ → ℕ → Both → Both
broken_at k l both = record both { reach = Some (k, l) }

-- What is in flight from an end is unchanged, except that its last part may be discarded.
pub record Loses (end : Bool) (n : ℕ) (old new : Both) (b c : Between) : Type 0 where
  pub gone : List Message
  pub all : under_way end n old b ≡ under_way end n new c ++ gone

-- Some of what was in flight was discarded, and all places are the same.
pub record Lost (terms : Terms) (old new : Both) (b : Between) : Type 0 where
  pub now : Between
  pub between : AreBetween terms new now
  pub units : (end : Bool) → units_from end b ++ lost_from end b ≡ units_from end now ++ lost_from end now
  pub loses : (end : Bool) (n : ℕ) → Loses end n old new b now
  -- what was cut off stays so, and nothing was discarded from an end that is not cut off
  pub cut : (end : Bool) → is_cut end old ≡ true → is_cut end new ≡ true
  pub whole : (end : Bool) (n : ℕ) → is_cut end new ≡ false → under_way end n old b ≡ under_way end n new now
  pub stays : (end : Bool) (n : ℕ) → place_at n (last_of end now) ≡ place_at n (last_of end b)
  pub given : (end : Bool) → (last_of end now).given ≡ (last_of end b).given
  pub class : (end : Bool) → (last_of end now).class ≡ (last_of end b).class

-- ---- nothing is in flight

-- Both ends last, the byte connection is not broken, and no octet is in flight or held.
pub record IsStill (both : Both) : Type 0 where
  pub unbroken : both.reach ≡ None
  pub lasts : both.caller.state.ended ≡ None
  pub lasts_called : both.called.state.ended ≡ None
  pub outgoing : both.caller.state.outgoing ≡ []
  pub outgoing_called : both.called.state.outgoing ≡ []
  pub held : both.caller.held ≡ []
  pub held_called : both.called.held ≡ []

-- Everything of a connection that is open at both ends has arrived: nothing is in flight, nothing is still to be sent,
-- and no TSDU is unfinished.
pub record IsAllThere (n : ℕ) (both : Both) (b : Between) (link peer : Standing) : Type 0 where
  pub links : IsEmpty link peer
  pub there : under_way true n both b ≡ []
  pub back : under_way false n both b ≡ []

-- ---- new ones

abbrev pub fresh_both : Local → Local → Both
fresh_both caller called = record {
  caller = record { state = fresh_state true caller; held = [] };
  called = record { state = fresh_state false called; held = [] };
  reach = None;
}

abbrev pub fresh_between : Local → Local → Between
fresh_between caller called = record {
  caller = fresh_state true caller;
  called = fresh_state false called;
  going = [];
  going_lost = [];
  coming = [];
  coming_lost = [];
}
