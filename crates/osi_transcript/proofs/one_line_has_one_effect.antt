-- Two events in memory for the same line of a script have the same effect, carry as many octets and give the same text.
-- For a_script_has_one_transcript.
use Rattle.osi_transcript.proofs.Vocabulary.{◌≡◌, ℕ, ◌+◌, ◌||◌, true, not, [], ◌∷◌, length, Option, Some, None, subst, if◌then◌else◌, arith}
use Rattle.osi_transcript.proofs.Vocabulary.{nat_le, may_connect, asks, Ref, CN, no_token, base_for, serial_for, most_user_data, called_by}
use Rattle.osi_transcript.proofs.Vocabulary.{Listener, from_base, offered, functional_units, is_profile, WaitTransport, Request, after_open}
use Rattle.osi_transcript.proofs.Vocabulary.{is_long_address, End, Holding, joins, ConnectError, NotSelected, TooLong, Asked, asked_of}
use Rattle.osi_transcript.proofs.Vocabulary.{TwoEnds, answer_with, noted, connected_by, misfit, Does, Event, Command, Connect, Carry, Break}
use Rattle.osi_transcript.proofs.Vocabulary.{Told, side_in, IsEvent, carried_by}
use Rattle.osi_session.specs.Calls as session
use Rattle.osi_stack.specs.declared.connecting.Connect.{Connect as Wanted}
use Rattle.osi_pair.specs.Entries.{asks as entry}
use Rattle.osi_pair.specs.declared.events.Event.TheVariants as event
use Rattle.osi_pair.specs.declared.sides.Side as ends
use Rattle.osi_script.specs.declared.sides.Side.{Side}
use Rattle.osi_transcript.specs.Playing.{event_text}

-- they fit alike, and do the same
pub record AreOneEvent (x y : Event) : Type 0 where
  pub fits : (p : TwoEnds) → misfit x p ≡ misfit y p
  pub carries : (p : TwoEnds) → carried_by x p ≡ carried_by y p
  pub says : (octets : ℕ) → event_text x octets ≡ event_text y octets
  pub does : (p new : TwoEnds) (octets : ℕ) → Does y p octets new → Does x p octets new

equal_one : (x y : Event) → x ≡ y → AreOneEvent x y
equal_one x y same = subst (AreOneEvent x) same (grind arith)

-- ---- a connection that is asked for, by what the journal keeps of it

asked_error : Asked → End → Option ConnectError
asked_error a e =
    after_open (may_connect e.carrier) (if not (is_profile a.requirements) then Some NotSelected
    else (if is_long_address a.calling_selector ||
    (is_long_address a.called_selector || not (nat_le (length a.octets) most_user_data)) then Some TooLong else None))

asked_session : Asked → Listener
asked_session a = record {
  state = record {
    phase = WaitTransport;
    is_caller = true;
    units = functional_units a.requirements;
    wishes = offered (functional_units a.requirements) a.wishes;
    held = no_token;
    proposed = base_for (functional_units a.requirements) a.serial;
    base = 0;
    numbers = from_base 0;
    sizes = a.sizes;
  };
  waiting = Some (CN true a.requirements (serial_for (functional_units a.requirements) a.serial)
      (offered (functional_units a.requirements) a.wishes)
      a.calling_selector a.called_selector a.sizes a.octets);
  joined = None;
}

asked_end : Asked → End → End
asked_end a e = joins (e.carrier.given + 1) (asked_session a) (record e { carrier = asks a.calling_tsap a.called_tsap e.carrier })

asked_by : Option ConnectError → Asked → Holding → Holding
asked_by None a h = record h { end = asked_end a h.end }
asked_by (Some error) a h = h

after_asked : Asked → TwoEnds → TwoEnds
after_asked a p =
    noted (entry a (answer_with (p.left.end.carrier.given + 1) (asked_error a p.left.end)) ∷ [])
    (record p { left = asked_by (asked_error a p.left.end) a p.left })

same_end : (o : Option ConnectError) (c : Wanted) (h : Holding) → connected_by o c h ≡ asked_by o (asked_of c) h
unfolding asked_by asked_end asked_session
same_end o c h = grind arith

connects_one : (x y : Wanted) → asked_of x ≡ asked_of y → AreOneEvent (event.Connect x) (event.Connect y)
unfolding event_text
connects_one x y same = grind (arith, asked_error, same_end, after_asked)

-- ---- a call, by what it asks for

calls_one : (s : ends.Side) (r : Ref) (x y : Request) → called_by x ≡ called_by y → AreOneEvent (event.Call s r x) (event.Call s r y)
unfolding event_text
calls_one s r x y same = grind arith

-- ---- each command

named : ends.Side → ℕ → Request → Event
named s reference request = event.Call s (record { 0 = reference }) request

of_carry : (side : Side) (octets : ℕ) (x : Event) → IsEvent (Carry side octets) x → x ≡ event.Carry (side_in side) octets
of_carry side octets x is = grind arith

of_break : (left right : ℕ) (x : Event) → IsEvent (Break left right) x → x ≡ event.Break left right
of_break left right x is = grind arith

of_told : (side : Side) (x : Event) → IsEvent (Told side) x → x ≡ event.Told (side_in side)
of_told side x is = grind arith

pub one_event : (c : Command) (x y : Event) → IsEvent c x → IsEvent c y → AreOneEvent x y
one_event c x y is there = grind (arith, connects_one, named, calls_one, equal_one, of_carry, of_break, of_told)
