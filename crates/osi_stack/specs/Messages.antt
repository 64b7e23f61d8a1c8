-- What an end takes, indicates and puts for a connection, in messages.
use Rattle.std.specs.Prelude.{◌≡◌, ◌≢◌, ◌≤◌, ℕ, Bool, true, false, List, [], ◌∷◌, ◌++◌, length, map, Option, Some, None, IsSome, Ok}
use Rattle.std.specs.List.{AllByRecursion}
use Rattle.osi_message.specs.Meanings.{Meaning}
use Rattle.osi_message.specs.Sendable.{words_of, IsSendable}
use Rattle.osi_message.specs.Parting.{words_sent, tsdus_of, tsdus_sent, behind_no_token}
use Rattle.osi_message.specs.Words.{Word, says, part_octets}
use Rattle.osi_message.specs.Words as words
use Rattle.osi_message.specs.Written.{written}
use Rattle.osi_message.specs.declared.places.Place.{Place as PartPlace}
use Rattle.osi_tpdu.specs.Value.{Value}
use Rattle.osi_carrier.specs.Calls.{open_link, sent, closed_with}
use Rattle.osi_carrier.specs.Place.{Place, never, was_given}
use Rattle.osi_carrier.specs.Happenings.{Happening}
use Rattle.osi_carrier.specs.Happenings as told
use Rattle.osi_carrier.specs.Rows.{Rows, value_at, put}
use Rattle.osi_carrier.specs.State.{asked, linked, State as Carrier}
use Rattle.osi_session.specs.Allowed.{Step, allowed}
use Rattle.osi_session.specs.Calls.{Call}
use Rattle.osi_session.specs.Listening.{Input, Listener, called, opened, refused, broken, taken, in_state, react}
use Rattle.osi_session.specs.Sessions.{awaits}
use Rattle.osi_session.specs.Sizes.{limit_of}
use Rattle.osi_session.specs.Shown.{Shown}
use Rattle.osi_stack.specs.Coming.{carries_out}
use Rattle.osi_stack.specs.Hearing.{with_events, concludes, shown_at_loss}
use Rattle.osi_stack.specs.Moving.{limit_for, line_by}
use Rattle.osi_stack.specs.State.{Line, End, session_in, session_at, joins}

-- a session unit, or a part of a Data; or a message about the transport connection: it is requested, agreed to, denied
-- or closed, or a close is answered
pub data Message : Type 0 where
  unit : Meaning → Message
  part : (place : PartPlace) (octets : List ℕ) → Message
  ask : Message
  agree : Message
  deny : (reason : ℕ) → Message
  bye : (reason : ℕ) → Message
  over : Message

-- a unit can be written, so that its octets read back as the unit
abbrev pub IsWhole : Message → Type 0
IsWhole (unit m) = IsSendable m
IsWhole (part place octets) = Unit {0}
IsWhole ask = Unit {0}
IsWhole agree = Unit {0}
IsWhole (deny reason) = Unit {0}
IsWhole (bye reason) = Unit {0}
IsWhole over = Unit {0}

-- ---- what a session puts

abbrev pub message_of : Word → Message
message_of (says m) = unit m
message_of (words.part place octets) = part place octets

-- a session closes its transport connection, or sends a unit or the parts of a Data, or puts nothing; a session that
-- closes sends nothing
abbrev pub put_by : Bool → (limit : ℕ) → Option Meaning → List Message
put_by true limit reply = bye 128 ∷ []
put_by false limit None = []
put_by false limit (Some m) = map message_of (words_sent limit m)

-- the carrier carries out what a session puts; everything else the carrier puts itself
abbrev pub does : ℕ → Message → Carrier → Carrier
does r (unit m) c = sent r (written m) c
does r (part place octets) c = sent r (part_octets place octets) c
does r (bye reason) c = closed_with r reason c
does r ask c = c
does r agree c = c
does r (deny reason) c = c
does r over c = c

abbrev pub puts : ℕ → List Message → Carrier → Carrier
puts r [] c = c
puts r (m ∷ messages) c = puts r messages (does r m c)

-- ---- a move of one session

-- The session of a reference made its move: this is its new state, its user has these further pending indications, and
-- the carrier carried out what it put. All other lines are as they were.
pub record Acts (r : ℕ) (input : Input) (old new : End) : Type 0 where
  pub line : Line
  pub session : Listener
  pub here : value_at r old.lines ≡ Some line
  pub is : line.session ≡ Some session
  pub lines : new.lines ≡ put r (line_by line (Some session) input) old.lines
  pub carrier : new.carrier ≡ puts r (put_by (react session input).closes (limit_for session input) (react session input).reply) old.carrier

-- ---- a message that arrives

-- the effect on the session of its connection: there is a new one, or this happens to it, or nothing
pub data Effect : Type 0 where
  begins : Effect
  happens : Input → Effect
  rests : Effect

-- by the state of the connection
abbrev pub effect_at : Place → Message → Effect
effect_at never ask = begins
effect_at (was_given (Some asked)) agree = happens opened
effect_at (was_given (Some asked)) (deny reason) = happens (refused reason)
effect_at (was_given (Some (linked peer link))) (unit m) = happens (taken (words_of m))
effect_at (was_given (Some (linked peer link))) (part place octets) = happens (taken (behind_no_token (words.part place octets)))
effect_at (was_given (Some (linked peer link))) (bye reason) = happens broken
effect_at place m = rests

-- the carrier's events for it
abbrev pub told_at : ℕ → Place → Message → List Happening
told_at r never ask = told.opened r ∷ []
told_at r (was_given (Some asked)) agree = told.opened r ∷ []
told_at r (was_given (Some asked)) (deny reason) = told.refused r reason ∷ []
told_at r (was_given (Some (linked peer link))) (unit m) = told.tsdu r (written m) ∷ []
told_at r (was_given (Some (linked peer link))) (part place octets) = told.tsdu r (part_octets place octets) ∷ []
told_at r (was_given (Some (linked peer link))) (bye reason) = told.closed r reason ∷ []
told_at r place m = []

-- a connection has a session
pub record HasSession (r : ℕ) (lines : Rows Line) : Type 0 where
  pub line : Line
  pub session : Listener
  pub here : value_at r lines ≡ Some line
  pub is : line.session ≡ Some session

-- TSDUs are no longer than a TSDU may be
abbrev pub AreShort : List (List ℕ) → Type 0
AreShort tsdus = AllByRecursion (λ tsdu. length tsdu ≤ 1048576) tsdus

-- what a session sends is no longer than a TSDU may be
abbrev pub IsShort : (limit : ℕ) → Option Meaning → Type 0
IsShort limit reply = AreShort (tsdus_sent limit reply)

-- a new session begins only if there is none, and other things happen only to one that is there
abbrev pub CanHear : ℕ → Effect → Rows Line → Type 0
CanHear r begins lines = value_at r lines ≡ None
CanHear r (happens input) lines = (s : HasSession r lines) × IsShort (limit_for s.session input) (react s.session input).reply
CanHear r rests lines = Unit {0}

abbrev pub Hears : ℕ → Effect → End → End → Type 0
Hears r begins old new = new ≡ joins r awaits old
Hears r (happens input) old new = Acts r input old new
Hears r rests old new = new ≡ old

-- the carrier has taken a unit, and its events are handled
abbrev pub told_all : Value → End → End
told_all tpdu e = with_events [] (carries_out tpdu e)

-- A unit that brings a message took effect: the carrier carried it out, the session of the connection handled it, and
-- if the carrier ended by it all sessions are lost.
pub record Arrives (r : ℕ) (effect : Effect) (tpdu : Value) (old new : End) : Type 0 where
  pub heard : End
  pub hears : Hears r effect (told_all tpdu old) heard
  pub is : new ≡ concludes heard

-- ---- a call

-- A call that the table of calls allows, on an open connection: it sends one unit, or one Data in parts.
pub record IsGranted (r : ℕ) (call : Call) (s : Listener) (c : Carrier) : Type 0 where
  pub step : Step
  pub accepted : allowed s.state call ≡ Ok step
  pub opened : IsSome (open_link r c)
  pub short : AreShort (tsdus_of (limit_of s.state) step.sent)
  pub reply : (react s (called call)).reply ≡ Some step.sent
  pub closes : (react s (called call)).closes ≡ false
  pub shown : (react s (called call)).shown ≡ []
  pub next : (react s (called call)).next ≡ in_state s step.next

-- An accepted call is a move of the session of a live connection, which sends one unit, or one Data in parts.
pub record Says (r : ℕ) (call : Call) (old new : End) : Type 0 where
  pub acts : Acts r (called call) old new
  pub granted : IsGranted r call acts.session old.carrier
  pub live : session_at r old ≡ Some acts.session

-- ---- what is seen of connections

-- the session of a reference, also of a connection that is gone while indications are pending
abbrev pub kept_at : ℕ → Rows Line → Option Listener
kept_at r lines = session_in (value_at r lines)

abbrev pub waiting_of : Option Line → List Shown
waiting_of None = []
waiting_of (Some line) = line.waiting

-- the pending indications of its user
abbrev pub waiting_at : ℕ → Rows Line → List Shown
waiting_at r lines = waiting_of (value_at r lines)

-- The session at a reference is now this one, and its user has these further pending indications; all others are as
-- they were.
pub record Becomes (r : ℕ) (session : Listener) (shown : List Shown) (old new : Rows Line) : Type 0 where
  pub session_is : kept_at r new ≡ Some session
  pub waiting : waiting_at r new ≡ waiting_at r old ++ shown
  pub others : (q : ℕ) → q ≢ r → value_at q new ≡ value_at q old

-- No session is left, and the user of each has the indications of its loss pending.
pub record AreLost (old new : Rows Line) : Type 0 where
  pub none : (r : ℕ) → kept_at r new ≡ None
  pub waiting : (r : ℕ) → waiting_at r new ≡ waiting_at r old ++ shown_at_loss (kept_at r old)

-- all pending indications with their references, line after line
abbrev pub shown_of : ℕ → List Shown → List (ℕ × Shown)
shown_of r [] = []
shown_of r (shown ∷ waiting) = (r, shown) ∷ shown_of r waiting

abbrev pub all_waiting : Rows Line → List (ℕ × Shown)
all_waiting [] = []
all_waiting ((r, line) ∷ lines) = shown_of r line.waiting ++ all_waiting lines

-- the first of them, and the others
abbrev pub IsFirstOf : Option (ℕ × Shown) → List (ℕ × Shown) → List (ℕ × Shown) → Type 0
IsFirstOf None all others = (all ≡ []) × (others ≡ [])
IsFirstOf (Some first) all others = all ≡ first ∷ others
