-- Runs of two sessions that send what calls and answers send, and the machine of two sides with a transport connection of class 0.
use Rattle.std.specs.Prelude.{◌≡◌, ◌⊎◌, Bool, true, List, [], ◌∷◌, ◌++◌, map, Option, Some, None, if◌then◌else◌}
use Rattle.std.specs.List.{AllByRecursion, flat_map}
use Rattle.osi_message.specs.Meanings.{Meaning, GT}
use Rattle.osi_message.specs.Tokens.{no_token}
use Rattle.osi_message.specs.Words.{Word, says}
use Rattle.osi_message.specs.Written.{written}
use Rattle.osi_session.specs.Calls.{HasSerial}
use Rattle.osi_session.specs.Standing.{Seen}
use Rattle.osi_machine.specs.Core as machine
use Rattle.osi_machine.specs.Machine.{Ending, HasNumber, Step, closed_here}
use Rattle.osi_machine.specs.Sayings.{said_at, units_in}
use Rattle.osi_machine.specs.Tables.{Line, Tables, run, start, step}
use Rattle.osi_machine.specs.Worlds.{accepts, class_0}
use Rattle.osi_side.specs.declared.directions.Direction.{Direction}
use Rattle.osi_side.specs.declared.directions.Direction.TheVariants.{Left, Right}
use Rattle.osi_blameless.specs.accord.Accords.{Accords, Sending}
use Rattle.osi_blameless.specs.accord.Accords as accord
use Rattle.osi_blameless.specs.accord.Liberties.{IsCall}
use Rattle.osi_blameless.specs.accord.Machines.{Utterance, is_connect, utters}
use Rattle.osi_blameless.specs.accord.Pairs.{Pair, session_of}

-- ---- a run of calls and answers

-- a call sends the message, and leaves the side so
pub record IsAnyCall (s : Seen) (m : Meaning) (next : Seen) : Type 0 where
  pub is : IsCall s m next
  pub numbered : HasSerial is.call

-- A call sends the word; or the word is a CN, or the GT that names no token and comes with data and everything about points.
abbrev pub IsByAnyCall : Seen → Word → Seen → Type 0
IsByAnyCall s w next = (w ≡ says (GT no_token)) ⊎ ((m : Meaning) × (w ≡ says m) × ((is_connect m ≡ true) ⊎ IsAnyCall s m next))

-- Each word is sent so, or is the answer of the session to the TSDU that it takes.
abbrev pub CallsAndAnswers : {sent : List Sending} {p : Pair} → Accords sent p → Type 0
CallsAndAnswers (accord.done p) = Unit {0}
CallsAndAnswers (accord.takes d later p own before w words tsdu rest c passed there hears taken quiet run) = CallsAndAnswers run
CallsAndAnswers (accord.answers d later p own before w words tsdu rest c reply passed there hears taken replied is run) =
    (w ≡ says reply) × CallsAndAnswers run
CallsAndAnswers (accord.says d later p own before w words next can run) = IsByAnyCall (session_of d p) w next × CallsAndAnswers run
CallsAndAnswers (accord.sends d later p own before run) = CallsAndAnswers run

-- ---- what is sent in a run of the machine

-- nothing has happened, and the called end accepts in class 0
abbrev pub start_0 : Tables
start_0 = start (accepts class_0)

-- what the sessions of both sides send on the first connection in a step, and in a list of steps
abbrev pub uttered_at : Tables → Step → List Utterance
uttered_at t s = map (utters Left) (said_at machine.Left 1 t s) ++ map (utters Right) (said_at machine.Right 1 t s)

abbrev pub uttered_in : Tables → List Step → List Utterance
uttered_in t [] = []
uttered_in t (s ∷ steps) = uttered_at t s ++ uttered_in (step t s) steps

-- the messages of one side
abbrev pub its_own : Direction → Utterance → List Meaning
its_own Left (utters Left m) = m ∷ []
its_own Left (utters Right m) = []
its_own Right (utters Left m) = []
its_own Right (utters Right m) = m ∷ []

abbrev pub uttered_by : Direction → List Utterance → List Meaning
uttered_by d messages = flat_map (its_own d) messages

-- a side ends with the transport connection of class 0 that it closes
abbrev pub end_if : (closed : Bool) → Option Ending
end_if closed = if closed then Some closed_here else None

-- Steps of the machine in which these messages are sent, in this order. After them there is one connection. Its two sides are in
-- the states of these two sessions, the same is in flight, and a side has ended if its session closed the transport connection.
pub record PlaysWhole (t : Tables) (messages : List Utterance) (last : Pair) : Type 0 where
  pub steps : List Step
  pub numbered : AllByRecursion HasNumber steps
  pub sent : uttered_in t steps ≡ messages
  pub line : Line
  pub is : (run t steps).lines ≡ line ∷ []
  pub left : line.own.session.state ≡ last.left.session.state
  pub right : line.peer.session.state ≡ last.right.session.state
  pub left_in_flight : map written (units_in line.own.channel) ≡ last.left.channel
  pub right_in_flight : map written (units_in line.peer.channel) ≡ last.right.channel
  pub left_end : (run t steps).left_end ≡ end_if last.left.session.closed
  pub right_end : (run t steps).right_end ≡ end_if last.right.session.closed
