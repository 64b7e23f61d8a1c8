-- Runs of two sessions in which no liberty is taken, and the machine of two sides that exchange whole messages.
use Rattle.std.specs.Prelude.{◌≡◌, ◌⊎◌, ℕ, Bool, false, true, List, [], ◌∷◌, ◌++◌, map, if◌then◌else◌, Ok, Err}
use Rattle.std.specs.List.{AllByRecursion}
use Rattle.osi_message.specs.Meanings.{Meaning, CN, GT}
use Rattle.osi_message.specs.Sendable.{IsSendable}
use Rattle.osi_message.specs.Tokens.{no_token}
use Rattle.osi_message.specs.Words.{Word, says}
use Rattle.osi_message.specs.Written.{written}
use Rattle.osi_session.specs.declared.state.State.{State}
use Rattle.osi_session.specs.Allowed.{Answer, allowed}
use Rattle.osi_session.specs.Calls.{HasSerial}
use Rattle.osi_session.specs.Respond.{has_no_effect}
use Rattle.osi_session.specs.Standing.{Seen}
use Rattle.osi_machine.specs.Core.{Core, CoreStep, Offer, Side, call_at, core_run, core_step, offer_sent, stays_in_core, take_at}
use Rattle.osi_machine.specs.Core as machine
use Rattle.osi_machine.specs.Parties.{IsNumberedStep}
use Rattle.osi_side.specs.declared.directions.Direction.{Direction}
use Rattle.osi_side.specs.declared.directions.Direction.TheVariants.{Left, Right}
use Rattle.osi_blameless.specs.accord.Accords.{Accords, Sending, sending, words_in}
use Rattle.osi_blameless.specs.accord.Accords as accord
use Rattle.osi_blameless.specs.accord.Liberties.{IsCall}
use Rattle.osi_blameless.specs.accord.Pairs.{Pair, session_of}

-- ---- messages

-- a message of a side
pub data Utterance : Type 0 where
  utters : Direction → Meaning → Utterance

abbrev pub is_connect : Meaning → Bool
is_connect (CN version_2 requirements serial wishes from to sizes octets) = true
is_connect m = false

-- it can be sent, has an effect, and is no CN
abbrev pub IsMessage : Utterance → Type 0
IsMessage (utters d m) = IsSendable m × (has_no_effect m ≡ false) × (is_connect m ≡ false)

-- each of these is the TSDU of a message, as this product writes it
abbrev pub AreWritten : List Sending → List Utterance → Type 0
AreWritten [] [] = Unit {0}
AreWritten (sending d tsdu before words ∷ sent) (utters e m ∷ messages) =
    (d ≡ e) × (tsdu ≡ written m) × (words ≡ words_in (written m)) × AreWritten sent messages
AreWritten _ _ = ⊥

-- ---- a run that takes no liberty

-- a call that neither refuses, releases nor aborts sends the message, and leaves the side so
pub record IsCoreCall (s : Seen) (m : Meaning) (next : Seen) : Type 0 where
  pub is : IsCall s m next
  pub numbered : HasSerial is.call
  pub stays : stays_in_core is.call ≡ true

-- Such a call sends the word; or the word is a CN, or the GT that names no token and comes with data and everything about points.
abbrev pub IsByCall : Seen → Word → Seen → Type 0
IsByCall s w next = (w ≡ says (GT no_token)) ⊎ ((m : Meaning) × (w ≡ says m) × ((is_connect m ≡ true) ⊎ IsCoreCall s m next))

-- Each word is sent so. No session answers by itself, as one does after an abort, after a fault and if it refuses a CN.
abbrev pub TakesNoLiberty : {sent : List Sending} {p : Pair} → Accords sent p → Type 0
TakesNoLiberty (accord.done p) = Unit {0}
TakesNoLiberty (accord.takes d later p own before w words tsdu rest c passed there hears taken quiet run) = TakesNoLiberty run
TakesNoLiberty (accord.answers d later p own before w words tsdu rest c reply passed there hears taken replied is run) = ⊥
TakesNoLiberty (accord.says d later p own before w words next can run) = IsByCall (session_of d p) w next × TakesNoLiberty run
TakesNoLiberty (accord.sends d later p own before run) = TakesNoLiberty run

-- the TSDU with the CN of a caller, as this product writes it
abbrev pub connect_of : Offer → (before : ℕ) → Sending
connect_of o before = sending Left (written (offer_sent o)) before (words_in (written (offer_sent o)))

-- ---- what is sent in a run of the machine

abbrev pub side_at : Direction → Side
side_at Left = machine.Left
side_at Right = machine.Right

abbrev pub state_at : Side → Core → State
state_at machine.Left w = w.own.session
state_at machine.Right w = w.peer.session

abbrev pub uttered : Side → Answer → List Utterance
uttered machine.Left (Ok granted) = utters Left granted.sent ∷ []
uttered machine.Right (Ok granted) = utters Right granted.sent ∷ []
uttered side (Err e) = []

-- a call that is allowed sends its message, and what is taken is not answered
abbrev pub sent_at : Core → CoreStep → List Utterance
sent_at w (call_at side c) = if stays_in_core c then uttered side (allowed (state_at side w) c) else []
sent_at w (take_at side) = []

-- the messages of both sides, in order
abbrev pub sent_in : Core → List CoreStep → List Utterance
sent_in w [] = []
sent_in w (step ∷ steps) = sent_at w step ++ sent_in (core_step w step) steps

-- Steps of the machine in which these messages are sent, in this order. After them its two sides are in the states of these two
-- sessions, and the same is in flight.
pub record Plays (w : Core) (messages : List Utterance) (last : Pair) : Type 0 where
  pub steps : List CoreStep
  pub numbered : AllByRecursion IsNumberedStep steps
  pub sent : sent_in w steps ≡ messages
  pub left : (core_run w steps).own.session ≡ last.left.session.state
  pub right : (core_run w steps).peer.session ≡ last.right.session.state
  pub left_in_flight : map written (core_run w steps).own.sent ≡ last.left.channel
  pub right_in_flight : map written (core_run w steps).peer.sent ≡ last.right.channel
