-- Whole runs of an end: rounds in which octets come and go and indications are fetched, with its user's calls in
-- between.
use Rattle.std.specs.Prelude.{◌≡◌, ℕ, true, false, ◌||◌, not, List, [], ◌∷◌, Option, Some, None, is_some}
use Rattle.std.specs.List.{flat_map}
use Rattle.osi_carrier.specs.Rows.{Rows, value_at}
use Rattle.osi_carrier.specs.State.{Connection}
use Rattle.osi_session.specs.Calls.{Call as SessionCall}
use Rattle.osi_session.specs.Listening.{called}
use Rattle.osi_stack.specs.Calls.{connects, breaks, connect_error, call_error}
use Rattle.osi_stack.specs.Disconnecting.{disconnects}
use Rattle.osi_stack.specs.Moving.{to_session}
use Rattle.osi_stack.specs.Runs.{Call, CallsAlong, used_in}
use Rattle.osi_stack.specs.State.{Line, End, Holding, line_waits, waits}
use Rattle.osi_stack.specs.declared.connecting.Connect.{Connect}

-- an accepted call of the user: it requests a connection, calls the session of one, gives one up, or finds that the
-- byte connection broke
pub data UserCall : Type 0 where
  connecting : Connect → UserCall
  calling : ℕ → SessionCall → UserCall
  disconnecting : ℕ → UserCall
  breaking : UserCall

abbrev pub user_does : UserCall → End → End
user_does (connecting c) e = connects c e
user_does (calling r call) e = to_session r (called call) e
user_does (disconnecting r) e = disconnects r e
user_does breaking e = breaks e

-- some of the other calls, and then perhaps one of the user
pub record Round : Type 0 where
  pub calls : List Call
  pub user : Option UserCall

-- only live connections have pending indications
abbrev pub WaitForLive : Rows Connection → Rows Line → Type 0
WaitForLive live [] = Unit {0}
WaitForLive live ((r, line) ∷ lines) = ((is_some (value_at r live) || not (line_waits line)) ≡ true) × WaitForLive live lines

-- A session is called whatever is pending; a connection is requested once no connection that is gone has pending
-- indications; and a connection is given up, or a break found, once none is pending.
abbrev pub MayCall : UserCall → End → Type 0
MayCall (connecting c) e = WaitForLive e.carrier.live e.lines
MayCall (calling r call) e = call_error r call e ≡ None
MayCall (disconnecting r) e = waits e.lines ≡ false
MayCall breaking e = waits e.lines ≡ false

-- The same, but a connection is requested whenever that is accepted, whatever is pending.
abbrev pub MayAsk : UserCall → End → Type 0
MayAsk (connecting c) e = connect_error c e ≡ None
MayAsk (calling r call) e = call_error r call e ≡ None
MayAsk (disconnecting r) e = waits e.lines ≡ false
MayAsk breaking e = waits e.lines ≡ false

-- the user makes a call that is allowed at an end that lasts, or makes none
abbrev pub IsCalled : (UserCall → End → Type 0) → Holding → Option UserCall → Holding → Type 0
IsCalled May old None new = (old.end.carrier.ended ≡ None) × (new ≡ old)
IsCalled May old (Some call) new = (old.end.carrier.ended ≡ None) × May call old.end × (new ≡ record old { end = user_does call old.end })

-- rounds one after the other
abbrev pub RoundsBy : (UserCall → End → Type 0) → Holding → List Round → Holding → Type 0
RoundsBy May old [] new = new ≡ old
RoundsBy May old (round ∷ rounds) new =
    (fed : Holding) × (mid : Holding) × CallsAlong old round.calls fed × IsCalled May fed round.user mid × RoundsBy May mid rounds new

abbrev pub RoundsAlong : Holding → List Round → Holding → Type 0
RoundsAlong old rounds new = RoundsBy MayCall old rounds new

-- including rounds that request connections whatever is pending
abbrev pub RoundsAsking : Holding → List Round → Holding → Type 0
RoundsAsking old rounds new = RoundsBy MayAsk old rounds new

abbrev pub calls_of : List Round → List Call
calls_of rounds = flat_map (λ round. round.calls) rounds

-- In each round the same octets were used, in whatever pieces, and then the user made the same call.
abbrev pub AreInStep : List Round → List Round → Type 0
AreInStep [] [] = Unit {0}
AreInStep [] (y ∷ ys) = ⊥
AreInStep (x ∷ xs) [] = ⊥
AreInStep (x ∷ xs) (y ∷ ys) = (flat_map used_in x.calls ≡ flat_map used_in y.calls) × (x.user ≡ y.user) × AreInStep xs ys
