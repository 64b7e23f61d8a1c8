-- An honest session, as osi_session has it: everything that can happen to it, and what a capture shows of it.
use Rattle.std.specs.Prelude.{◌≡◌, ◌≤◌, ℕ, ◌+◌, Bool, true, false, List, [], ◌∷◌, ◌++◌, get_or, None}
use Rattle.osi_message.specs.Parting.{tsdus_sent}
use Rattle.osi_session.specs.declared.opening.Opening.{Opening}
use Rattle.osi_session.specs.Calls.{Call, HasSerial}
use Rattle.osi_session.specs.Listening.{Input, Listener, called, came, opened, refused, broken, react, after_input}
use Rattle.osi_session.specs.Phases.{is_wait_transport}
use Rattle.osi_session.specs.Sessions.{awaits, opens, refusal_of}
use Rattle.osi_session.specs.Sizes.{limit_of}
use Rattle.osi_side.specs.declared.directions.Direction.{Direction}
use Rattle.osi_side.specs.declared.directions.Direction.TheVariants.{Left, Right}
use Rattle.osi_side.specs.Explaining.{Told}

-- the TSDUs that an input makes a session send
abbrev pub sends : Listener → Input → List (List ℕ)
sends l input = tsdus_sent (limit_of l.state) (react l input).reply

-- These TSDUs pass, in order. By then at least as many TSDUs of the other side had arrived as were taken.
abbrev pub Pass : (taken : ℕ) → List (List ℕ) → List Told → Type 0
Pass taken [] [] = Unit {0}
Pass taken (tsdu ∷ tsdus) (t ∷ told) = (t.octets ≡ tsdu) × (taken ≤ t.before) × Pass taken tsdus told
Pass taken _ _ = ⊥

-- What a session does from here on, and what it sends: `closed` says whether its transport connection is gone, and `taken`
-- how many TSDUs of the other side it has taken. Nothing else happens to a session.
pub data Runs (us : List (List ℕ)) : (closed : Bool) → Listener → (taken : ℕ) → List Told → Type 0 where
  -- nothing more happens
  rests : (closed : Bool) (l : Listener) (taken : ℕ) → Runs us closed l taken []
  -- it takes the next TSDU, once the transport connection is open, answers it or not, and may close the connection
  takes : (l : Listener) (taken : ℕ) (now later : List Told) → is_wait_transport l.state.phase ≡ false → Pass (taken + 1) (sends l (came (get_or us taken []))) now
      → Runs us (react l (came (get_or us taken []))).closes (after_input l (came (get_or us taken []))) (taken + 1) later → Runs us false l taken (now ++ later)
  -- its user makes any call, at any time; a call that is refused sends nothing
  calls : (closed : Bool) (l : Listener) (taken : ℕ) (c : Call) (now later : List Told) → HasSerial c → Pass taken (sends l (called c)) now
      → Runs us closed (after_input l (called c)) taken later → Runs us closed l taken (now ++ later)
  -- the transport connection that it requested is open
  connects : (l : Listener) (taken : ℕ) (now later : List Told) → Pass taken (sends l opened) now → Runs us false (after_input l opened) taken later
      → Runs us false l taken (now ++ later)
  -- it is refused
  misses : (l : Listener) (taken reason : ℕ) (later : List Told) → is_wait_transport l.state.phase ≡ true → Runs us true (after_input l (refused reason)) taken later
      → Runs us false l taken later
  -- it is lost
  loses : (l : Listener) (taken : ℕ) (later : List Told) → Runs us true (after_input l broken) taken later → Runs us false l taken later

-- A session that begins in this state sent all of this, when these TSDUs of the other side arrived. The capture may
-- end before everything that it sent has passed.
pub record IsSentFrom (begin : Listener) (us : List (List ℕ)) (told : List Told) : Type 0 where
  pub later : List Told
  pub runs : Runs us false begin 0 (told ++ later)

-- a side whose session is a caller, with any CN, or a called one
abbrev pub IsHonest : Direction → List (List ℕ) → List Told → Type 0
IsHonest Left us told = (o : Opening) × (refusal_of o ≡ None) × IsSentFrom (opens o) us told
IsHonest Right us told = IsSentFrom awaits us told
