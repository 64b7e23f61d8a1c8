-- What a session took and sent, one thing after the other.
use Rattle.std.specs.Prelude.{◌≡◌, ◌+◌, ℕ, Bool, true, false, List, [], ◌∷◌, ◌++◌, length, map}
use Rattle.osi_session.specs.Calls.{Call, HasSerial}
use Rattle.osi_session.specs.Listening.{Listener, called, came, opened, refused, broken, react, after_input}
use Rattle.osi_session.specs.Phases.{is_wait_transport}
use Rattle.osi_side.specs.Explaining.{Told}
use Rattle.osi_side.specs.Running.{sends}

-- a TSDU that a session sent, and how many TSDUs it had taken by then
pub record Said : Type 0 where
  pub octets : List ℕ
  pub taken : ℕ

abbrev pub octets_said : List Said → List (List ℕ)
octets_said said = map (λ s. s.octets) said

abbrev pub said_after : (taken : ℕ) → List (List ℕ) → List Said
said_after taken tsdus = map (λ tsdu. record { octets = tsdu; taken = taken }) tsdus

-- as the judge is told it, if no more TSDUs had arrived by then
abbrev pub told_of : Said → Told
told_of s = record { octets = s.octets; before = s.taken }

-- The TSDUs that a session took, since it began so, those that it sent, whether its transport connection is gone, and the
-- session that this made. Nothing else happens to a session.
pub data History (begin : Listener) : List (List ℕ) → List Said → (closed : Bool) → Listener → Type 0 where
  begins : History begin [] [] false begin
  -- it takes a TSDU, answers it or not, and may close the connection
  takes : (took : List (List ℕ)) (said : List Said) (l : Listener) (tsdu : List ℕ) → History begin took said false l →
      is_wait_transport l.state.phase ≡ false
      → History begin (took ++ tsdu ∷ []) (said ++ said_after (length took + 1) (sends l (came tsdu))) (react l (came tsdu)).closes
      (after_input l (came tsdu))
  -- its user makes a call
  calls : (took : List (List ℕ)) (said : List Said) (closed : Bool) (l : Listener) (c : Call) → History begin took said closed l →
      HasSerial c
      → History begin took (said ++ said_after (length took) (sends l (called c))) closed (after_input l (called c))
  -- the transport connection that it asked for is open
  connects : (took : List (List ℕ)) (said : List Said) (l : Listener) → History begin took said false l
      → History begin took (said ++ said_after (length took) (sends l opened)) false (after_input l opened)
  -- it is refused
  misses : (took : List (List ℕ)) (said : List Said) (l : Listener) (reason : ℕ) → History begin took said false l →
      is_wait_transport l.state.phase ≡ true
      → History begin took said true (after_input l (refused reason))
  -- it is lost
  loses : (took : List (List ℕ)) (said : List Said) (l : Listener) → History begin took said false l →
      History begin took said true (after_input l broken)
