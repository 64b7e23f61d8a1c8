-- The line of a session at an end. What has to be known of what a session sends for an input: it fits, and where it closes its
-- connection it sends nothing.
-- For the course of a connection.
use Rattle.osi_blameless.proofs.ends.Vocabulary.{[], ap, false, Some, true, ℕ, ◌≡◌, put_here, put, Rows, value_at, tsdus_sent, input_begun}
use Rattle.osi_blameless.proofs.ends.Vocabulary.{after_input, Input, Listener, session_react as react, is_wait_transport, AreShort, kept_at}
use Rattle.osi_blameless.proofs.ends.Vocabulary.{limit_for, line_by, to_session, End, Line, session_in, sends, arith, List}
use Rattle.osi_blameless.proofs.ends.Vocabulary.{State as Carrier}
use Rattle.osi_blameless.proofs.ends.Vocabulary.{SessionCall, called, IsGranted, came}
use Rattle.osi_stack.specs.Moving.{answers}

-- ---- the line of a session

pub record HasLine (r : ℕ) (session : Listener) (lines : Rows Line) : Type 0 where
  pub line : Line
  pub here : value_at r lines ≡ Some line
  pub is : line.session ≡ Some session

pub line_there : (r : ℕ) (session : Listener) (lines : Rows Line) → kept_at r lines ≡ Some session → HasLine r session lines
line_there r session lines h = grind arith

pub moved_by : (r : ℕ) (session : Listener) (input : Input) (e : End) (h : HasLine r session e.lines) →
    to_session r input e ≡ record {
      carrier = answers r (limit_for session input) (react session input) e.carrier;
      lines = put r
          (line_by h.line (Some session) input) e.lines;
    }
moved_by r session input e h = grind arith

pub kept_then : (r : ℕ) (session : Listener) (input : Input) (lines : Rows Line) (h : HasLine r session lines) →
    kept_at r (put r (line_by h.line (Some session) input) lines) ≡ Some (after_input session input)
kept_then r session input lines h = ap session_in (put_here r (line_by h.line (Some session) input) h.line lines h.here)

pub still_begun : (session : Listener) (input : Input) → is_wait_transport session.state.phase ≡ false →
    is_wait_transport (after_input session input).state.phase ≡ false
still_begun session input w = grind (arith, input_begun)

-- ---- what it sends

-- what a session has to be known for: its TSDUs fit, and it sends nothing where it closes its connection
pub record IsProper (session : Listener) (input : Input) : Type 0 where
  pub same : tsdus_sent (limit_for session input) (react session input).reply ≡ sends session input
  pub short : AreShort (sends session input)
  pub silent : (react session input).closes ≡ true → sends session input ≡ []

-- all that is known of the TSDUs that arrive
abbrev pub AllProper : Type 0
AllProper = (session : Listener) (octets : List ℕ) → IsProper session (came octets)

pub granted_proper : (r : ℕ) (call : SessionCall) (session : Listener) (c : Carrier) → IsGranted r call session c →
    IsProper session (called call)
granted_proper r call session c g = grind arith
