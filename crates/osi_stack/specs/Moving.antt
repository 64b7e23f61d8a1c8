-- The effect of a session's move on its end.
use Rattle.std.specs.Prelude.{ℕ, ◌++◌, Option, Some, None, if◌then◌else◌}
use Rattle.osi_carrier.specs.Rows.{value_at, put}
use Rattle.osi_carrier.specs.State.{State as Carrier}
use Rattle.osi_message.specs.Parting.{tsdus_sent}
use Rattle.osi_session.specs.Listening.{Input, called, Listener, Move, react}
use Rattle.osi_session.specs.Sizes.{limit_of}
use Rattle.osi_stack.specs.Selectors.{selectors_told, shows_connect}
use Rattle.osi_stack.specs.State.{Line, End}
use Rattle.osi_stack.specs.Transport.{answers_by}

-- the most octets of a TSDU, 0 for no limit: a call sends within the size of its session, and what a session sends by
-- itself is one TSDU
abbrev pub limit_for : Listener → Input → ℕ
limit_for session (called call) = limit_of session.state
limit_for session input = 0

-- the effect of a move on the carrier: the TSDUs that it sends are handed over, or the connection is closed
abbrev pub answers : (r limit : ℕ) → Move → Carrier → Carrier
answers r limit move c = answers_by move.closes r (tsdus_sent limit move.reply) c

-- the effect of a move on a line: the session's indications become pending
abbrev pub line_after : Line → Move → Line
line_after line move = record line { session = Some move.next; waiting = line.waiting ++ move.shown }

-- if the user is told that a connection is requested, its CN has arrived
abbrev pub noted : Listener → Input → Line → Line
noted session input line = record line { selectors = if shows_connect (react session input).shown then selectors_told input else line.selectors }

-- something happens to the session of a line, if there is one
abbrev pub line_by : Line → Option Listener → Input → Line
line_by line None input = line
line_by line (Some session) input = line_after (noted session input line) (react session input)

abbrev pub carrier_by : ℕ → Option Listener → Input → Carrier → Carrier
carrier_by r None input c = c
carrier_by r (Some session) input c = answers r (limit_for session input) (react session input) c

abbrev pub by_line : ℕ → Option Line → Input → End → End
by_line r None input e = e
by_line r (Some line) input e = record {
  carrier = carrier_by r line.session input e.carrier;
  lines = put r (line_by line line.session input) e.lines;
}

-- something happens to the session of a reference
abbrev pub to_session : ℕ → Input → End → End
to_session r input e = by_line r (value_at r e.lines) input e
