-- One end of a byte connection: the carrier, and for each of its connections a session.
use Rattle.std.specs.Prelude.{◌≡◌, ℕ, ◌+◌, Bool, not, ◌||◌, List, [], ◌∷◌, ◌++◌, Option, Some, None, is_some, length, ◌==◌, if◌then◌else◌}
use Rattle.std.specs.List.{list_any, count_by, filter, sum_by}
use Rattle.osi_tpkt.specs.Held.{Held}
use Rattle.osi_class.specs.declared.terms.Local.{Local}
use Rattle.osi_carrier.specs.Calls.{fresh_state, kept_in}
use Rattle.osi_carrier.specs.Packets.{Carrying}
use Rattle.osi_carrier.specs.Rows.{Rows, value_at}
use Rattle.osi_carrier.specs.State.{Connection, State as Carrier}
use Rattle.osi_session.specs.Joining.{joined_octets}
use Rattle.osi_session.specs.Listening.{Listener}
use Rattle.osi_session.specs.Shown.{Shown}
use Rattle.osi_stack.specs.Selectors.{Selectors, selectors_sent}

-- A connection: its session, none from the end of the carrier on; its pending indications, the oldest first; and the
-- session selectors of its CN, none until that was sent here or indicated.
pub record Line : Type 0 where
  pub session : Option Listener
  pub waiting : List Shown
  pub selectors : Option Selectors

-- `lines`: by the references that this end gave, in the order in which it gave them
pub record End : Type 0 where
  pub carrier : Carrier
  pub lines : Rows Line

-- what contracts say that a stack holds
pub record Holding : Type 0 where
  pub end : End
  -- the unfinished packet
  pub held : Held

-- an end with this carrier and these lines
abbrev pub holding : Carrying → Rows Line → Holding
holding c lines = record { end = record { carrier = c.state; lines = lines }; held = c.held }

-- a fresh end
abbrev pub fresh_end : Bool → Local → End
fresh_end is_caller local = record { carrier = fresh_state is_caller local; lines = [] }

-- ---- the session of a reference

abbrev pub session_in : Option Line → Option Listener
session_in None = None
session_in (Some line) = line.session

-- the session of a live connection; none if the connection is gone
abbrev pub session_at : ℕ → End → Option Listener
session_at r e = if is_some (value_at r e.carrier.live) then session_in (value_at r e.lines) else None

-- ---- what is kept

-- how many octets a session has joined of an unfinished SSDU
abbrev pub joined_of : Option Listener → ℕ
joined_of None = 0
joined_of (Some session) = length (joined_octets session.joined)

-- that of a line, if its connection is live
abbrev pub joined_live : Rows Connection → ℕ × Line → ℕ
joined_live live row = if is_some (value_at row.0 live) then joined_of row.1.session else 0

-- and that of all of them
abbrev pub joined_in : Rows Connection → Rows Line → ℕ
joined_in live lines = sum_by (λ row. joined_live live row) lines

-- of the unfinished packet, of unfinished TSDUs and of unfinished SSDUs
abbrev pub kept_octets : Holding → ℕ
kept_octets h = length h.held.octets + kept_in h.end.carrier.live + joined_in h.end.carrier.live h.end.lines

-- ---- what is pending

abbrev pub line_waits : Line → Bool
line_waits line = not (length line.waiting == 0)

-- an indication is pending
abbrev pub waits : Rows Line → Bool
waits lines = list_any (λ row. line_waits row.1) lines

-- for how many connections one is
abbrev pub how_many_wait : Rows Line → ℕ
how_many_wait lines = count_by (λ row. line_waits row.1) lines

-- ---- a new connection

-- a line that is needed: its connection is live, or an indication is pending
abbrev pub is_used : Rows Connection → ℕ × Line → Bool
is_used live row = is_some (value_at row.0 live) || line_waits row.1

abbrev pub used_lines : Rows Connection → Rows Line → Rows Line
used_lines live lines = filter (is_used live) lines

-- with a new session and no pending indications
abbrev pub fresh_line : Listener → Line
fresh_line session = record { session = Some session; waiting = []; selectors = selectors_sent session.waiting }

-- a new session; lines that are not needed are dropped
abbrev pub joins : ℕ → Listener → End → End
joins r session e = record e { lines = used_lines e.carrier.live (e.lines ++ (r, fresh_line session) ∷ []) }

-- an end that has not ended has handled all events of its carrier
abbrev pub IsAttended : End → Type 0
IsAttended e = e.carrier.ended ≡ None → e.carrier.events ≡ []
