-- Two ends, how many octets still arrive, and the journal; and the effect of the users' calls.
use Rattle.std.specs.Prelude.{ℕ, ◌+◌, true, false, List, [], ◌∷◌, ◌++◌, length, min, Option, Some, None, Result, Ok, Err}
use Rattle.osi_tpkt.specs.Held.{fresh}
use Rattle.osi_class.specs.declared.terms.Local.{Local}
use Rattle.osi_session.specs.Calls.{Call}
use Rattle.osi_session.specs.Listening.{called}
use Rattle.osi_session.specs.declared.faults.CallError.{CallError}
use Rattle.osi_stack.specs.Calls.{connect_error, connects, call_error}
use Rattle.osi_stack.specs.Moving.{to_session}
use Rattle.osi_stack.specs.State.{Holding, fresh_end}
use Rattle.osi_stack.specs.declared.connecting.Connect.{Connect}
use Rattle.osi_stack.specs.declared.connecting.ConnectError.{ConnectError}
use Rattle.osi_pair.specs.Asked.{asked_of}
use Rattle.osi_pair.specs.Entries.{Entry, asks, calls}
use Rattle.osi_pair.specs.Reaching.{within}
use Rattle.osi_pair.specs.declared.reach.Reach.{Reach}
use Rattle.osi_pair.specs.declared.sides.Side.{Side}
use Rattle.osi_pair.specs.declared.sides.Side.TheVariants.{Left, Right}

pub record TwoEnds : Type 0 where
  pub left : Holding
  pub right : Holding
  -- once the connection is broken: how many octets of each side can still be carried
  pub reach : Option Reach
  pub journal : List Entry

-- two fresh ends
abbrev pub fresh_ends : Local → Local → TwoEnds
fresh_ends left right = record {
  left = record { end = fresh_end true left; held = fresh };
  right = record { end = fresh_end false right; held = fresh };
  reach = None;
  journal = [];
}

abbrev pub end_at : Side → TwoEnds → Holding
end_at Left p = p.left
end_at Right p = p.right

abbrev pub with_end : Side → Holding → TwoEnds → TwoEnds
with_end Left h p = record p { left = h }
with_end Right h p = record p { right = h }

-- with more entries in the journal
abbrev pub noted : List Entry → TwoEnds → TwoEnds
noted entries p = record p { journal = p.journal ++ entries }

-- ---- the user of the left end requests a connection

abbrev pub connected_by : Option ConnectError → Connect → Holding → Holding
connected_by None c h = record h { end = connects c h.end }
connected_by (Some error) c h = h

-- the next reference, or why there is none
abbrev pub answer_with : ℕ → Option ConnectError → Result ℕ ConnectError
answer_with reference None = Ok reference
answer_with reference (Some error) = Err error

abbrev pub after_connect : Connect → TwoEnds → TwoEnds
after_connect c p =
    noted (asks (asked_of c) (answer_with (p.left.end.carrier.given + 1) (connect_error c p.left.end)) ∷ [])
    (record p { left = connected_by (connect_error c p.left.end) c p.left })

-- ---- a call

abbrev pub called_by_error : Option CallError → ℕ → Call → Holding → Holding
called_by_error None r call h = record h { end = to_session r (called call) h.end }
called_by_error (Some error) r call h = h

abbrev pub after_call : Side → ℕ → Call → TwoEnds → TwoEnds
after_call side r call p =
    noted (calls side r call (call_error r call (end_at side p).end) ∷ [])
    (with_end side (called_by_error (call_error r call (end_at side p).end) r call (end_at side p)) p)

-- ---- a break

-- how many octets that a side has sent were not carried
abbrev pub sent_by : Side → TwoEnds → ℕ
sent_by side p = length (end_at side p).end.carrier.outgoing

abbrev pub after_break : ℕ → ℕ → TwoEnds → TwoEnds
after_break left right p = record p {
  reach = Some (record { left = min left (sent_by Left p); right = min right (sent_by Right p) });
}

-- how many octets of a side can be carried
abbrev pub reachable : Side → TwoEnds → ℕ
reachable side p = within p.reach side (sent_by side p)
