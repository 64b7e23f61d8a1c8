-- The effects of the functions that trace: `old` and `new` are the contents of the slot.
use Rattle.std.specs.Prelude.{◌≡◌, ℕ, ◌<◌, ◌≤◌, ◌==◌, if◌then◌else◌, List, [], Option, Some, None, ⊤}
use Rattle.osi_session.specs.declared.faults.CallError.{CallError}
use Rattle.osi_listing.specs.declared.traces.Trace.{Trace}
use Rattle.osi_c.specs.Codes.{Answer, Done, Closed, BadArgument}
use Rattle.osi_c.specs.Traced.{IsNew, kind_of, LineAnswer, BadDirection, HandsOut, tally, Means}
use Rattle.osi_c.specs.Traced as traced
use Rattle.osi_c.specs.declared.handles.Contents.{Contents}
use Rattle.osi_c.specs.declared.traces.Kind.{Kind}
use Rattle.osi_c.specs.declared.traces.Traces.{Traces}
use Rattle.osi_c.specs.declared.tracing.OsiCounters.{OsiCounters}

-- the same contents with other traces
abbrev pub with_traces : Contents → Traces → Contents
with_traces c t = record c { traces = t }

-- both traces begin, with no lines fetched
abbrev pub BeginsBoth : Option Kind → Traces → Type 0
BeginsBoth None t = ⊥
BeginsBoth (Some kind) t = IsNew kind t.received × IsNew kind t.sent × (t.lines.items ≡ [])

abbrev pub Switches : ℕ → Option (Answer CallError) → Option Contents → Option Contents → Type 0
Switches what (Some Done) (Some old) (Some new) = BeginsBoth (kind_of what) new.traces × (new ≡ with_traces old new.traces)
Switches what (Some BadArgument) old new = (kind_of what ≡ None) × (new ≡ old)
Switches what (Some Closed) None new = (kind_of what ≡ None → ⊥) × (new ≡ None)
Switches what answer old new = ⊥

-- the trace of a direction, 0 for what was received and 1 for what was sent; and the other one
abbrev pub trace_of : ℕ → Traces → Option Trace
trace_of direction t = if direction == 0 then t.received else t.sent

abbrev pub other_of : ℕ → Traces → Option Trace
other_of direction t = if direction == 0 then t.sent else t.received

-- the lines of one direction are handed out, and the other direction stays as it was
abbrev pub FetchesLines : ℕ → Option LineAnswer → Option Contents → Option Contents → Type 0
FetchesLines direction (Some BadDirection) old new = (1 < direction) × (new ≡ old)
FetchesLines direction (Some traced.Closed) None new = (direction ≤ 1) × (new ≡ None)
FetchesLines direction answer (Some old) (Some new) =
    (direction ≤ 1) × HandsOut answer (trace_of direction old.traces) (trace_of direction new.traces) new.traces.lines.items
    × (other_of direction new.traces ≡ other_of direction old.traces) × (new ≡ with_traces old new.traces)
FetchesLines direction answer old new = ⊥

-- the lines that were fetched last; none for an empty slot
abbrev pub last_lines : Option Contents → List ℕ
last_lines None = []
last_lines (Some c) = c.traces.lines.items

-- what both directions counted; nothing for an empty slot
abbrev pub counters : Option Contents → OsiCounters
counters None = record { received = tally None; sent = tally None }
counters (Some c) = record { received = tally c.traces.received; sent = tally c.traces.sent }

abbrev pub MeansBoth : Option Contents → OsiCounters → Type 0
MeansBoth None shown = ⊤
MeansBoth (Some c) shown = Means c.traces.received shown.received × Means c.traces.sent shown.sent
