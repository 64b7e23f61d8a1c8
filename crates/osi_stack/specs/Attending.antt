-- The effect of one look at the stream: the carrier takes packets up to one that causes an event, and the sessions
-- handle it.
use Rattle.std.specs.Prelude.{◌≡◌, ℕ, true, List, ◌∷◌, length, ◌⊎◌}
use Rattle.osi_carrier.specs.Happenings.{Happening}
use Rattle.osi_carrier.specs.Packets.{Carrying}
use Rattle.osi_carrier.specs.Packets as carriers
use Rattle.osi_stack.specs.Hearing.{hears_times, with_events, with_carrier, attends, all_lost, RunsOut}
use Rattle.osi_stack.specs.Needs.{needs_memory}
use Rattle.osi_stack.specs.State.{End, Holding, IsAttended}
use Rattle.osi_tpkt.specs.declared.cutting.Fed.{Fed}

-- memory ran out, and one session was lost before the end is
pub record Interrupted (old new : End) : Type 0 where
  pub lines : all_lost new.lines ≡ all_lost old.lines
  pub carrier : new.carrier ≡ old.carrier

-- the same for one of the queued events; those before it were handled
pub record LeftOff (old new : End) : Type 0 where
  pub heard : ℕ
  pub event : Happening
  pub more : List Happening
  pub waits : (hears_times heard old).carrier.events ≡ event ∷ more
  pub needed : needs_memory event (with_events more (hears_times heard old)) ≡ true
  pub stopped : Interrupted (with_events more (hears_times heard old)) new

-- the events were handled, or memory ran out for one of them
abbrev pub Attends : End → ℕ → ℕ → End → Type 0
Attends old within used new = (new ≡ attends old) × (used ≡ within)

abbrev pub RunsOutAt : End → ℕ → ℕ → End → Type 0
RunsOutAt old all used new = RunsOut old new × (used ≡ all)

pub record FeedsToEvent (old : Holding) (octets : List ℕ) (used : ℕ) (new : Holding) : Type 0 where
  pub fed : Fed
  pub told : Carrying
  pub feeds : carriers.Feeds (record { state = old.end.carrier; held = old.held }) octets fed told
  pub held : new.held ≡ told.held
  pub heard : Attends (with_carrier told.state old.end) fed.used used new.end ⊎ RunsOutAt (with_carrier told.state old.end) (length octets) used new.end
  pub attended : IsAttended new.end
