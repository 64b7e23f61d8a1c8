use Rattle.std.proofs.Common.{◌≤◌, drop, length, reverse, take}
use Rattle.osi_side.specs.Onward.{IsAmong}
use Rattle.osi_witness.specs.Backwards.{HasRoom}
use Rattle.osi_witness.specs.Linked.{last_kept}
use Rattle.osi_witness.specs.Streams.{tsdus_of}
use Rattle.osi_witness.specs.Trails.{Runs}
use Rattle.osi_witness.proofs.trails.run_of.Given as goal

-- the units from here on are sent by the session to which the walk has come
abbrev pub invariant-units : goal.invariant-units
invariant-units l = record {
  up : l.number ≤ length l.kept;
  here : IsAmong l.after (last_kept l.own.begin.items (take l.number l.kept));
  room : HasRoom l.most (reverse l.said.items);
  runs : Runs (tsdus_of l.own) (tsdus_of l.heard) (drop l.number l.kept) (reverse l.said.items) l.after.taken l.after.standing;
}

abbrev pub decreases-units : goal.decreases-units
decreases-units l = l.number
