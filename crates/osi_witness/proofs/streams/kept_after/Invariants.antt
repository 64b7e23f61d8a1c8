use Rattle.std.proofs.Common.{◌-◌, ◌≤◌, length, take}
use Rattle.osi_side.specs.Sides.{observed}
use Rattle.osi_witness.specs.Linked.{AreAfter}
use Rattle.osi_witness.specs.Units.{words_of}
use Rattle.osi_witness.proofs.all_units_of_a_side_are_kept.{AreFirstOf}
use Rattle.osi_witness.proofs.streams.kept_after.Given as goal

abbrev pub invariant-units : goal.invariant-units
invariant-units l = record {
  first : AreFirstOf l.tsdu l.number l.before l.kept.items;
  after : l.before ≤ length (observed l.side).heard
      → AreAfter (observed l.side).heard (length l.tsdu) l.before (observed l.side).members (take (length l.kept.items) (words_of l.tsdu))
      l.kept.items;
}

abbrev pub decreases-units : goal.decreases-units
decreases-units l = length (words_of l.tsdu) - length l.kept.items
