use Rattle.std.proofs.Common.{◌≡◌, ◌≤◌, ◌+◌, ◌-◌, drop, length}
use Rattle.osi_witness.specs.Passed.{passed_first}
use Rattle.osi_witness.proofs.streams.passed_before.Given as goal

abbrev pub invariant-tsdus : goal.invariant-tsdus
invariant-tsdus l = record {
  up : l.known ≤ l.passed;
  passed : l.known ≤ length l.tsdus → l.passed + passed_first l.piece (drop l.passed l.tsdus)
      ≡ l.known + passed_first l.piece (drop l.known l.tsdus);
}

abbrev pub decreases-tsdus : goal.decreases-tsdus
decreases-tsdus l = length l.tsdus - l.passed
