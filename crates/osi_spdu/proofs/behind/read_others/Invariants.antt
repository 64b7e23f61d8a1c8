use Rattle.std.proofs.Common.{◌+◌, ◌<◌, ◌^◌, length}
use Rattle.osi_spdu.proofs.tsdu.units_after_the_first.{Leads}
use Rattle.osi_spdu.proofs.behind.read_others.Given as goal

abbrev pub invariant-units : goal.invariant-units
invariant-units l = record {
  leads : Leads l.fn.room l.fn.at l.octets l.room l.at l.rest;
  within : l.at + length l.rest < 2 ^ 64;
}

abbrev pub decreases-units : goal.decreases-units
decreases-units l = l.room
