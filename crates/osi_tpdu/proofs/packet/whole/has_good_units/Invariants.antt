use Rattle.osi_tpdu.proofs.Vocabulary.{◌+◌, ◌<◌, ◌^◌, length, units_of}
use Rattle.osi_tpdu.proofs.the_units_of_a_packet.{Ends}
use Rattle.osi_tpdu.proofs.packet.whole.has_good_units.Given as goal

abbrev pub invariant-units : goal.invariant-units
invariant-units l = record {
  ends : Ends l.at l.rest (units_of l.packet);
  room : l.at + length l.rest < 2 ^ 64;
}

abbrev pub decreases-units : goal.decreases-units
decreases-units l = length l.rest
