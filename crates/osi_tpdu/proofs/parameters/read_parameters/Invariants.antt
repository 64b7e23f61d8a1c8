use Rattle.osi_tpdu.proofs.Vocabulary.{known_at, parameter_values, ◌+◌, ◌<◌, ◌^◌, length}
use Rattle.osi_tpdu.proofs.what_is_left_gives_the_rest.{Reads}
use Rattle.osi_tpdu.proofs.parameters.read_parameters.Given as goal

abbrev pub invariant-parameters : goal.invariant-parameters
invariant-parameters l = record {
  reads : Reads l.at (parameter_values l.known) l.rest (known_at l.start l.octets);
  room : l.at + length l.rest < 2 ^ 64;
}

abbrev pub decreases-parameters : goal.decreases-parameters
decreases-parameters l = length l.rest
