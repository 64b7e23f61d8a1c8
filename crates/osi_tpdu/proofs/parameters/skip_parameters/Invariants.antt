use Rattle.osi_tpdu.proofs.Vocabulary.{◌+◌, ◌<◌, ◌^◌, length, all_skipped_at}
use Rattle.osi_tpdu.proofs.what_is_left_gives_the_rest.{Skips}
use Rattle.osi_tpdu.proofs.parameters.skip_parameters.Given as goal

abbrev pub invariant-parameters : goal.invariant-parameters
invariant-parameters l = record {
  skips : Skips l.at l.rest (all_skipped_at l.start l.octets);
  room : l.at + length l.rest < 2 ^ 64;
}

abbrev pub decreases-parameters : goal.decreases-parameters
decreases-parameters l = length l.rest
