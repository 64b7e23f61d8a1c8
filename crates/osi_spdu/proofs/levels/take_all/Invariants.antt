use Rattle.osi_spdu.proofs.Vocabulary.{length, slots_of}
use Rattle.osi_spdu.proofs.parameters.parameters_one_after_the_other.{IsTaking}
use Rattle.osi_spdu.proofs.levels.take_all.Given as goal

abbrev pub invariant-parameters : goal.invariant-parameters
invariant-parameters g l = IsTaking (g.L.Level.taking l.level) l.at (slots_of l.params) l.rest l.fn.at (slots_of l.fn.params) l.octets

abbrev pub decreases-parameters : goal.decreases-parameters
decreases-parameters g l = length l.rest
