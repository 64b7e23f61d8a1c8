use Rattle.osi_side.proofs.Vocabulary.{refl, seen_to}
use Rattle.osi_side.proofs.walked.what_lies_between.{lies_between}
use Rattle.osi_side.proofs.laws.what_lies_between.Goals as goal

pub returns : goal.returns
returns c = λ us later j s low between high p q e. lies_between us later j (seen_to between s) e s low between high refl p q
