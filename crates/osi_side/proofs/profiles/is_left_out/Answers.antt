use Rattle.osi_side.proofs.Vocabulary.{arith}
use Rattle.std.proofs.lemmas.Grind.{elements}
use Rattle.osi_side.proofs.profiles.is_left_out.Goals as goal

pub returns-in_default : goal.returns-in_default
returns-in_default c = grind (arith, elements)

pub returns-in_default-2 : goal.returns-in_default-2
returns-in_default-2 c = grind (arith, elements)

pub returns-in-7 : goal.returns-in-7
returns-in-7 c = grind (arith, elements)

pub returns-in-7-2 : goal.returns-in-7-2
returns-in-7-2 c = grind (arith, elements)

pub returns-in-None : goal.returns-in-None
returns-in-None c = grind (arith, elements)
