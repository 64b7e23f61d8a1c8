use Rattle.osi_spdu.proofs.Vocabulary.{left_at, arith, rules}
use Rattle.osi_spdu.proofs.tsdu.units_after_the_first.{left_empty, none_after_one, others_given}
use Rattle.osi_spdu.proofs.behind.Behind.after_first.Goals as goal

pub returns-then-is_empty : goal.returns-then-is_empty
returns-then-is_empty c = grind (arith, rules, none_after_one, left_at, left_empty)

pub returns : goal.returns
returns c = others_given c.args.self.now c.next-first.result c.next-first.new.self c.next-first.ensures.steps
