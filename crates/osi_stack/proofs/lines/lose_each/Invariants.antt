use Rattle.osi_stack.proofs.Vocabulary.{◌≡◌, ◌++◌, take, drop, all_lost}
use Rattle.osi_stack.proofs.lines.lose_each.Given as goal

abbrev pub invariant-loop-line : goal.invariant-loop-line
invariant-loop-line l = l.line-items ≡ all_lost (take l.line-index l.fn.rows.items) ++ drop l.line-index l.fn.rows.items
