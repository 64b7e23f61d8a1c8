use Rattle.osi_stack.proofs.Vocabulary.{◌≡◌, ◌≤◌, take, how_many_wait}
use Rattle.osi_stack.proofs.lines.count_waiting.Given as goal

abbrev pub invariant-lines : goal.invariant-lines
invariant-lines l = (l.waiting ≡ how_many_wait (take l.line-index l.rows)) × (l.waiting ≤ l.line-index)
