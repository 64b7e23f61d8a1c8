use Rattle.osi_stack.proofs.Vocabulary.{◌≡◌, ◌*◌, ◌≤◌, take, joined_in}
use Rattle.osi_stack.proofs.in_step.what_is_joined_is_the_same.{live_in}
use Rattle.osi_stack.proofs.lines.count_joined.Given as goal

abbrev pub invariant-lines : goal.invariant-lines
invariant-lines l = (l.octets ≡ joined_in l.carrier.state.live (take l.line-index l.rows)) ×
    (l.octets ≤ 1048572 * live_in l.carrier.state.live (take l.line-index l.rows))
