use Rattle.std.proofs.Common.{arith}
use Rattle.osi_stack.proofs.in_step.what_is_joined_is_the_same.{live_few, one_at_most}
use Rattle.osi_stack.proofs.each_line.references_rise.{rise_take}
use Rattle.osi_stack.proofs.lines.count_joined.Goals as goal

pub overflow_add-octets : goal.overflow_add-octets
overflow_add-octets c = grind (arith, live_few, one_at_most, rise_take 0 c.lines.line-index c.args.rows.now c.requires.rise)

pub returns-clause-at_most : goal.returns-clause-at_most
returns-clause-at_most c = grind (arith, live_few, rise_take 0 c.lines.line-index c.args.rows.now c.requires.rise)
