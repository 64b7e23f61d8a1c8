use Rattle.std.proofs.Common.{arith}
use Rattle.osi_side.proofs.kept.two_sessions_are_compared.{apart, same_place}
use Rattle.osi_side.proofs.members.is_same_member.Goals as goal

pub returns-then-numbers-clause-value : goal.returns-then-numbers-clause-value
returns-then-numbers-clause-value c = apart c.args.one.now c.args.other.now (grind arith)

pub returns-clause-value : goal.returns-clause-value
returns-clause-value c = same_place c.is_same.result c.args.one.now c.args.other.now c.if-one-other.false c.is_same.ensures
