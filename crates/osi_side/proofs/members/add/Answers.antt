use Rattle.std.proofs.Common.{arith}
use Rattle.osi_side.proofs.walked.one_more_session.{added}
use Rattle.osi_side.proofs.kept.a_session_is_sought_among_the_last.{added_not, added_one}
use Rattle.osi_side.proofs.members.add.Goals as goal

pub returns-clause-explained : goal.returns-clause-explained
returns-clause-explained c = λ us later. added us c.args.members.now.items c.push.new.self.items c.args.member later
    c.in_ok-push.ensures.items

pub returns-then-is_among-clause-value : goal.returns-then-is_among-clause-value
returns-then-is_among-clause-value c = grind (arith, added_not)

pub returns-clause-value : goal.returns-clause-value
returns-clause-value c = grind (arith, added_one)
