use Rattle.std.proofs.Common.{arith}
use Rattle.osi_judge.proofs.what_holds_of_a_result.{if_ok}
use Rattle.osi_judge.proofs.a_judge_holds_what_passed.{taken_left, taken_right}
use Rattle.osi_judge.proofs.judge.Judge.take.Goals as goal

pub returns-in-Left-clause-ok : goal.returns-in-Left-clause-ok
returns-in-Left-clause-ok c =
    let t = c.args.self.now in
    if_ok c.take_octets.result c.take_octets.ensures.ok (grind (arith, taken_left))

pub returns-in-Right-clause-ok : goal.returns-in-Right-clause-ok
returns-in-Right-clause-ok c =
    let t = c.args.self.now in
    if_ok c.take_octets-in-Right.result c.take_octets-in-Right.ensures.ok (grind (arith, taken_right))
