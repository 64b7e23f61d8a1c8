use Rattle.osi_judge.proofs.a_judge_holds_what_passed.{fed_holds}
use Rattle.osi_judge.proofs.laws.a_judge_holds_what_passed.Goals as goal

pub returns : goal.returns
returns c = fed_holds
