use Rattle.std.proofs.Common.{refl}
use Rattle.osi_c.proofs.what_is_fetched_of_a_judge.{judge_kept}
use Rattle.osi_c.proofs.what_is_asked_of_a_judge.{asked_after}
use Rattle.osi_c.proofs.asking.ask.Goals as goal

pub returns-in-Ok : goal.returns-in-Ok
returns-in-Ok c =
    asked_after c.asked_of.result c.args.number c.args.direction c.args.held.now _
    (judge_kept c.args.held.now _ c.settle.ensures.holds refl refl refl refl) (c.asked_of.ensures c.in-Ok.ensures.settled)

pub returns-in-Err : goal.returns-in-Err
returns-in-Err c = judge_kept c.args.held.now _ c.settle.ensures.holds refl refl refl refl
