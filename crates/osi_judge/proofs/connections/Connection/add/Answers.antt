use Rattle.osi_judge.proofs.Vocabulary.{◌∙◌, sym, other}
use Rattle.osi_judge.proofs.a_dt_is_judged_if_there_is_room.{finding_stays, over_stays}
use Rattle.osi_judge.proofs.what_holds_of_a_result.{on_ok, on_err}
use Rattle.osi_judge.proofs.connections.Connection.add.Goals as goal

pub returns-then-is_over-clause-ok : goal.returns-then-is_over-clause-ok
returns-then-is_over-clause-ok c j h =
    over_stays c.args.direction c.args.at c.args.end c.args.octets.now c.args.self.now j (sym c.is_over.ensures ∙ c.if-is_over.true) h

pub returns-in-Ok-clause-ok : goal.returns-in-Ok-clause-ok
returns-in-Ok-clause-ok c = on_ok c.add_heard.result c.add_heard.ensures.ok (λ k j h. k j (c.hand_over.ensures.holds j h))

pub returns-in-Ok-clause-err : goal.returns-in-Ok-clause-err
returns-in-Ok-clause-err c = on_err c.add_heard.result c.add_heard.ensures.err (λ k j h. k j (c.hand_over.ensures.holds j h))

pub returns-in-Ok-clause-own : goal.returns-in-Ok-clause-own
returns-in-Ok-clause-own c =
    on_err c.add_heard.result c.add_heard.ensures.own
    (λ k. k ∙ finding_stays c.args.direction c.args.self.now c.hand_over.new.self c.hand_over.ensures.left c.hand_over.ensures.right)

pub returns-in-Ok-clause-other : goal.returns-in-Ok-clause-other
returns-in-Ok-clause-other c =
    c.add_heard.ensures.other
    ∙ finding_stays (other c.args.direction) c.args.self.now c.hand_over.new.self c.hand_over.ensures.left c.hand_over.ensures.right

pub returns-in-Err-clause-own : goal.returns-in-Err-clause-own
returns-in-Err-clause-own c =
    finding_stays c.args.direction c.args.self.now c.hand_over.new.self c.hand_over.ensures.left c.hand_over.ensures.right

pub returns-in-Err-clause-other : goal.returns-in-Err-clause-other
returns-in-Err-clause-other c =
    finding_stays (other c.args.direction) c.args.self.now c.hand_over.new.self c.hand_over.ensures.left c.hand_over.ensures.right
