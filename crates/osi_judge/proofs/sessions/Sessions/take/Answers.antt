use Rattle.std.proofs.Common.{arith}
use Rattle.osi_judge.proofs.Vocabulary.{value, source_of}
use Rattle.osi_judge.proofs.what_holds_of_a_result.{any_ok, on_ok}
use Rattle.osi_judge.proofs.who_is_to_blame.{one_asked}
use Rattle.osi_judge.proofs.who_broke_first_stays_to_blame.{still_asked, still_either, else_either}
use Rattle.osi_judge.proofs.sessions.Sessions.take.Goals as goal

pub returns-in-Asks-clause-others : goal.returns-in-Asks-clause-others
returns-in-Asks-clause-others c = grind (arith, any_ok, one_asked)

pub returns-in-Asks-clause-still : goal.returns-in-Asks-clause-still
returns-in-Asks-clause-still c =
    let d = c.args.direction in
    let v = value c.args.unit.now in
    let told = c.args.told.now in
    any_ok c.ask.result (λ s x number h b.
    grind (arith, still_asked x number c.in-Some.place (source_of v) s b))

pub returns-clause-still : goal.returns-clause-still
returns-clause-still c =
    let d = c.args.direction in
    let v = value c.args.unit.now in
    let m = c.args.told.now.meaning in
    on_ok c.take_at.result c.take_at.ensures.still (λ k s x number h b.
    grind (arith, still_either d x number c.args.at v m c.in-Some.place s (k s x number h) b))

pub returns-clause-others : goal.returns-clause-others
returns-clause-others c = grind (arith, on_ok, else_either)
