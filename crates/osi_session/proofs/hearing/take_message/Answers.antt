use Rattle.osi_session.proofs.Vocabulary.{meant_by, Taker, option_copied}
use Rattle.osi_session.proofs.tsdu.the_verdict_while_joining.{reacts_plain, reacts_misplaced}
use Rattle.osi_session.proofs.hearing.take_message.Goals as goal

pub returns-in-None : goal.returns-in-None
returns-in-None c =
    let t : Taker = record { state = c.args.state.now; joined = option_copied c.args.joined } in
    reacts_plain c.take_unit.result t (meant_by c.args.message) c.misplaced.result c.take_unit.ensures c.in-None.is c.misplaced.ensures

pub returns-in-Some : goal.returns-in-Some
returns-in-Some c =
    let t : Taker = record { state = c.args.state.now; joined = option_copied c.args.joined } in
    reacts_misplaced c.take_misplaced.result t (meant_by c.args.message) c.misplaced.result c.in-Some.kind c.take_misplaced.ensures
    c.in-Some.is c.misplaced.ensures
