use Rattle.std.proofs.Common.{arith}
use Rattle.osi_side.proofs.Vocabulary.{[], get_or}
use Rattle.osi_side.proofs.walked.the_first_place_is_enough.{moves_nowhere}
use Rattle.osi_side.proofs.kept.a_session_goes_on_by_one_function.{moves_as}
use Rattle.osi_side.proofs.first_places.moves.Goals as goal

pub returns-in-None-clause-moves : goal.returns-in-None-clause-moves
returns-in-None-clause-moves c =
    moves_nowhere c.args.at.now.standing c.tsdu_at-tsdu.result.now
    (get_or c.args.heard.now c.args.at.now.taken []) c.in_ok-standing.field-0 c.tsdu_at-tsdu.ensures.octets c.in-None.is
    c.in_ok-standing.ensures.hears

pub returns-in-None-clause-value : goal.returns-in-None-clause-value
returns-in-None-clause-value c = grind (arith, moves_as)

pub returns-in-Some-clause-value : goal.returns-in-Some-clause-value
returns-in-Some-clause-value c = grind (arith, moves_as)
