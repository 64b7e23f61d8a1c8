use Rattle.std.proofs.Common.{arith, refl}
use Rattle.osi_c.proofs.a_piece_passes_to_a_judge.{nothing_passed, more_passed, all_passed, refused, empty_yes}
use Rattle.osi_c.proofs.judges.take_piece.Goals as goal

pub returns-in_default : goal.returns-in_default
returns-in_default c =
    refused c.args.side c.args.piece.now c.rest.rest.now c.args.held.now c.rest.held c.pass.new.held _ refl c.rest.invariant
    c.in_default.ensures.err

pub rest-preserved : goal.rest-preserved
rest-preserved c = grind (arith, more_passed)

pub returns : goal.returns
returns c = search (arith, empty_yes, all_passed)

pub rest-init : goal.rest-init
rest-init c = nothing_passed c.args.side c.args.piece.now c.args.held.now
