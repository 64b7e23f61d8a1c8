use Rattle.std.proofs.Common.{arith}
use Rattle.osi_carrier.proofs.written.what_is_copied_of_pieces.{copying_first, copying_next, copying_last}
use Rattle.osi_carrier.proofs.pieces.Pieces.copies.Goals as goal

pub pieces-init : goal.pieces-init
pieces-init c = grind (arith, copying_first)

pub pieces-preserved : goal.pieces-preserved
pieces-preserved c =
    copying_next _ _ _ _ _ _ _ _ _ _ _ c.requires.fit c.pieces.invariant c.pieces-test.true c.split_at.ensures.front
    c.split_at.ensures.back c.in_ok-left.ensures

pub returns : goal.returns
returns c =
    copying_last _ _ _ _ _ _ _ _ _ c.pieces.invariant c.pieces-test.false c.in_ok-put_rest.ensures
