use Rattle.std.proofs.Common.{length, map}
use Rattle.osi_carrier.proofs.written.what_is_copied_of_pieces.{IsCopied}
use Rattle.osi_carrier.proofs.pieces.Pieces.copies.Given as goal

abbrev pub invariant-pieces : goal.invariant-pieces
invariant-pieces l = IsCopied l.fn.self l.fn.limit l.fn.units (map (λ v. v.items) l.tsdus.items) l.left l.head l.rest

abbrev pub decreases-pieces : goal.decreases-pieces
decreases-pieces l = length l.rest
