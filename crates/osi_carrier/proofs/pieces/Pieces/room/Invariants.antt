use Rattle.std.proofs.Common.{length}
use Rattle.osi_carrier.proofs.written.octets_are_cut_into_tsdus.{IsCounted}
use Rattle.osi_carrier.proofs.pieces.Pieces.room.Given as goal

abbrev pub invariant-pieces : goal.invariant-pieces
invariant-pieces l = IsCounted l.fn.self l.fn.limit l.room.units l.room.octets l.head l.rest

abbrev pub decreases-pieces : goal.decreases-pieces
decreases-pieces l = length l.rest
