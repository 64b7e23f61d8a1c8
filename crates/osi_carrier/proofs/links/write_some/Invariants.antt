use Rattle.osi_carrier.proofs.Vocabulary.{any_standing, one_by_one, packets, written_for, length, tsdus_from, tsdus_in, FitsTsdu}
use Rattle.osi_carrier.proofs.written.pieces_are_written_straight.{IsSending}
use Rattle.osi_carrier.proofs.links.write_some.Given as goal

abbrev pub invariant-pieces : goal.invariant-pieces
invariant-pieces l =
    IsSending l.fn.peer (one_by_one (any_standing l.fn.link) (tsdus_in l.fn.pieces))
    (packets (written_for l.fn.peer (any_standing l.fn.link) (tsdus_in l.fn.pieces)))
    l.fn.out.items (any_standing l.link) (tsdus_from l.fn.pieces l.head l.rest) l.out.items l.out.spare
    × FitsTsdu l.fn.pieces.size l.head

abbrev pub decreases-pieces : goal.decreases-pieces
decreases-pieces l = length l.rest
