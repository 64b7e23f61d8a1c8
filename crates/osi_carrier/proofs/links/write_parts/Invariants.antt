use Rattle.osi_carrier.proofs.Vocabulary.{any_standing, with_tsdu, ◌+◌, ◌≤◌, length, left_of}
use Rattle.osi_carrier.proofs.written.a_tsdu_part_after_part.{IsParting}
use Rattle.osi_carrier.proofs.links.write_parts.Given as goal

abbrev pub invariant-parts : goal.invariant-parts
invariant-parts l =
    IsParting l.fn.peer (with_tsdu (any_standing l.fn.link) l.fn.tsdu) l.fn.out.items (any_standing l.link) l.rest
    (left_of (any_standing l.fn.link) l.fn.tsdu) l.out.items l.out.spare
    × (length l.fn.out.items + l.fn.out.spare ≤ length l.out.items + l.out.spare)

abbrev pub decreases-parts : goal.decreases-parts
decreases-parts l = length l.rest
