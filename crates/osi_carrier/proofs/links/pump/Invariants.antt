use Rattle.osi_carrier.proofs.Vocabulary.{any_standing, left_to_give, written_by, packets, ◌≤◌, length}
use Rattle.osi_carrier.proofs.written.all_that_a_link_gives.{IsPumping}
use Rattle.osi_carrier.proofs.links.pump.Given as goal

abbrev pub invariant-units : goal.invariant-units
invariant-units l = IsPumping l.fn.peer (any_standing l.fn.link) l.fn.out.items (any_standing l.link) l.out.items
    × (length (packets (written_by l.fn.peer (any_standing l.fn.link))) ≤ l.fn.out.spare →
    length (packets (written_by l.fn.peer (any_standing l.link))) ≤ l.out.spare)

abbrev pub decreases-units : goal.decreases-units
decreases-units l = left_to_give (any_standing l.link)
