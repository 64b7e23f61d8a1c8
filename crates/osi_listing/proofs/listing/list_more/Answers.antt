use Rattle.osi_listing.proofs.Vocabulary.{said_by, units_behind}
use Rattle.osi_listing.specs.Counting.{one_more}
use Rattle.osi_listing.proofs.units_one_after_the_other.{lists_none, lists_next}
use Rattle.osi_listing.proofs.listing.list_more.Goals as goal

pub units-init : goal.units-init
units-init c = lists_none c.args.text.now.items c.args.counts.now (units_behind c.args.left)

pub units-preserved : goal.units-preserved
unfolding one_more
units-preserved c =
    lists_next c.args.text.now.items c.units.text.items c.push_session_unit.new.text.items c.args.counts.now c.units.counts
    c.add_session_unit.new.self (said_by c.in-Some.unit) (units_behind c.units.left) (units_behind c.next.new.self)
    (units_behind c.args.left)
    c.in-Some.ensures.steps c.in_ok-push_session_unit.ensures c.add_session_unit.ensures c.units.invariant
