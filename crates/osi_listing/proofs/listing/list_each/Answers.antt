use Rattle.osi_listing.proofs.Vocabulary.{units_left, value}
use Rattle.osi_listing.proofs.units_one_after_the_other.{advanced_none, advanced_step}
use Rattle.osi_listing.proofs.listing.list_each.Goals as goal

pub units-init : goal.units-init
units-init c = λ earlier h. advanced_none c.args.text.now.items c.args.counts.now c.args.streams.now earlier (units_left c.args.units) h

pub units-preserved : goal.units-preserved
units-preserved c = λ earlier h.
    advanced_step c.args.text.now.items c.units.text.items c.list_unit.new.text.items c.args.counts.now c.units.counts
    c.list_unit.new.counts
    c.units.streams c.list_unit.new.streams (value c.in-Some.unit) (units_left c.next.new.self) (units_left c.units.units) earlier
    (units_left c.args.units)
    c.in-Some.ensures.steps.0 c.in_ok-list_unit.ensures.says c.in_ok-list_unit.ensures.holds (c.units.invariant earlier h)
