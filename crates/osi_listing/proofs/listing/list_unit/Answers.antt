use Rattle.osi_listing.proofs.Vocabulary.{value, part_entries, TransportUnit, part_of}
use Rattle.osi_listing.specs.Counting.{one_more}
use Rattle.osi_listing.specs.Listing.{line_of}
use Rattle.osi_listing.proofs.units_one_after_the_other.{then_more}
use Rattle.osi_listing.proofs.listing.list_unit.Goals as goal

pub returns-clause-says : goal.returns-clause-says
unfolding line_of one_more
returns-clause-says c =
    let unit = value c.args.unit.now in
    then_more c.list_part.result c.args.text.now.items c.push_unit.new.text.items c.list_part.new.text.items c.args.counts.now
    c.add_unit.new.self c.list_part.new.counts (TransportUnit unit) c.args.streams.now (λ e. part_entries e (part_of unit))
    c.in_ok-push_unit.ensures c.add_unit.ensures c.list_part.ensures.says
