use Rattle.osi_listing.proofs.Vocabulary.{units_of, read_entries, Packet}
use Rattle.osi_listing.specs.Counting.{one_more}
use Rattle.osi_listing.specs.Listing.{line_of}
use Rattle.osi_listing.proofs.units_one_after_the_other.{then_more}
use Rattle.osi_listing.proofs.listing.list_packet.Goals as goal

pub returns-clause-says : goal.returns-clause-says
unfolding line_of one_more
returns-clause-says c =
    then_more c.list_units.result c.args.text.now.items c.push_packet.new.text.items c.list_units.new.text.items c.args.counts.now
    c.add_packet.new.self
    c.list_units.new.counts (Packet c.args.offset c.args.unit.now) c.args.streams.now (λ e. read_entries e (units_of c.args.unit.now))
    c.in_ok-push_packet.ensures c.add_packet.ensures c.list_units.ensures.says
