use Rattle.osi_listing.proofs.Vocabulary.{arith, ◌++◌, inl, inr, unfetched}
use Rattle.osi_listing.proofs.a_trace_is_a_prefix_of_the_listing.{stops_counters, stops_for_streams, counted_on}
use Rattle.osi_listing.proofs.traces.Trace.count.Goals as goal

pub returns-in-Err-clause-traced : goal.returns-in-Err-clause-traced
returns-in-Err-clause-traced c = grind (arith, stops_counters)

pub returns-clause-traced : goal.returns-clause-traced
returns-clause-traced c = λ counts octets fetched h.
    counted_on c.args.self.now.keeping c.counting-self.result c.args.self.now.lister c.feed.new.self octets c.args.piece.now
    (fetched ++ unfetched c.args.self.now) c.new-lines.result.items c.feed.new.text.items c.unfinished.result counts c.counting-self.ensures
    c.in-Ok.ensures.fed h

pub returns-clause-stops : goal.returns-clause-stops
returns-clause-stops c = λ stopped.
    inr (inl (stops_for_streams c.counting-self.result c.args.self.now.lister c.feed.new.self c.args.piece.now c.new-lines.result.items
    c.feed.new.text.items c.unfinished.result c.new-lines.ensures.items c.unfinished.ensures c.counting-self.ensures
    c.in-Ok.ensures.fed stopped))
