use Rattle.osi_listing.proofs.Vocabulary.{arith, inl, inr, vec_capacity, unfetched}
use Rattle.osi_listing.proofs.a_trace_is_a_prefix_of_the_listing.{stops_lines, stops_for, kept}
use Rattle.osi_listing.proofs.traces.Trace.list.Goals as goal

pub returns-in-Err-clause-traced : goal.returns-in-Err-clause-traced
returns-in-Err-clause-traced c = grind (arith, stops_lines)

pub returns-clause-traced : goal.returns-clause-traced
returns-clause-traced c = λ lines octets fetched h.
    kept c.args.self.now.keeping c.keep-self.result c.args.self.now.lister c.feed.new.self octets c.args.piece.now fetched
    (unfetched c.args.self.now) c.new-lines.result.items c.feed.new.text.items c.as_slice.result.now c.keep-self.new.text.items
    (vec_capacity c.args.self.now.text) c.unfinished.result lines c.new-lines.ensures.items c.as_slice.ensures.value
    c.keep-self.ensures c.in-Ok.ensures.fed h

pub returns-clause-stops : goal.returns-clause-stops
returns-clause-stops c = λ lines stopped.
    elim (stops_for c.keep-self.result (vec_capacity c.args.self.now.text) c.args.self.now.lister c.feed.new.self c.args.piece.now
    (unfetched c.args.self.now) c.new-lines.result.items c.feed.new.text.items c.as_slice.result.now c.keep-self.new.text.items
    c.unfinished.result c.new-lines.ensures.items c.as_slice.ensures.value c.unfinished.ensures
    c.keep-self.ensures c.in-Ok.ensures.fed stopped)
    [ inl many ↦ inr (inl many) | inr none ↦ inr (inr (lines, none)) ]
