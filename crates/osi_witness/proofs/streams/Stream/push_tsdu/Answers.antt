use Rattle.std.proofs.Common.{◌∙◌, List, refl, subst, sym}
use Rattle.osi_side.specs.Sides.{observed}
use Rattle.osi_witness.specs.Whole.{AllAreKept}
use Rattle.osi_witness.specs.declared.streams.Tsdu.{Tsdu}
use Rattle.osi_witness.proofs.all_units_of_a_side_are_kept.{ended}
use Rattle.osi_witness.proofs.the_sessions_that_are_kept_are_linked.{ended_leads}
use Rattle.osi_witness.proofs.streams.Stream.push_tsdu.Goals as goal

pub returns-clause-whole : goal.returns-clause-whole
returns-clause-whole c h =
    let s = c.args.self.now in
    let e = c.len-end.ensures ∙ s.octets.ok.0 in
    subst (λ (ts : List Tsdu). AllAreKept 1 s.octets.items ts c.len-end.result s.kept.items s.limit (observed s.side))
    (sym c.in_ok-push.ensures.items)
    (ended s.octets.items s.tsdus.items s.start c.len-end.result _ s.kept.items s.limit (observed s.side) refl e e h)

pub returns-clause-leads : goal.returns-clause-leads
returns-clause-leads c begin whole h =
    let s = c.args.self.now in
    ended_leads begin s _ _ c.in_ok-push.ensures.items refl (c.len-end.ensures ∙ s.octets.ok.0) whole h
