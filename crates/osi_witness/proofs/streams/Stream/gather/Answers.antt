use Rattle.std.proofs.Common.{◌∙◌, List, ℕ, ap, drop, subst, sym}
use Rattle.osi_side.specs.Sides.{observed}
use Rattle.osi_witness.specs.Streams.{tsdus_in}
use Rattle.osi_witness.specs.Whole.{AllAreKept}
use Rattle.osi_witness.proofs.all_units_of_a_side_are_kept.{gathered, rest_more, tsdus_stay}
use Rattle.osi_witness.proofs.the_sessions_that_are_kept_are_linked.{gathered_leads}
use Rattle.osi_witness.proofs.streams.Stream.gather.Goals as goal

pub returns-clause-adds : goal.returns-clause-adds
returns-clause-adds c h =
    let s = c.args.self.now in
    let e = c.in_ok-extend_from_slice.ensures.items in (
      ap (λ (o : List ℕ). tsdus_in o s.tsdus.items) e ∙ tsdus_stay s.octets.items c.args.octets.now s.tsdus.items h.within,
      ap (λ (o : List ℕ). drop s.start o) e ∙ rest_more s.octets.items c.args.octets.now s.start h.begun,
    )

pub returns-clause-whole : goal.returns-clause-whole
returns-clause-whole c h =
    let s = c.args.self.now in
    let e = c.in_ok-extend_from_slice.ensures.items in
    subst (λ (o : List ℕ). AllAreKept 0 o s.tsdus.items s.start s.kept.items s.limit (observed s.side)) (sym e)
    (gathered 0 s.octets.items c.args.octets.now s.tsdus.items s.start s.kept.items s.limit (observed s.side) h)

pub returns-clause-leads : goal.returns-clause-leads
returns-clause-leads c begin whole h =
    gathered_leads begin c.args.self.now _ c.args.octets.now c.in_ok-extend_from_slice.ensures.items whole h
