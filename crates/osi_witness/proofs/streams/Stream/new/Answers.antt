use Rattle.std.proofs.Common.{◌∙◌, ◌++◌, ◌∷◌, [], List, ap, refl}
use Rattle.osi_side.specs.Kept.{member}
use Rattle.osi_side.specs.Sides.{observed}
use Rattle.osi_side.specs.declared.members.Member.{Member}
use Rattle.osi_witness.proofs.the_sessions_that_are_kept_are_linked.{begins_with}
use Rattle.osi_witness.proofs.streams.Stream.new.Goals as goal

pub returns-clause-leads : goal.returns-clause-leads
returns-clause-leads c begins =
    begins_with c.args.begin c.push.new.self.items _ c.new-3.result.items _ 0 (observed c.args.side) refl c.new-3.ensures.items
    (c.in_ok-push.ensures.items ∙ ap (λ (xs : List Member). xs ++ member 0 c.args.begin ∷ []) c.new-members.ensures.items) begins
    c.requires.finding c.requires.observes
