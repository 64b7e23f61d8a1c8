use Rattle.osi_side.proofs.Vocabulary.{subst, List, units_behind, units_of, said_by, Member, Behind, LeavesBehind, in_effect}
use Rattle.osi_side.specs.declared.rules.Behind.TheVariants as behind
use Rattle.osi_side.proofs.told.the_nearest_of_all_sessions_is_told.{breaks_later, breaks_here, breaks_last_ok}
use Rattle.osi_side.proofs.rules.break_in.Goals as goal

pub units-preserved : goal.units-preserved
units-preserved c =
    let heard = c.args.heard.now in
    let unit = said_by c.in-Some.unit in
    let left = subst (λ (z : List Member). LeavesBehind heard c.args.octets c.args.before z unit (behind.Members c.in-Members.next))
    c.deref.ensures.value
    (subst (λ (z : Behind). LeavesBehind heard c.args.octets c.args.before c.deref.result.now unit z) c.in-Members.is
    c.in_ok-next.ensures) in
    breaks_later heard c.args.octets c.args.before c.args.members.now c.units.now.items c.in-Members.next.items
    (in_effect (units_of c.args.group.now))
    (units_behind c.units.behind) (units_behind c.next.new.self) (said_by c.first-first.result.now) unit c.in-Some.ensures.steps left.0
    left.1
    c.units.invariant

pub returns-in-Break : goal.returns-in-Break
returns-in-Break c =
    let heard = c.args.heard.now in
    let unit = said_by c.in-Some.unit in
    let left = subst (λ (z : List Member). LeavesBehind heard c.args.octets c.args.before z unit (behind.Break c.in-Break.found))
    c.deref.ensures.value
    (subst (λ (z : Behind). LeavesBehind heard c.args.octets c.args.before c.deref.result.now unit z) c.in-Break.is c.in_ok-next.ensures) in
    breaks_here heard c.args.octets c.args.before c.args.members.now c.units.now.items (in_effect (units_of c.args.group.now))
    (units_behind c.units.behind) (units_behind c.next.new.self) (said_by c.first-first.result.now) unit c.in-Break.found
    c.in-Some.ensures.steps left.0
    left.1 c.units.invariant

pub returns : goal.returns
returns c =
    breaks_last_ok c.nearest.result c.args.heard.now c.args.octets c.args.before c.args.members.now c.units.now.items c.deref-2.result.now
    (in_effect (units_of c.args.group.now)) (units_behind c.units.behind) (said_by c.first-first.result.now) c.in_default.ensures.steps.0
    c.deref-2.ensures.value c.nearest.ensures c.units.invariant
