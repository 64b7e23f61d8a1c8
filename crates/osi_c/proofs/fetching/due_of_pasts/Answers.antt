use Rattle.std.proofs.Common.{◌∙◌, ◌≤◌, ◌<◌, sym, subst, length, arith}
use Rattle.osi_c.specs.Fetching.{HasNoneByPast}
use Rattle.osi_c.specs.Subjects.{told_by}
use Rattle.osi_c.proofs.each_connection_is_looked_at.{one_more_between, each_from}
use Rattle.osi_c.proofs.what_is_fetched_of_a_judge.{some_is, none_is}
use Rattle.osi_c.proofs.fetching.due_of_pasts.Goals as goal

pub returns-then-is_some-clause-none : goal.returns-then-is_some-clause-none
returns-then-is_some-clause-none c = grind (arith, some_is)

pub connections-preserved : goal.connections-preserved
connections-preserved c =
    let lt : c.connections.place < length c.args.pasts.now = omega arith in
    one_more_between (HasNoneByPast c.args.held.now (told_by c.args.held.now.told)) c.args.pasts.now c.args.held.now.seen c.connections.place
    c.index-pasts-place.result lt c.connections.invariant
    (subst (HasNoneByPast c.args.held.now (told_by c.args.held.now.told)) c.index-pasts-place.is
    (none_is c.due_by_past-due.result _ (sym c.is_some.ensures ∙ c.if-is_some.false) c.due_by_past-due.ensures.none))

pub returns-clause-none : goal.returns-clause-none
returns-clause-none c =
    let le : length c.args.pasts.now ≤ c.connections.place = omega arith in
    each_from (HasNoneByPast c.args.held.now (told_by c.args.held.now.told)) c.args.pasts.now c.args.held.now.seen c.connections.place le
    c.connections.invariant

pub connections-init : goal.connections-init
connections-init c = λ i x le lt e. absurd (omega (arith, le, lt))
