use Rattle.osi_c.specs.Fetching.{HasNoneByPasts, HasNoneOfSessions}
use Rattle.osi_c.specs.Subjects.{told_by}
use Rattle.osi_c.proofs.each_connection_is_looked_at.{none_as, of_any_number}
use Rattle.osi_c.proofs.fetching.sessions_due.Goals as goal

pub returns-in-None-clause-none : goal.returns-in-None-clause-none
returns-in-None-clause-none c =
    none_as c.due_of_pasts.result (HasNoneByPasts c.args.held.now.seen c.args.held.now (told_by c.args.held.now.told) c.replaced.result.now)
    (HasNoneOfSessions c.args.held.now (told_by c.args.held.now.told))
    (of_any_number c.args.held.now c.placed.result.now c.replaced.result.now c.placed.ensures.held c.placed.ensures.heard
    c.replaced.ensures c.in-None.ensures.none) c.due_of_pasts.ensures.none
