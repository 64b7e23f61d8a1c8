use Rattle.std.proofs.Common.{refl}
use Rattle.osi_c.proofs.what_is_fetched_of_a_judge.{given, same_kept}
use Rattle.osi_c.proofs.fetching.give.Goals as goal

pub returns-in-Ok : goal.returns-in-Ok
returns-in-Ok c = λ settled decided turn due.
    given c.args.held.now _ c.args.due.subject c.args.due.note c.shown-verdict.result settled decided turn due c.shown-verdict.ensures
    (record { judge = refl; opening = refl; text = refl }) refl c.in-Ok.ensures.ok

pub returns-in-Err : goal.returns-in-Err
returns-in-Err c = λ settled decided turn due.
    same_kept c.args.held.now _ (record { judge = refl; opening = refl; text = refl }) refl c.in-Err.ensures.err
