use Rattle.std.proofs.Common.{inr, refl}
use Rattle.osi_c.proofs.what_is_fetched_of_a_judge.{same_kept}
use Rattle.osi_c.proofs.fetching.fetch_due.Goals as goal

pub returns-in-None : goal.returns-in-None
returns-in-None c = λ settled decided. record {
  settles = record { keeps = same_kept c.args.held.now c.args.held.now (record { judge = refl; opening = refl; text = refl }) refl refl; settled = settled };
  none = inr c.in-None.ensures.none;
}

pub returns-in-Some : goal.returns-in-Some
returns-in-Some c = λ settled decided. c.give.ensures settled decided c.in-Some.ensures.some.0 c.in-Some.ensures.some.1
