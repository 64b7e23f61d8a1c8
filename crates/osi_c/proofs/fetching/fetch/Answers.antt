use Rattle.std.proofs.Common.{refl}
use Rattle.osi_c.proofs.what_is_fetched_of_a_judge.{after_settling, judge_kept}
use Rattle.osi_c.proofs.fetching.fetch.Goals as goal

pub returns-in-Ok : goal.returns-in-Ok
returns-in-Ok c =
    after_settling c.fetch_decided.result c.args.held.now _ c.fetch_decided.new.held c.settle.ensures.holds refl refl refl refl
    (c.fetch_decided.ensures c.in-Ok.ensures.settled)

pub returns-in-Err : goal.returns-in-Err
returns-in-Err c = judge_kept c.args.held.now _ c.settle.ensures.holds refl refl refl refl
