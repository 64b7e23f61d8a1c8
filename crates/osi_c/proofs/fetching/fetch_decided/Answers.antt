use Rattle.std.proofs.Common.{true, false, inl, refl, ◌∙◌, sym}
use Rattle.osi_c.proofs.what_is_fetched_of_a_judge.{after_looking, late_is, same_kept}
use Rattle.osi_c.proofs.fetching.fetch_decided.Goals as goal

pub returns-then-is_undecided : goal.returns-then-is_undecided
returns-then-is_undecided c = λ settled. record {
  settles = record {
    keeps = same_kept c.args.held.now c.args.held.now (record { judge = refl; opening = refl; text = refl }) refl refl;
    settled = settled;
  };
  none = inl (late_is c.is_undecided.result true c.args.held.now c.is_undecided.ensures c.if-is_undecided.true);
}

pub returns : goal.returns
returns c = λ settled.
    after_looking c.fetch_due.result c.args.held.now c.look_on.new.held _ (c.look_on.ensures settled) settled
    (late_is c.is_undecided.result false c.args.held.now c.is_undecided.ensures c.if-is_undecided.false) c.fetch_due.ensures
