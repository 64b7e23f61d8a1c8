use Rattle.osi_session.proofs.Vocabulary.{arith, ◌∙◌, ap, Some, None, option_copied, count_of, count_by}
use Rattle.osi_session.proofs.tsdu.octets_are_counted.{dropped_counts, bad_counts, long_counts, good_counts}
use Rattle.osi_session.proofs.counting.count_part.Goals as goal

pub returns-in-Dropped : goal.returns-in-Dropped
returns-in-Dropped c = dropped_counts c.args.state.now c.args.joined (option_copied c.as_ref.result) c.args.place c.args.user_data.now
    (count_of c.of.result)
    (c.as_ref.ensures.value ∙ c.placeholder-begun.ensures) c.in-Dropped.ensures
    (c.of.ensures ∙ ap (count_by c.args.joined) c.silent.ensures)

pub returns-in-Bad : goal.returns-in-Bad
returns-in-Bad c = bad_counts c.args.state.now c.args.joined (option_copied c.as_ref.result) c.args.place c.args.user_data.now
    c.in-Bad.fault (count_of c.of-in-Bad.result)
    (c.as_ref.ensures.value ∙ c.placeholder-begun.ensures) c.in-Bad.ensures
    (c.of-in-Bad.ensures ∙ ap (count_by c.args.joined) c.bad.ensures)

pub returns-in-Some : goal.returns-in-Some
returns-in-Some c =
    good_counts c.args.state.now c.args.joined (option_copied c.as_ref.result) c.args.place c.args.user_data.now c.in-Some.total
    (count_of c.of-in-Some.result)
    (c.as_ref.ensures.value ∙ c.placeholder-begun.ensures) c.in-Good.ensures c.in-Some.ensures.few c.in-Some.ensures.some
    (grind arith)

pub returns : goal.returns
returns c = long_counts c.args.state.now c.args.joined (option_copied c.as_ref.result) c.args.place c.args.user_data.now
    (count_of c.of-in-None.result)
    (c.as_ref.ensures.value ∙ c.placeholder-begun.ensures) c.in-Good.ensures c.in-None.ensures.none
    (c.of-in-None.ensures ∙ ap (count_by c.args.joined) c.bad-in-None.ensures)
