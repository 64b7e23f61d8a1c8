use Rattle.osi_session.proofs.Vocabulary.{arith, ◌∙◌, ap, sym, option_copied, Taker, heard}
use Rattle.osi_session.proofs.tsdu.the_effect_of_a_word.{part_dropped, part_bad}
use Rattle.osi_session.proofs.hearing.take_part.Goals as goal

pub returns-in-Dropped : goal.returns-in-Dropped
returns-in-Dropped c = grind (arith, option_copied, part_dropped)

pub returns-in-Bad : goal.returns-in-Bad
returns-in-Bad c =
    let t : Taker = record { state = c.args.state.now; joined = option_copied c.args.joined } in
    part_bad t c.args.place c.args.user_data.now c.in-Bad.fault (sym c.in-Bad.is ∙ c.judge_part.ensures) ∙
    ap (heard t.joined) (sym c.bad.ensures) ∙ sym (c.of-in-Bad.ensures t.joined)
