use Rattle.osi_session.proofs.Vocabulary.{units_of, said_by_units, Taker, respond_tsdu, respond_word, arith, ◌∙◌, ap, sym, option_copied}
use Rattle.osi_session.proofs.moves.the_moves_in_memory.{of_heard}
use Rattle.osi_session.proofs.grouping.take_all.Goals as goal

pub returns-in-Ok-clause-heard : goal.returns-in-Ok-clause-heard
returns-in-Ok-clause-heard c =
    let t : Taker = record { state = c.args.state.now; joined = option_copied c.args.joined } in
    of_heard t.joined c.of-reactions.result c.in-Ok.heard (respond_tsdu t (said_by_units (units_of c.args.group.now)))
    c.of-reactions.ensures.outcome c.of-reactions.ensures.joined
    (sym c.in-Ok.ensures ∙ ap (respond_word t) c.of-word.ensures ∙ sym (c.in-Some.ensures t))

pub returns-in-Err-clause-err : goal.returns-in-Err-clause-err
returns-in-Err-clause-err c = grind (arith, option_copied, respond_word)
