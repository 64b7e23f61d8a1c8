use Rattle.osi_side.proofs.Vocabulary.{◌∙◌, sym, subst, Option, word, said_by, Member, Asker, MovesTo, way_of}
use Rattle.osi_side.proofs.walked.a_walk_to_a_restart_keeps_two.{moves_none, steps_on, steps_out}
use Rattle.osi_side.proofs.kept.a_walk_to_a_restart_is_one_function.{none_is, step_stops, step_on}
use Rattle.osi_side.proofs.restarts.step.Goals as goal

pub returns-in_default-clause-gives : goal.returns-in_default-clause-gives
returns-in_default-clause-gives c = λ before b us later x h.
    steps_out us c.args.heard.now later (word (said_by c.args.asking.now.restart)) c.args.octets before c.args.asker c.args.next.now.items
    c.ask.new.next.items c.keep.new.next.items c.in_ok-asked.asked
    c.requires.restart (x c.args.asker.at.taken c.requires.taken) (moves_none c.args.heard.now c.args.asker.at c.in_ok-at.field-0
    c.in_default.not-Some c.in_ok-at.ensures.moves)
    (c.in_ok-asked.ensures.gives us later) (c.in_ok-keep.ensures.explains us later)

pub returns-clause-gives : goal.returns-clause-gives
returns-clause-gives c = λ before b us later x h.
    let to : Asker = record { at = c.in-Some.at; asked = c.in_ok-asked-2.asked } in
    let here = x c.args.asker.at.taken c.requires.taken in
    steps_on us c.args.heard.now later (word (said_by c.args.asking.now.restart)) c.args.octets before c.args.asker to
    c.args.next.now.items c.ask.new.next.items c.wait.new.next.items c.in_ok-asked.asked
    c.requires.restart b here (subst (λ (r : Option Member). MovesTo c.args.heard.now c.args.asker.at r) c.in-Some.is
    c.in_ok-at.ensures.moves)
    (c.in_ok-asked.ensures.gives us later) (c.in_ok-asked-2.ensures.gives us later before b h (c.tsdu_at-tsdu.ensures.octets ∙ sym here))

pub returns-in_default-clause-value : goal.returns-in_default-clause-value
returns-in_default-clause-value c = λ n.
    step_stops c.args.heard.now (way_of c.args.asking.now c.args.octets) n c.args.asker c.in_ok-asked.asked c.args.next.now.items
    c.ask.new.next.items c.keep.new.next.items c.in_ok-asked.ensures.value
    (none_is c.in_ok-at.field-0 _ c.in_default.not-Some c.in_ok-at.ensures.value) c.in_ok-keep.ensures.value

pub returns-clause-value : goal.returns-clause-value
returns-clause-value c = λ n.
    step_on c.args.heard.now (way_of c.args.asking.now c.args.octets) n c.args.asker c.in-Some.at c.tsdu_at-tsdu.result.now
    c.in_ok-asked.asked c.in_ok-asked-2.asked c.args.next.now.items c.ask.new.next.items c.wait.new.next.items c.in_ok-asked.ensures.value
    (sym c.in_ok-at.ensures.value ∙ c.in-Some.is) c.tsdu_at-tsdu.ensures.octets c.in_ok-asked-2.ensures.value
