use Rattle.osi_side.proofs.Vocabulary.{◌∙◌, sym, ap, List, length, no_token, says, word, said_by, GT, Member, Told, after_word}
use Rattle.osi_side.proofs.kept.a_tsdu_that_is_read_straight.{after_straight, explained_straight}
use Rattle.osi_side.proofs.straight.behind_straight.Goals as goal

pub returns-clause-explains : goal.returns-clause-explains
returns-clause-explains c = λ us later x h.
    let t : Told = record { octets = c.args.tsdu.now; before = c.args.before } in
    explained_straight us later (word (said_by c.in-Some-straight_unit.unit)) c.in-Some.member c.in_ok-next.next.items c.in_ok-place.place
    c.args.members.now t c.in-Some-straight_unit.ensures c.in-Some.ensures c.in_ok-next.ensures
    (c.in_ok-place.ensures.explains us later x h)

pub returns-clause-value : goal.returns-clause-value
returns-clause-value c =
    let t : Told = record { octets = c.args.tsdu.now; before = c.args.before } in
    let w = word (said_by c.in-Some-straight_unit.unit) in
    let us = c.args.heard.now in
    let n = length c.args.tsdu.now in
    c.in_ok-next.ensures ∙ c.in_ok-place.ensures.value
    ∙ ap (λ (ms : List Member). after_word us n c.args.before (after_word us n c.args.before ms w) (says (GT no_token)))
    (sym c.in-Some.ensures)
    ∙ after_straight us w c.args.members.now t c.in-Some-straight_unit.ensures
