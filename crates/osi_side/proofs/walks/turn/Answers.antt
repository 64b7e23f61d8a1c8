use Rattle.osi_side.proofs.Vocabulary.{◌∙◌, ◌≡◌, refl, sym, ap, subst, ℕ, List, [], get_or, true, false, ◌+◌, option_map, word, Taking}
use Rattle.osi_side.proofs.Vocabulary.{listens, Takes, after_count, reply_of, count_taken, said_by, Member, Walker, MayFollow}
use Rattle.osi_side.proofs.walked.a_walk_loses_no_explanation.{deaf, answered, goes_on, none_of, Took, at_some, at_none}
use Rattle.osi_side.proofs.kept.a_walk_keeps_who_sends_on_the_way.{turn_deaf, turn_answers, turn_on}
use Rattle.osi_side.proofs.walks.turn.Goals as goal

pub returns-in_default-clause-turns : goal.returns-in_default-clause-turns
returns-in_default-clause-turns c = λ before b us later x h.
    deaf us later (word (said_by c.args.unit.now)) c.args.octets before c.args.next.now.items c.say_it.new.next.items c.args.walker
    c.in_ok-said.said
    (c.in_ok-said.ensures.says us later) (at_none
    (listens c.args.walker.at.standing ≡ false) c.in_ok-taking.field-0 c.in_default.not-Some c.in_ok-taking.ensures.deaf)

pub returns-in-Some-reply-clause-turns : goal.returns-in-Some-reply-clause-turns
returns-in-Some-reply-clause-turns c = λ before b us later x h.
    let at = c.args.walker.at in
    let o = c.in_ok-taking.field-0 in
    let k = c.in_ok-taking.ensures in
    let t = c.in-Some.taking in
    let e = c.in-Some.is in
    let next : Member = record { taken = at.taken + 1; standing = t.next } in
    let tsdu : get_or us at.taken [] ≡ c.tsdu_at-tsdu.result.now = x at.taken c.requires ∙ sym c.tsdu_at-tsdu.ensures.octets in
    let took : Took us at next (count_taken t) = record {
      listening = at_some (λ (y : Taking). listens at.standing ≡ true) o t e k.listens;
      taken = subst (λ (u : List ℕ). Takes at.standing u (count_taken t)) (sym tsdu)
          (at_some (λ (y : Taking). Takes at.standing c.tsdu_at-tsdu.result.now (count_taken y)) o t e k.counted);
      place = refl;
      standing = at_some (λ (y : Taking). y.next ≡ after_count at.standing (count_taken y)) o t e k.sent;
    } in
    answered us later (word (said_by c.args.unit.now)) c.args.octets before c.args.next.now.items c.say_it.new.next.items
    c.answer.new.next.items c.args.walker c.in_ok-said.said
    next (count_taken t) (reply_of c.in-Some-reply.reply) (c.in_ok-said.ensures.says us later) took (ap
    (option_map reply_of) c.in-Some-reply.is) b (c.in_ok-answer.ensures.answers us later)

pub returns-clause-turns : goal.returns-clause-turns
returns-clause-turns c = λ before b us later x h.
    let at = c.args.walker.at in
    let o = c.in_ok-taking.field-0 in
    let k = c.in_ok-taking.ensures in
    let t = c.in-Some.taking in
    let e = c.in-Some.is in
    let next : Member = record { taken = at.taken + 1; standing = t.next } in
    let now : Walker = record { at = next; said_before = c.in_ok-said_before.said_before } in
    let tsdu : get_or us at.taken [] ≡ c.tsdu_at-tsdu.result.now = x at.taken c.requires ∙ sym c.tsdu_at-tsdu.ensures.octets in
    let took : Took us at next (count_taken t) = record {
      listening = at_some (λ (y : Taking). listens at.standing ≡ true) o t e k.listens;
      taken = subst (λ (u : List ℕ). Takes at.standing u (count_taken t)) (sym tsdu)
          (at_some (λ (y : Taking). Takes at.standing c.tsdu_at-tsdu.result.now (count_taken y)) o t e k.counted);
      place = refl;
      standing = at_some (λ (y : Taking). y.next ≡ after_count at.standing (count_taken y)) o t e k.sent;
    } in
    goes_on us later (word (said_by c.args.unit.now)) c.args.octets before c.args.next.now.items c.say_it.new.next.items c.args.walker
    c.in_ok-said.said now
    (count_taken t) (c.in_ok-said.ensures.says us later) took (none_of reply_of t.reply (λ r z. c.in_default-reply.not-Some r z)) b h
    (subst (λ (u : List ℕ). MayFollow c.in_ok-said.said.said_before u c.in_ok-said_before.said_before)
    (sym tsdu) c.in_ok-said_before.ensures.follows)

pub returns-in_default-clause-value : goal.returns-in_default-clause-value
returns-in_default-clause-value c = λ n.
    turn_deaf c.args.heard.now (word (said_by c.args.unit.now)) c.args.octets n c.args.walker c.in_ok-said.said c.args.next.now.items
    c.say_it.new.next.items c.in_ok-said.ensures.value
    (at_none (listens c.args.walker.at.standing ≡ false) c.in_ok-taking.field-0 c.in_default.not-Some c.in_ok-taking.ensures.deaf)

pub returns-in-Some-reply-clause-value : goal.returns-in-Some-reply-clause-value
returns-in-Some-reply-clause-value c = λ n.
    let at = c.args.walker.at in
    let o = c.in_ok-taking.field-0 in
    let k = c.in_ok-taking.ensures in
    let t = c.in-Some.taking in
    let e = c.in-Some.is in
    turn_answers c.args.heard.now (word (said_by c.args.unit.now)) c.args.octets n c.args.walker c.in_ok-said.said c.args.next.now.items
    c.say_it.new.next.items c.answer.new.next.items t.next (count_taken t) c.in-Some-reply.reply c.in_ok-said.ensures.value
    (at_some (λ (y : Taking). listens at.standing ≡ true) o t e k.listens)
    (subst (λ (u : List ℕ). Takes at.standing u (count_taken t)) c.tsdu_at-tsdu.ensures.octets
    (at_some (λ (y : Taking). Takes at.standing c.tsdu_at-tsdu.result.now (count_taken y)) o t e k.counted))
    (at_some (λ (y : Taking). y.next ≡ after_count at.standing (count_taken y)) o t e k.sent)
    (ap (option_map reply_of) c.in-Some-reply.is) c.in_ok-answer.ensures.value

pub returns-clause-value : goal.returns-clause-value
returns-clause-value c = λ n.
    let at = c.args.walker.at in
    let o = c.in_ok-taking.field-0 in
    let k = c.in_ok-taking.ensures in
    let t = c.in-Some.taking in
    let e = c.in-Some.is in
    turn_on c.args.heard.now (word (said_by c.args.unit.now)) c.args.octets n c.args.walker c.in_ok-said.said c.args.next.now.items
    c.say_it.new.next.items t.next (count_taken t) c.tsdu_at-tsdu.result.now c.in_ok-said_before.said_before c.in_ok-said.ensures.value
    (at_some (λ (y : Taking). listens at.standing ≡ true) o t e k.listens) c.tsdu_at-tsdu.ensures.octets
    (subst (λ (u : List ℕ). Takes at.standing u (count_taken t)) c.tsdu_at-tsdu.ensures.octets
    (at_some (λ (y : Taking). Takes at.standing c.tsdu_at-tsdu.result.now (count_taken y)) o t e k.counted))
    (at_some (λ (y : Taking). y.next ≡ after_count at.standing (count_taken y)) o t e k.sent)
    (none_of reply_of t.reply (λ r z. c.in_default-reply.not-Some r z)) c.in_ok-said_before.ensures.value
