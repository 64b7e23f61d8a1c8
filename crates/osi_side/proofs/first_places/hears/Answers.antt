use Rattle.std.proofs.Common.{arith}
use Rattle.osi_side.proofs.Vocabulary.{◌≡◌, true, ap, option_map, Taking, listens, Takes, after_count, reply_of, count_taken}
use Rattle.osi_side.proofs.walked.a_walk_loses_no_explanation.{at_some, at_none}
use Rattle.osi_side.proofs.kept.a_session_goes_on_by_one_function.{quiet_deaf, quiet_takes, quiet_answers}
use Rattle.osi_side.proofs.walked.the_first_place_is_enough.{heard_one, not_heard, answers_it}
use Rattle.osi_side.proofs.first_places.hears.Goals as goal

pub returns-in_default-clause-hears : goal.returns-in_default-clause-hears
returns-in_default-clause-hears c = grind (arith, not_heard, at_none)

pub returns-in-None-clause-hears : goal.returns-in-None-clause-hears
returns-in-None-clause-hears c =
    let s = c.args.standing in
    let o = c.in_ok-taking.field-0 in
    let k = c.in_ok-taking.ensures in
    let t = c.in-Some.taking in
    let e = c.in-Some.is in
    heard_one s t.next c.args.tsdu.now (count_taken t) (at_some (λ (x : Taking). listens s ≡ true) o t e k.listens)
    (at_some (λ (x : Taking). Takes s c.args.tsdu.now (count_taken x)) o t e k.counted) (ap (option_map reply_of) c.in-None.is)
    (at_some (λ (x : Taking). x.next ≡ after_count s (count_taken x)) o t e k.sent)

pub returns-in-Some-reply-clause-hears : goal.returns-in-Some-reply-clause-hears
returns-in-Some-reply-clause-hears c =
    let s = c.args.standing in
    let t = c.in-Some.taking in
    answers_it s c.args.tsdu.now (count_taken t) (reply_of c.in-Some-reply.field-0)
    (at_some (λ (x : Taking). Takes s c.args.tsdu.now (count_taken x)) c.in_ok-taking.field-0 t c.in-Some.is c.in_ok-taking.ensures.counted)
    (ap (option_map reply_of) c.in-Some-reply.is)

pub returns-in_default-clause-value : goal.returns-in_default-clause-value
returns-in_default-clause-value c = grind (arith, quiet_deaf, at_none)

pub returns-in-None-clause-value : goal.returns-in-None-clause-value
returns-in-None-clause-value c =
    let s = c.args.standing in
    let o = c.in_ok-taking.field-0 in
    let k = c.in_ok-taking.ensures in
    let t = c.in-Some.taking in
    let e = c.in-Some.is in
    quiet_takes s t.next c.args.tsdu.now (count_taken t) (at_some (λ (x : Taking). listens s ≡ true) o t e k.listens)
    (at_some (λ (x : Taking). Takes s c.args.tsdu.now (count_taken x)) o t e k.counted) (ap (option_map reply_of) c.in-None.is)
    (at_some (λ (x : Taking). x.next ≡ after_count s (count_taken x)) o t e k.sent)

pub returns-in-Some-reply-clause-value : goal.returns-in-Some-reply-clause-value
returns-in-Some-reply-clause-value c =
    let s = c.args.standing in
    let t = c.in-Some.taking in
    quiet_answers s c.args.tsdu.now (count_taken t) (reply_of c.in-Some-reply.field-0)
    (at_some (λ (x : Taking). listens s ≡ true) c.in_ok-taking.field-0 t c.in-Some.is c.in_ok-taking.ensures.listens)
    (at_some (λ (x : Taking). Takes s c.args.tsdu.now (count_taken x)) c.in_ok-taking.field-0 t c.in-Some.is c.in_ok-taking.ensures.counted)
    (ap (option_map reply_of) c.in-Some-reply.is)
