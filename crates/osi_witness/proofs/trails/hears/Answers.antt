use Rattle.std.proofs.Common.{◌≡◌, true, arith, ap, option_map}
use Rattle.osi_session.specs.declared.standing.Taking.{Taking}
use Rattle.osi_session.specs.Standing.{listens, Takes, after_count}
use Rattle.osi_session.specs.Steps.{reply_of}
use Rattle.osi_session.specs.Taking.{count_taken}
use Rattle.osi_side.proofs.walked.a_walk_loses_no_explanation.{at_some, at_none}
use Rattle.osi_side.proofs.walked.the_first_place_is_enough.{heard_one, not_heard, answers_it}
use Rattle.osi_witness.proofs.trails.hears.Goals as goal

pub returns-in_default : goal.returns-in_default
returns-in_default c = grind (arith, not_heard, at_none)

pub returns-in-None : goal.returns-in-None
returns-in-None c =
    let s = c.args.standing.now in
    let o = c.in_ok-taking.field-0 in
    let k = c.in_ok-taking.ensures in
    let t = c.in-Some.taking in
    let e = c.in-Some.is in
    heard_one s t.next c.args.tsdu.now (count_taken t) (at_some (λ (x : Taking). listens s ≡ true) o t e k.listens)
    (at_some (λ (x : Taking). Takes s c.args.tsdu.now (count_taken x)) o t e k.counted) (ap (option_map reply_of) c.in-None.is)
    (at_some (λ (x : Taking). x.next ≡ after_count s (count_taken x)) o t e k.sent)

pub returns-in-Some-reply : goal.returns-in-Some-reply
returns-in-Some-reply c =
    let s = c.args.standing.now in
    let t = c.in-Some.taking in
    answers_it s c.args.tsdu.now (count_taken t) (reply_of c.in-Some-reply.field-0)
    (at_some (λ (x : Taking). Takes s c.args.tsdu.now (count_taken x)) c.in_ok-taking.field-0 t c.in-Some.is c.in_ok-taking.ensures.counted)
    (ap (option_map reply_of) c.in-Some-reply.is)
