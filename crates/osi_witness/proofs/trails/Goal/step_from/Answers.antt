use Rattle.std.proofs.Common.{◌≡◌, ◌+◌, List, None, ap, arith, false, option_map, subst, sym, true, ℕ}
use Rattle.osi_session.specs.declared.standing.Taking.{Taking}
use Rattle.osi_session.specs.Standing.{Takes, after_count, listens}
use Rattle.osi_session.specs.Steps.{reply_of}
use Rattle.osi_session.specs.Taking.{count_taken}
use Rattle.osi_side.proofs.walked.a_walk_loses_no_explanation.{at_none, at_some}
use Rattle.osi_witness.specs.Steps.{SaysTo, heard_for}
use Rattle.osi_witness.proofs.a_run_explains_what_a_side_sent.{listens_more}
use Rattle.osi_witness.proofs.a_session_that_goes_on_is_found.{deaf, goes_as, goes_further, goes_not_back, leading_if, none_at_end, none_if}
use Rattle.osi_witness.proofs.trails.Goal.step_from.Goals as goal

pub returns-then-from-self-clause-none : goal.returns-then-from-self-clause-none
returns-then-from-self-clause-none c = goes_not_back c.args.self.now c.args.from.now (grind arith)

pub returns-in_default-2-clause-none : goal.returns-in_default-2-clause-none
returns-in_default-2-clause-none c =
    let g = c.args.self.now in
    let s = c.takes.standing in
    let none = at_none (SaysTo g c.takes.taken s → ⊥) c.in_ok-step.field-0 c.in_default.not-Some c.in_ok-step.ensures.none in
    let hears_not = at_none (listens s ≡ false) c.in_ok-taking.field-0 c.in_default-2.not-Some c.in_ok-taking.ensures.deaf in
    λ h. deaf g c.takes.taken s none hears_not (c.takes.invariant.goes h)

pub returns-in-Some-reply-clause-some : goal.returns-in-Some-reply-clause-some
returns-in-Some-reply-clause-some c =
    let g = c.args.self.now in
    let s = c.takes.standing in
    let t = c.in-Some-2.taking in
    let o = c.in_ok-taking.field-0 in
    let e = c.in-Some-2.is in
    let k = c.in_ok-taking.ensures in
    leading_if g c.args.from.now c.takes.taken s t.next (count_taken t) (reply_of c.in-Some-reply.reply) c.answered.result
    c.takes.invariant.up c.takes.invariant.listened (at_some (λ (x : Taking). listens s ≡ true) o t e k.listens)
    (subst (λ (u : List ℕ). Takes s u (count_taken t)) c.tsdu.ensures
    (at_some (λ (x : Taking). Takes s c.tsdu.result.now (count_taken x)) o t e k.counted)) (ap (option_map reply_of) c.in-Some-reply.is)
    (at_some (λ (x : Taking). x.next ≡ after_count s (count_taken x)) o t e k.sent) c.answered.ensures.some

pub returns-in-Some-reply-clause-none : goal.returns-in-Some-reply-clause-none
returns-in-Some-reply-clause-none c =
    let g = c.args.self.now in
    let s = c.takes.standing in
    let t = c.in-Some-2.taking in
    let o = c.in_ok-taking.field-0 in
    let e = c.in-Some-2.is in
    let k = c.in_ok-taking.ensures in
    let none = at_none (SaysTo g c.takes.taken s → ⊥) c.in_ok-step.field-0 c.in_default.not-Some c.in_ok-step.ensures.none in
    none_if g c.args.from.now c.takes.taken s t.next (count_taken t) (reply_of c.in-Some-reply.reply) c.answered.result none
    c.takes.invariant.goes
    (subst (λ (u : List ℕ). Takes s u (count_taken t)) c.tsdu.ensures
    (at_some (λ (x : Taking). Takes s c.tsdu.result.now (count_taken x)) o t e k.counted)) (ap (option_map reply_of) c.in-Some-reply.is)
    (at_some (λ (x : Taking). x.next ≡ after_count s (count_taken x)) o t e k.sent) c.answered.ensures.none

pub takes-preserved : goal.takes-preserved
takes-preserved c =
    let g = c.args.self.now in
    let from = c.args.from.now in
    let s = c.takes.standing in
    let i = c.takes.invariant in
    let up = i.up in
    let t = c.in-Some-2.taking in
    let o = c.in_ok-taking.field-0 in
    let e = c.in-Some-2.is in
    let k = c.in_ok-taking.ensures in
    let none = at_none (SaysTo g c.takes.taken s → ⊥) c.in_ok-step.field-0 c.in_default.not-Some c.in_ok-step.ensures.none in
    let took = subst (λ (u : List ℕ). Takes s u (count_taken t)) c.tsdu.ensures
    (at_some (λ (x : Taking). Takes s c.tsdu.result.now (count_taken x)) o t e k.counted) in
    let quiet : (count_taken t).reply ≡ None = grind arith in
    let next : t.next ≡ after_count s (count_taken t) = at_some (λ (x : Taking). x.next ≡ after_count s (count_taken x)) o t e k.sent in
    record {
      up = omega (arith, up);
      listened = listens_more (heard_for g) from.taken c.takes.taken from.standing s t.next up i.listened
          (record {
            count = count_taken t;
            listening = at_some (λ (x : Taking). listens s ≡ true) o t e k.listens;
            taken = took;
            quiet = quiet;
            next = next;
          });
      goes = λ h. goes_as g (c.takes.taken + 1) (after_count s (count_taken t)) t.next (sym next)
          (goes_further g c.takes.taken s (count_taken t) none took quiet (i.goes h));
    }

pub returns-clause-none : goal.returns-clause-none
returns-clause-none c =
    let up = c.takes.auto.taken-end in
    none_at_end c.args.self.now c.args.from.now c.takes.taken _ c.takes.standing c.said_at-2.result (grind arith) (grind arith)
    c.takes.invariant.goes c.said_at-2.ensures.none
