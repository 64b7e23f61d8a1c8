use Rattle.std.proofs.Common.{arith}
use Rattle.osi_side.proofs.Vocabulary.{◌↔◌, ◌+◌, List, ℕ, Option, Some, subst, sym, ◌∙◌, word, said_by, Asked, Waits, Known}
use Rattle.osi_side.proofs.walked.a_walk_to_a_restart_keeps_two.{still_wait}
use Rattle.osi_side.proofs.kept.a_walk_to_a_restart_is_one_function.{waited_none, waited_first, waited_last, waited_both}
use Rattle.osi_side.proofs.restarts.wait.Goals as goal

pub returns-clause-gives : goal.returns-clause-gives
returns-clause-gives c = λ us later before b h e.
    let a = c.in-Some.waiting in
    let first = subst (λ (u : List ℕ). Waits a.first u) e (c.in_ok-waits.ensures.holds c.if-not-branch.false) in
    let last = subst (λ (u : List ℕ). Waits a.last u) e (c.in_ok-waits-2.ensures.holds c.if-not-branch-2.false) in
    subst (λ (x : Option Asked). Known us later c.args.taken c.args.next.now.items x ↔ Known us later (c.args.taken + 1)
    c.args.next.now.items (Some a)) (sym c.in-Some.is)
    (still_wait us later before c.args.taken c.args.next.now.items a b h first last)

pub returns-in_default-clause-value : goal.returns-in_default-clause-value
returns-in_default-clause-value c = grind (arith, waited_none)

pub returns-then-not-branch-clause-value : goal.returns-then-not-branch-clause-value
returns-then-not-branch-clause-value c = grind (arith, waited_first)

pub returns-then-not-branch-2-clause-value : goal.returns-then-not-branch-2-clause-value
returns-then-not-branch-2-clause-value c =
    waited_last (word (said_by c.args.abort.now)) c.args.taken c.args.asked c.in-Some.waiting c.args.tsdu.now c.args.next.now.items
    c.keep-then-not-branch-2.new.next.items c.in-Some.is (sym c.if-not-branch-2.true
    ∙ c.in_ok-waits-2.ensures.value) c.in_ok-keep-2.ensures.value

pub returns-clause-value : goal.returns-clause-value
returns-clause-value c = grind (arith, waited_both)
