use Rattle.std.proofs.Common.{arith}
use Rattle.osi_side.proofs.Vocabulary.{◌≡◌, ◌∙◌, sym, ap, true, word, is_restarting, said_by}
use Rattle.osi_side.proofs.walked.a_restart_waits.{it_waits}
use Rattle.osi_side.proofs.kept.a_walk_to_a_restart_is_one_function.{unsaid, waits_not, waits_unsaid, waits_moved}
use Rattle.osi_side.proofs.kept.a_walk_to_a_restart_is_one_function.{waits_moved_after, waits_so}
use Rattle.osi_side.proofs.restarts.waits.Goals as goal

pub returns-clause-holds : goal.returns-clause-holds
returns-clause-holds c = λ t.
    let restarting : is_restarting c.args.standing.state.phase ≡ true = ap is_restarting (sym c.phase.ensures) ∙ sym
    c.is_restarting.ensures ∙ c.if-not-is_restarting.false in
    it_waits c.args.standing c.in-Ok.aborted c.args.tsdu.now (word (said_by c.args.abort.now)) 0 c.requires c.in-Ok.ensures.left restarting
    (c.in_ok-stays.ensures.hears c.if-not-branch.false) (c.in_ok-stays-2.ensures.hears c.if-not-branch-2.false)

pub returns-then-not-is_restarting-clause-value : goal.returns-then-not-is_restarting-clause-value
returns-then-not-is_restarting-clause-value c = grind (arith, waits_not)

pub returns-in_default-clause-value : goal.returns-in_default-clause-value
returns-in_default-clause-value c = grind (arith, waits_unsaid, unsaid)

pub returns-then-not-branch-clause-value : goal.returns-then-not-branch-clause-value
returns-then-not-branch-clause-value c =
    waits_moved (word (said_by c.args.abort.now)) c.args.standing c.in-Ok.aborted c.args.tsdu.now c.in-Ok.ensures.left
    (sym c.if-not-branch.true ∙ c.in_ok-stays.ensures.value)

pub returns-then-not-branch-2-clause-value : goal.returns-then-not-branch-2-clause-value
returns-then-not-branch-2-clause-value c =
    waits_moved_after (word (said_by c.args.abort.now)) c.args.standing c.in-Ok.aborted c.args.tsdu.now c.in-Ok.ensures.left
    (sym c.if-not-branch-2.true ∙ c.in_ok-stays-2.ensures.value)

pub returns-clause-value : goal.returns-clause-value
returns-clause-value c =
    let restarting : is_restarting c.args.standing.state.phase ≡ true = ap is_restarting (sym c.phase.ensures) ∙ sym
    c.is_restarting.ensures ∙ c.if-not-is_restarting.false in
    waits_so (word (said_by c.args.abort.now)) c.args.standing c.in-Ok.aborted c.args.tsdu.now restarting c.in-Ok.ensures.left
    (sym c.if-not-branch.false ∙ c.in_ok-stays.ensures.value) (sym c.if-not-branch-2.false ∙ c.in_ok-stays-2.ensures.value)
