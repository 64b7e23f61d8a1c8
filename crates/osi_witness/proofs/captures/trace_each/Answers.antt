use Rattle.std.proofs.Common.{◌≡◌, ◌∙◌, ◌++◌, ◌<◌, List, ℕ, arith, drop, length, subst, sym, take}
use Rattle.std.proofs.Math.Seq.{take-append_seam}
use Rattle.osi_witness.specs.Captures.{AreTraced}
use Rattle.osi_witness.specs.Whole.{HaveRuns, AreUntold}
use Rattle.osi_witness.specs.declared.conversations.Conversation.{Conversation}
use Rattle.osi_witness.proofs.a_run_is_told_of_each_side.{TracedUpTo, all_found, all_traced, same_length, traced_further}
use Rattle.osi_witness.proofs.captures.trace_each.Goals as goal

pub conversations-preserved : goal.conversations-preserved
conversations-preserved c =
    let cs = c.conversations.conversation-items in
    let lt : c.conversations.conversation-index < length cs = grind arith in
    traced_further c.conversations.conversation-index c.args.conversations.now.items cs _ c.trace.new.self lt
    (record { left = c.in_ok-trace.ensures.left; right = c.in_ok-trace.ensures.right; found = c.in_ok-trace.ensures.found })
    c.conversations.invariant

pub returns-clause-traced : goal.returns-clause-traced
returns-clause-traced c =
    let old = c.args.conversations.now.items in
    let new = c.conversations.conversation-items in
    let n : c.conversations.conversation-index ≡ length new = grind arith in
    let upto : TracedUpTo (length new) old new = subst (λ (k : ℕ). TracedUpTo k old new) n c.conversations.invariant in
    let len = same_length old new upto ∙ sym c.args.conversations.now.ok.0 in
    let rest = drop (length new) old in
    let seam : take c.args.conversations.now.len (new ++ rest) ≡ new =
    subst (λ (k : ℕ). take k (new ++ rest) ≡ new) len (take-append_seam new rest) in
    subst (λ (xs : List Conversation). AreTraced old xs) (sym seam) (all_traced old new upto)

pub returns-clause-found : goal.returns-clause-found
returns-clause-found c =
    let old = c.args.conversations.now.items in
    let new = c.conversations.conversation-items in
    let n : c.conversations.conversation-index ≡ length new = grind arith in
    let upto : TracedUpTo (length new) old new = subst (λ (k : ℕ). TracedUpTo k old new) n c.conversations.invariant in
    let len = same_length old new upto ∙ sym c.args.conversations.now.ok.0 in
    let rest = drop (length new) old in
    let seam : take c.args.conversations.now.len (new ++ rest) ≡ new =
    subst (λ (k : ℕ). take k (new ++ rest) ≡ new) len (take-append_seam new rest) in
    subst (λ (xs : List Conversation). AreUntold old → HaveRuns xs) (sym seam) (all_found old new upto)
