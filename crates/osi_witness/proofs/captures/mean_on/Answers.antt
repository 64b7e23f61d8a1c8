use Rattle.std.proofs.Common.{ap, subst, sym}
use Rattle.osi_witness.specs.Whole.{IsUntoldOn}
use Rattle.osi_witness.specs.declared.conversations.Conversation.{Conversation}
use Rattle.osi_witness.proofs.a_piece_adds_to_its_side.{says_as, says_more}
use Rattle.osi_witness.proofs.the_sessions_that_are_kept_are_linked.{on_oks}
use Rattle.osi_witness.proofs.captures.mean_on.Goals as goal

pub returns-in-Opens-Cc-clause-untold : goal.returns-in-Opens-Cc-clause-untold
returns-in-Opens-Cc-clause-untold c u = subst IsUntoldOn (sym c.answer.ensures) u

pub returns-in-Closes-Dr-clause-untold : goal.returns-in-Closes-Dr-clause-untold
returns-in-Closes-Dr-clause-untold c u = subst IsUntoldOn (sym c.answer-in-Closes-Dr.ensures) u

pub returns-in-Opens-Cc-clause-more : goal.returns-in-Opens-Cc-clause-more
returns-in-Opens-Cc-clause-more c u =
    says_as c.args.side c.args.conversation.now c.answer.new.self (ap (λ (x : Conversation). x.left) c.answer.ensures)
    (ap (λ (x : Conversation). x.right) c.answer.ensures)

pub returns-in-Closes-Dr-clause-more : goal.returns-in-Closes-Dr-clause-more
returns-in-Closes-Dr-clause-more c u =
    says_as c.args.side c.args.conversation.now c.answer-in-Closes-Dr.new.self
    (ap (λ (x : Conversation). x.left) c.answer-in-Closes-Dr.ensures) (ap (λ (x : Conversation). x.right) c.answer-in-Closes-Dr.ensures)

pub returns-in-Adds-default-clause-more : goal.returns-in-Adds-default-clause-more
returns-in-Adds-default-clause-more c =
    on_oks c.add.result _ _ _ _
    (λ adds other again u.
    says_more c.args.side c.in-Adds-default.end c.user_of.result.now c.args.conversation.now c.add.new.self (adds u) other)
    c.add.ensures.adds c.add.ensures.other c.add.ensures.other
