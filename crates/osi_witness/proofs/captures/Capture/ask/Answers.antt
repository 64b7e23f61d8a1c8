use Rattle.std.proofs.Common.{subst, sym}
use Rattle.osi_witness.specs.Growing.{AllSayMore}
use Rattle.osi_witness.specs.Whole.{AreUntold}
use Rattle.osi_witness.proofs.a_piece_adds_to_its_side.{one_begins}
use Rattle.osi_witness.proofs.a_run_is_told_of_each_side.{untold_more}
use Rattle.osi_witness.proofs.a_piece_adds_to_its_side.{all_same}
use Rattle.osi_witness.proofs.captures.Capture.ask.Goals as goal

pub returns-in-Some-clause-untold : goal.returns-in-Some-clause-untold
returns-in-Some-clause-untold c h =
    subst AreUntold (sym c.in_ok-push.ensures.items)
    (untold_more c.args.self.now.conversations.items c.in_ok-conversation.conversation h c.in_ok-conversation.ensures.untold)

pub returns-in_ok-push-in-None-clause-untold : goal.returns-in_ok-push-in-None-clause-untold
returns-in_ok-push-in-None-clause-untold c h =
    subst AreUntold (sym c.in_ok-push.ensures.items)
    (untold_more c.args.self.now.conversations.items c.in_ok-conversation.conversation h c.in_ok-conversation.ensures.untold)

pub returns-in-Some-clause-more : goal.returns-in-Some-clause-more
returns-in-Some-clause-more c side =
    subst (AllSayMore side c.args.self.now.conversations.items) (sym c.in_ok-push.ensures.items)
    (one_begins side c.args.self.now.conversations.items _ c.in_ok-conversation.conversation c.in_ok-conversation.ensures.begins)

pub returns-in_ok-push-in-None-clause-more : goal.returns-in_ok-push-in-None-clause-more
returns-in_ok-push-in-None-clause-more c side =
    subst (AllSayMore side c.args.self.now.conversations.items) (sym c.in_ok-push.ensures.items)
    (one_begins side c.args.self.now.conversations.items _ c.in_ok-conversation.conversation c.in_ok-conversation.ensures.begins)

pub returns-in_default-clause-more : goal.returns-in_default-clause-more
returns-in_default-clause-more c side = all_same side c.args.self.now.conversations.items
