use Rattle.std.proofs.Common.{◌<◌, arith, length, subst, sym}
use Rattle.osi_witness.specs.Growing.{SaysMore}
use Rattle.osi_witness.specs.Whole.{IsUntoldOn}
use Rattle.osi_witness.specs.declared.conversations.Conversation.{Conversation}
use Rattle.osi_witness.proofs.a_piece_adds_to_its_side.{one_says}
use Rattle.osi_witness.proofs.a_run_is_told_of_each_side.{untold_at, untold_set}
use Rattle.osi_witness.proofs.a_piece_adds_to_its_side.{all_same}
use Rattle.osi_witness.proofs.captures.Capture.mean.Goals as goal

pub returns-clause-untold : goal.returns-clause-untold
returns-clause-untold c h =
    let cs = c.args.self.now.conversations.items in
    let lt : _ < length cs = grind arith in
    untold_set cs _ c.mean_on.new.conversation
    (c.in_ok-mean_on.ensures.untold (subst IsUntoldOn (sym c.index_mut.ensures.value) (untold_at cs _ c.index_mut.result.now lt h))) h

pub returns-clause-more : goal.returns-clause-more
returns-clause-more c h =
    let cs = c.args.self.now.conversations.items in
    let lt : _ < length cs = grind arith in
    one_says c.args.side cs _ c.index_mut.result.now c.mean_on.new.conversation lt
    (subst (λ (x : Conversation). SaysMore c.args.side x c.mean_on.new.conversation) c.index_mut.ensures.value
    (c.in_ok-mean_on.ensures.more (subst IsUntoldOn (sym c.index_mut.ensures.value) (untold_at cs _ c.index_mut.result.now lt h))))

pub returns-in_default-clause-more : goal.returns-in_default-clause-more
returns-in_default-clause-more c h = all_same c.args.side c.args.self.now.conversations.items

pub returns-then-number-len-clause-more : goal.returns-then-number-len-clause-more
returns-then-number-len-clause-more c h = all_same c.args.side c.args.self.now.conversations.items
