use Rattle.osi_rules.proofs.Vocabulary.{length, ap, arith}
use Rattle.osi_rules.proofs.each_item_is_changed_in_turn.{changed_step}
use Rattle.osi_rules.proofs.traffic.begin_each.Goals as goal

pub loop-connection-preserved : goal.loop-connection-preserved
loop-connection-preserved c =
    let same = ap length c.deref_mut-connection-items.ensures.value in
    grind (arith, changed_step)
