use Rattle.std.proofs.Common.{arith}
use Rattle.osi_machine.proofs.invariant.each_step_keeps_one_side.{SessionLaws}
use Rattle.osi_machine.proofs.promises.what_two_users_may_rely_on.{offer_stands}
use Rattle.osi_machine.proofs.promises.what_a_record_tells.{are_told, told_agree}
use Rattle.osi_machine.proofs.laws.what_a_record_tells.Goals as goal

pub returns-clause-told : goal.returns-clause-told
returns-clause-told c o steps serial profile small =
    let laws : SessionLaws = assumption in
    are_told laws o steps small (offer_stands o serial profile)

pub returns-clause-agreed : goal.returns-clause-agreed
returns-clause-agreed c o steps serial profile small = search (arith, told_agree, offer_stands)
