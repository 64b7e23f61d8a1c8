use Rattle.osi_carrier.proofs.Vocabulary.{connection, IsPumped, Phase, subst}
use Rattle.osi_carrier.proofs.rows.Row.send_all.Goals as goal

pub send_all_on-requires : goal.send_all_on-requires
send_all_on-requires c = subst (λ (p : Phase). IsPumped (connection p)) c.in-Linked.is c.self.invariant
