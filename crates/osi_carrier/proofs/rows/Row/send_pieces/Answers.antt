use Rattle.osi_carrier.proofs.Vocabulary.{connection, IsPumped, Phase, subst}
use Rattle.osi_carrier.proofs.rows.Row.send_pieces.Goals as goal

pub send_pieces_on-requires-clause-quiet : goal.send_pieces_on-requires-clause-quiet
send_pieces_on-requires-clause-quiet c = subst (λ (p : Phase). IsPumped (connection p)) c.in-Linked.is c.self.invariant
