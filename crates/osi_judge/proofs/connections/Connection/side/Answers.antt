use Rattle.osi_judge.proofs.Vocabulary.{◌∙◌, ap, Lined}
use Rattle.osi_judge.proofs.what_is_kept_of_a_side_is_what_passed.{heard_at}
use Rattle.osi_judge.proofs.connections.Connection.side.Goals as goal

pub returns-clause-heard : goal.returns-clause-heard
returns-clause-heard c j h k = ap (λ (l : Lined). l.side.heard) c.line.ensures ∙ heard_at c.args.direction c.args.self.now j h k
