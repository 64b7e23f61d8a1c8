use Rattle.osi_judge.proofs.Vocabulary.{List, subst, sym, Past, AllPast}
use Rattle.osi_judge.proofs.sessions.Sessions.replaced.Goals as goal

pub returns : goal.returns
returns c s h = subst (λ (l : List Past). AllPast l s.done) (sym c.as_slice.ensures) h.done
