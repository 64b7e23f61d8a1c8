use Rattle.osi_judge.proofs.Vocabulary.{List, subst, sym, Connection, HoldAll}
use Rattle.osi_judge.proofs.sessions.Sessions.has_broken.Goals as goal

pub returns : goal.returns
returns c s h = c.broke_in.ensures s.live (subst (λ (l : List Connection). HoldAll l s.live) (sym c.deref.ensures.value) h.live)
