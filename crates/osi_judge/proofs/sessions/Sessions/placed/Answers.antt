use Rattle.osi_judge.proofs.Vocabulary.{List, subst, sym, Connection, AreHeard, HoldAll}
use Rattle.osi_judge.proofs.sessions.Sessions.placed.Goals as goal

pub returns-clause-held : goal.returns-clause-held
returns-clause-held c s h = subst (λ (l : List Connection). HoldAll l s.live) (sym c.deref.ensures.value) h.live

pub returns-clause-heard : goal.returns-clause-heard
returns-clause-heard c k = subst (λ (l : List Connection). AreHeard l) (sym c.deref.ensures.value) k
