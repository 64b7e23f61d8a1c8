use Rattle.osi_judge.proofs.Vocabulary.{subst, sym, Lined, lined, HoldsBoth}
use Rattle.osi_judge.proofs.lines.add_last.Goals as goal

pub returns-in-Ok-clause-ok : goal.returns-in-Ok-clause-ok
returns-in-Ok-clause-ok c s t a b h = c.hand_over.ensures.holds s t _ b (c.in-Ok.ensures.ok s t (lined c.args.other.now) a b h)

pub returns-in-Err-clause-err : goal.returns-in-Err-clause-err
returns-in-Err-clause-err c s t a b h = subst (λ (z : Lined). HoldsBoth s t z (lined c.args.other.now) a b) (sym c.in-Err.ensures.err) h
