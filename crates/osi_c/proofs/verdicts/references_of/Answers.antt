use Rattle.std.proofs.Common.{arith, refl, sym, subst, ℕ, Option}
use Rattle.osi_c.specs.Verdicts.{IsNamed}
use Rattle.osi_c.proofs.verdicts.references_of.Goals as goal

pub returns-in-None : goal.returns-in-None
returns-in-None c = subst (λ (n : Option ℕ). IsNamed c.args.judge.now n 0 0) (sym c.in-None.is) (refl, refl)

pub returns-in-Some : goal.returns-in-Some
returns-in-Some c = grind arith
