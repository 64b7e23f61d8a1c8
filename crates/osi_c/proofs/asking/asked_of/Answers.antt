use Rattle.std.proofs.Common.{arith, sym, subst, ℕ, Option}
use Rattle.osi_c.specs.Asking.{HasAsked, ShowsIn}
use Rattle.osi_c.proofs.what_is_asked_of_a_judge.{same_settled}
use Rattle.osi_c.proofs.asking.asked_of.Goals as goal

pub returns-in-None : goal.returns-in-None
returns-in-None c = λ settled. (
  same_settled c.args.held.now settled,
  subst (λ (n : Option ℕ). ShowsIn n c.args.held.now c.args.direction c.told_of_transport.result) (sym c.in-None.is)
      c.told_of_transport.ensures,
)

pub returns-in-Some : goal.returns-in-Some
returns-in-Some c = λ settled. subst (λ (n : Option ℕ). HasAsked c.asked_at.result n c.args.direction c.args.held.now c.args.held.now)
    (sym c.in-Some.is) (c.asked_at.ensures settled)
