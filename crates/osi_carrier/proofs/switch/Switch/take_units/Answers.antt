use Rattle.osi_carrier.proofs.Vocabulary.{State, arith, ap, sym, ◌∙◌, is_some}
use Rattle.osi_carrier.proofs.effects.units_one_after_the_other.{along_over, along_next, along_starved, none_of}
use Rattle.osi_carrier.proofs.switch.Switch.take_units.Goals as goal

pub returns-then-is_some : goal.returns-then-is_some
returns-then-is_some c =
    let over = ap (λ (s : State). is_some s.ended) (sym c.self.view_is) ∙ (sym c.is_some.ensures ∙ c.if-is_some.true) in
    along_over _ _ _ _ _ _ _ c.units.invariant c.in-Some.ensures.steps.0 c.in-Ok.ensures.ok over

pub units-preserved : goal.units-preserved
units-preserved c = grind (arith, along_next, none_of)

pub returns-in_default-react : goal.returns-in_default-react
returns-in_default-react c =
    along_starved _ _ c.react.new.self _ _ _ _ _ c.units.invariant c.in-Some.ensures.steps.0 c.in_default-react.ensures.err
    c.in_default-react.ensures.needs c.end.ensures
