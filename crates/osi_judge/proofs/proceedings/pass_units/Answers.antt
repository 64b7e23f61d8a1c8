use Rattle.osi_judge.proofs.Vocabulary.{units_left, value}
use Rattle.osi_judge.proofs.what_holds_of_a_result.{any_err}
use Rattle.osi_judge.proofs.what_a_packet_still_owes.{next_owed, still_owed, none_owed}
use Rattle.osi_judge.proofs.proceedings.pass_units.Goals as goal

pub units-preserved : goal.units-preserved
units-preserved c = λ vs k h.
    next_owed c.units.proceedings c.pass.new.self c.args.direction c.args.at vs (value c.in-Some.unit) (units_left c.units.units)
    (units_left c.next.new.self) k c.in-Some.ensures.steps.0 c.in_ok-pass.ensures.ok c.in_ok-pass.ensures.told c.in_ok-pass.ensures.passed
    (c.units.invariant vs k h)

pub returns-in_err-pass-clause-err : goal.returns-in_err-pass-clause-err
returns-in_err-pass-clause-err c =
    any_err c.from_residual.result (λ vs k h.
    still_owed c.units.proceedings c.pass.new.self c.args.direction c.args.at vs (value c.in-Some.unit) (units_left c.units.units)
    (units_left c.next.new.self) k c.in-Some.ensures.steps.0 c.in_err-pass.ensures.err c.in_err-pass.ensures.as_many
    (c.units.invariant vs k h))

pub returns-clause-ok : goal.returns-clause-ok
returns-clause-ok c = λ vs k h.
    (none_owed c.units.proceedings c.args.direction c.args.at vs (units_left c.units.units) k c.in_default.ensures.steps.0
    (c.units.invariant vs k h)).0

pub returns-clause-told : goal.returns-clause-told
returns-clause-told c = λ vs k h.
    (none_owed c.units.proceedings c.args.direction c.args.at vs (units_left c.units.units) k c.in_default.ensures.steps.0
    (c.units.invariant vs k h)).1
