use Rattle.osi_report.proofs.Vocabulary.{◌∙◌, refl, sym}
use Rattle.osi_report.proofs.a_hearing_holds_what_passed.{heard_step, not_heard}
use Rattle.osi_report.proofs.hearing.Hearing.hear_character.Goals as goal

pub returns-in_default-clause-bad_hex : goal.returns-in_default-clause-bad_hex
returns-in_default-clause-bad_hex c = λ is whole more k.
    not_heard c.args.self.now c.args.character whole more (sym c.step.ensures.value ∙ c.in_default.is) k

pub returns-clause-ok : goal.returns-clause-ok
returns-clause-ok c =
    heard_step c.pass_if.result c.args.self.now _ c.args.character c.in-Some.step (sym c.step.ensures.value ∙ c.in-Some.is) refl refl
    c.pass_if.ensures.judge c.pass_if.ensures.opening
