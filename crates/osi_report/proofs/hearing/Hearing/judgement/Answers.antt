use Rattle.osi_report.proofs.Vocabulary.{◌∙◌, sym}
use Rattle.osi_report.proofs.a_hearing_holds_what_passed.{half_heard, judged_all, no_half}
use Rattle.osi_report.proofs.hearing.Hearing.judgement.Goals as goal

pub returns-then-is_some-clause-bad_hex : goal.returns-then-is_some-clause-bad_hex
returns-then-is_some-clause-bad_hex c = λ is text k.
    half_heard c.args.self.now text (sym c.is_some.ensures ∙ c.if-is_some.true) k

pub returns-in-Ok-clause-judged : goal.returns-in-Ok-clause-judged
returns-in-Ok-clause-judged c = λ text k.
    judged_all c.args.self.now text c.in-Ok.judgement.lines.items c.in-Ok.judgement.status
    (no_half c.args.self.now.place.half (sym c.is_some.ensures ∙ c.if-is_some.false)) c.in-Ok.ensures.judged k
