use Rattle.osi_report.proofs.Vocabulary.{arith, sym, ◌∙◌}
use Rattle.osi_report.proofs.what_is_read_run_by_run.{blank_ends, blank_passes}
use Rattle.osi_report.proofs.steps.after_blank.Goals as goal

pub returns-then-is_blank_octet-clause-same : goal.returns-then-is_blank_octet-clause-same
returns-then-is_blank_octet-clause-same c =
    blank_passes c.args.text.now (omega arith) (sym c.is_blank_octet.ensures ∙ c.if-is_blank_octet.true)

pub returns-then-is_blank_octet-clause-ends : goal.returns-then-is_blank_octet-clause-ends
returns-then-is_blank_octet-clause-ends c = blank_ends c.args.text.now (omega arith)
