use Rattle.std.proofs.Common.{◌∙◌, sym}
use Rattle.osi_report.proofs.digits_are_counted_one_by_one.{at_blank, at_digit}
use Rattle.osi_report.proofs.pieces.counted.Goals as goal

pub returns-then-is_blank_octet-clause-left : goal.returns-then-is_blank_octet-clause-left
returns-then-is_blank_octet-clause-left c = λ rest.
    at_blank c.args.counter.in_comment c.args.counter.digits c.args.octet rest c.if-counter.false c.if-octet-eq35.false
    (sym c.is_blank_octet.ensures ∙ c.if-is_blank_octet.true)

pub returns-clause-left : goal.returns-clause-left
returns-clause-left c = λ rest.
    at_digit c.args.counter.in_comment c.args.counter.digits c.args.octet rest c.if-counter.false c.if-octet-eq35.false
    (sym c.is_blank_octet.ensures ∙ c.if-is_blank_octet.false)
