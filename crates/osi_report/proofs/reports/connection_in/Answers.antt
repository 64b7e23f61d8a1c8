use Rattle.std.proofs.Common.{arith}
use Rattle.osi_report.proofs.Vocabulary.{◌∙◌, sym, subst, false, Some, Connection, Tells}
use Rattle.osi_report.proofs.a_report_says_what_a_judge_holds.{tells_as}
use Rattle.osi_report.proofs.reports.connection_in.Goals as goal

pub returns-then-is_dropped : goal.returns-then-is_dropped
returns-then-is_dropped c = grind (arith, tells_as)

pub returns-in-None : goal.returns-in-None
returns-in-None c = grind (arith, tells_as)

pub returns-in-Some : goal.returns-in-Some
returns-in-Some c = λ d j w v h k g f o.
    subst (λ (x : Connection). Tells d j w v x) (sym c.connection_with.ensures)
    (tells_as d j w v c.args.own.now c.args.beside.now (Some c.in-Some.reference) false c.strays.result c.args.refused c.args.opened h k
    (sym c.is_dropped.ensures ∙ c.if-is_dropped.false) (sym c.in-Some.is ∙ g) c.strays.ensures f o)
