use Rattle.osi_report.proofs.Vocabulary.{arith}
use Rattle.osi_report.proofs.a_report_is_added_part_by_part.{none_added, more_added, all_added}
use Rattle.osi_report.proofs.report_texts.push_pairs.Goals as goal

pub connections-init : goal.connections-init
connections-init c = (λ s h k. none_added c.args.is_judged s.course.sessions c.args.text.now.items, omega arith)

pub connections-preserved : goal.connections-preserved
connections-preserved c = grind (arith, more_added)

pub returns : goal.returns
returns c = grind (arith, all_added)
