use Rattle.osi_report.proofs.Vocabulary.{sym, subst, ◌++◌, Direction, Opens, piece, stream}
use Rattle.osi_side.specs.declared.directions.Direction.TheVariants.{Left}
use Rattle.osi_report.proofs.how_a_stream_begins_stays.{left_more, right_more}
use Rattle.osi_report.proofs.openings.Opening.pass.Goals as goal

pub returns-in-Left : goal.returns-in-Left
returns-in-Left c = λ capture h.
    subst (λ (d : Direction). Opens c.pass_left.new.self (stream Left (capture ++ piece d c.args.octets.now))) (sym c.in-Left.is)
    (left_more c.args.self.now c.pass_left.new.self capture c.args.octets.now (c.pass_left.ensures (stream Left capture) h))

pub returns-in-Right : goal.returns-in-Right
returns-in-Right c = λ capture h.
    subst (λ (d : Direction). Opens c.args.self.now (stream Left (capture ++ piece d c.args.octets.now))) (sym c.in-Right.is)
    (right_more c.args.self.now capture c.args.octets.now h)
