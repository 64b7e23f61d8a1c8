use Rattle.osi_transcript.proofs.Vocabulary.{arith, ◌∙◌, sym, append_assoc, append-nil}
use Rattle.osi_transcript.proofs.the_line_of_a_state.{no_standings, standings_more, standing_here, standings_end}
use Rattle.osi_transcript.proofs.standings.push_side.Goals as goal

pub references-init : goal.references-init
references-init c = grind (arith, append-nil, no_standings)

pub references-preserved : goal.references-preserved
references-preserved c = grind (arith, append_assoc, standing_here, standings_more)

pub returns-in_default : goal.returns-in_default
returns-in_default c =
    standings_end c.args.side c.args.stack.now.end c.references.before c.args.out.now.items c.references.out.items
    (sym c.phase.ensures ∙ c.in_default.is)
    c.references-test.true c.references.invariant
