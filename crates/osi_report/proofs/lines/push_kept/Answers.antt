use Rattle.osi_report.specs.Lines.{kept_line}
use Rattle.osi_report.proofs.Vocabulary.{append_assoc}
use Rattle.osi_report.proofs.lines.push_kept.Goals as goal

pub returns : goal.returns
unfolding kept_line
returns c =
    rw (← append_assoc, ← append_assoc, ← append_assoc, ← append_assoc)
    (rw (← c.in_ok-push_own.ensures, ← c.in_ok-push_number_field.ensures)
    (rw (← c.in_ok-push_state.ensures, ← c.in_ok-push_owed.ensures) c.push_words.ensures))
