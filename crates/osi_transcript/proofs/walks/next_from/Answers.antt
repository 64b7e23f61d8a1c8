use Rattle.std.proofs.Common.{◌+◌, arith}
use Rattle.osi_transcript.proofs.a_script_is_read_line_by_line.{same_left, asked_next, skipped_next, none_numbered, flip_false, flip_true}
use Rattle.osi_transcript.proofs.walks.next_from.Goals as goal

pub returns-then-not-is_skipped-clause-some : goal.returns-then-not-is_skipped-clause-some
returns-then-not-is_skipped-clause-some c = grind (arith, flip_false, asked_next, same_left)

pub returns-in_default-clause-none : goal.returns-in_default-clause-none
returns-in_default-clause-none c = grind (arith, flip_true, skipped_next, none_numbered (c.lines.number + 1))

pub lines-preserved : goal.lines-preserved
lines-preserved c = grind (arith, flip_true, skipped_next)
