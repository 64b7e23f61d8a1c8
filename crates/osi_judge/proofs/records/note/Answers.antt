use Rattle.std.proofs.Common.{arith}
use Rattle.osi_judge.proofs.each_record_is_noted.{noted_before, noted_last}
use Rattle.osi_judge.proofs.records.note.Goals as goal

pub returns-then-is_some : goal.returns-then-is_some
returns-then-is_some c = grind (arith, noted_before)

pub returns : goal.returns
returns c = grind (arith, noted_last)
