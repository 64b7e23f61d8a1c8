use Rattle.osi_stack.proofs.stream.what_was_written_is_read.{packet_is_unit, feeds_some, attended_unit}
use Rattle.osi_stack.proofs.laws.what_was_written_is_heard.Goals as goal

pub returns : goal.returns
returns c = record { unit = packet_is_unit; fed = feeds_some; attended = attended_unit }
