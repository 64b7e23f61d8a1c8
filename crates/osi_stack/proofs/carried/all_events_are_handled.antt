-- An end that has not ended has handled all events of its carrier.
use Rattle.osi_stack.proofs.Vocabulary.{Fed, Input, connects, breaks, Feeds, to_session, End, Holding, IsAttended, Connect, arith, ℕ, List}
use Rattle.osi_stack.proofs.carried.what_sessions_leave_of_the_carrier.{session_keeps}
use Rattle.osi_stack.proofs.stream.what_feeding_keeps.{feeds_kept, breaks_kept}
use Rattle.osi_stack.proofs.stream.what_was_written_is_read.{attended_kept}

pub session_attended : (r : ℕ) (input : Input) (e : End) → IsAttended e → IsAttended (to_session r input e)
session_attended r input e attended over = grind (arith, session_keeps)

pub connect_attended : (c : Connect) (e : End) → IsAttended e → IsAttended (connects c e)
connect_attended c e attended over = attended over

pub breaks_attended : (e : End) → IsAttended e → IsAttended (breaks e)
breaks_attended e attended = breaks_kept IsAttended attended_kept e attended

pub feeds_attended : (old new : Holding) (piece : List ℕ) (fed : Fed) → Feeds old piece fed new → IsAttended old.end → IsAttended new.end
feeds_attended old new piece fed h attended = feeds_kept IsAttended attended_kept old new piece fed h attended
