use Rattle.osi_stack.proofs.Vocabulary.{put_here, append-nil, arith}
use Rattle.osi_stack.proofs.given_up.the_others_keep_theirs.{leaves_others, hushes, is_over_then}
use Rattle.osi_stack.proofs.each_session.an_ended_session_is_silent.{ended_silent}
use Rattle.osi_stack.proofs.laws.what_a_disconnect_leaves.Goals as goal
use Rattle.osi_stack.proofs.given_up.the_invariant_stays.{disconnect_carrier}

pub returns : goal.returns
returns c = grind (arith, leaves_others, disconnect_carrier, hushes, is_over_then, put_here, ended_silent, append-nil)
