use Rattle.osi_session.proofs.moves.the_move_of_each_input.{committed, committed_sends, planned_live}
use Rattle.osi_session.proofs.laws.a_plan_is_its_call.Goals as goal

pub returns : goal.returns
returns c = record { step = committed; sent = committed_sends; live = planned_live }
