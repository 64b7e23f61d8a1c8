use Rattle.osi_judge.proofs.no_more_is_kept_than_passed.{part_held, few_sessions, no_more_kept}
use Rattle.osi_judge.proofs.a_dt_is_judged_if_there_is_room.{room_kept}
use Rattle.osi_judge.proofs.laws.no_more_is_kept_than_passed.Goals as goal

pub returns-clause-packets : goal.returns-clause-packets
returns-clause-packets c = part_held

pub returns-clause-sessions : goal.returns-clause-sessions
returns-clause-sessions c = few_sessions

pub returns-clause-octets : goal.returns-clause-octets
returns-clause-octets c = no_more_kept

pub returns-clause-room : goal.returns-clause-room
returns-clause-room c = room_kept
