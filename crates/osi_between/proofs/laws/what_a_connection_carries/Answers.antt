use Rattle.osi_between.proofs.meeting.a_connection_after_each_unit_and_call.{take_here, send_here, close_here, mirror_stands, mirror_twice}
use Rattle.osi_between.proofs.laws.what_a_connection_carries.Goals as goal

pub returns : goal.returns
returns c = record {
  taken = take_here;
  sent = send_here;
  closed = close_here;
  mirrored = mirror_stands;
  twice = mirror_twice;
}
