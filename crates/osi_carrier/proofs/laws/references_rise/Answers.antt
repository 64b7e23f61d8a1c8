use Rattle.osi_carrier.proofs.effects.a_unit_touches_one_connection.{orderly_fresh, orderly_unit, orderly_packet, orderly_asks}
use Rattle.osi_carrier.proofs.effects.a_unit_touches_one_connection.{orderly_sent, orderly_sent_all, orderly_closed, orderly_end}
use Rattle.osi_carrier.proofs.effects.a_unit_touches_one_connection.{orderly_ended, orderly_same}
use Rattle.osi_carrier.proofs.laws.references_rise.Goals as goal

pub returns : goal.returns
returns c = record {
  begins = orderly_fresh;
  unit = orderly_unit;
  packet = orderly_packet;
  asks = orderly_asks;
  sent = orderly_sent;
  sent_all = orderly_sent_all;
  closed = orderly_closed;
  ends = orderly_end;
  ended = orderly_ended;
  queues = orderly_same;
}
