use Rattle.osi_carrier.proofs.references.which_connections_have_selectors.{known_is, fresh_named, asks_named, sent_named, sent_all_named}
use Rattle.osi_carrier.proofs.references.which_connections_have_selectors.{closed_named, ended_named, asks_keeps, sent_keeps}
use Rattle.osi_carrier.proofs.references.which_connections_have_selectors.{sent_all_keeps, closed_keeps}
use Rattle.osi_carrier.proofs.effects.a_unit_touches_one_connection.{unit_named, unit_keeps}
use Rattle.osi_carrier.proofs.laws.each_live_connection_has_its_tsaps.Goals as goal

pub returns : goal.returns
returns c = record {
  known = known_is;
  begins = fresh_named;
  unit = unit_named;
  asks = asks_named;
  sent = sent_named;
  sent_all = sent_all_named;
  closed = closed_named;
  ended = ended_named;
  unit_keeps = unit_keeps;
  asks_keeps = asks_keeps;
  sent_keeps = sent_keeps;
  sent_all_keeps = sent_all_keeps;
  closed_keeps = closed_keeps;
}
