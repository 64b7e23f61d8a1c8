use Rattle.osi_carrier.proofs.effects.a_unit_touches_one_connection.{stays_gone, asks_gone, sent_gone, sent_all_gone, closed_gone}
use Rattle.osi_carrier.proofs.laws.no_reference_is_given_twice.Goals as goal

pub returns : goal.returns
returns c = record { unit = stays_gone; asks = asks_gone; sent = sent_gone; sent_all = sent_all_gone; closed = closed_gone }
