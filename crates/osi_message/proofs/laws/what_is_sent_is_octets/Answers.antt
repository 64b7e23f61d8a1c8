use Rattle.osi_message.proofs.what_is_sent_is_octets.{written_octets}
use Rattle.osi_message.proofs.laws.what_is_sent_is_octets.Goals as goal

pub returns : goal.returns
returns c = written_octets c.few_octets_fit.ensures c.serial_digits.ensures
