use Rattle.std.proofs.Common.{arith}
use Rattle.osi_message.proofs.what_can_be_sent_has_a_written_form.{spelled_formed, spelled_fits}
use Rattle.osi_message.proofs.what_is_written_means_it.{said_again}
use Rattle.osi_message.proofs.laws.what_is_sent_is_read.Goals as goal

pub returns-clause-read : goal.returns-clause-read
returns-clause-read c = grind (arith, spelled_formed, spelled_fits)

pub returns-clause-said : goal.returns-clause-said
returns-clause-said c = λ m h. said_again c.serial_digits.ensures m h.version h.numbered
