use Rattle.std.proofs.Common.{arith}
use Rattle.osi_carrier.proofs.references.events_tell_what_is_open.{unit_opens, packet_opens, asks_opens, sent_opens, sent_all_opens}
use Rattle.osi_carrier.proofs.references.events_tell_what_is_open.{closed_opens}
use Rattle.osi_carrier.proofs.laws.what_is_open_is_told.Goals as goal

pub returns : goal.returns
returns c = search (arith, unit_opens, packet_opens, asks_opens, sent_opens, sent_all_opens, closed_opens)
