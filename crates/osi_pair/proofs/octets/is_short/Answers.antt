use Rattle.osi_pair.proofs.Vocabulary.{subst, IsOctets}
use Rattle.osi_pair.proofs.event.what_an_event_does.{address_short}
use Rattle.osi_pair.proofs.octets.is_short.Goals as goal

pub returns-clause-short : goal.returns-clause-short
returns-clause-short c = address_short c.args.tsap

pub returns-clause-octets : goal.returns-clause-octets
returns-clause-octets c = subst IsOctets c.octets.ensures.value c.are_octets.ensures
