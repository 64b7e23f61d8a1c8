use Rattle.osi_pair.proofs.Vocabulary.{subst, ◌∙◌, IsOctets, called_by}
use Rattle.osi_pair.proofs.event.what_an_event_does.{serial_small, same_octets}
use Rattle.osi_pair.proofs.octets.can_be_called.Goals as goal

pub returns-clause-serial : goal.returns-clause-serial
returns-clause-serial c = serial_small c.args.request

pub returns-clause-octets : goal.returns-clause-octets
returns-clause-octets c = subst IsOctets (c.user_data.ensures ∙ same_octets (called_by c.args.request)) c.are_octets.ensures
