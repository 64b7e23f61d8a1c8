use Rattle.osi_pair.proofs.event.what_an_event_does.{wanted_small, named_sizes}
use Rattle.osi_pair.proofs.octets.can_be_asked.Goals as goal

pub returns : goal.returns
returns c = assumption (wanted_small c.args.connect.now, named_sizes c.args.connect.now.sizes)
