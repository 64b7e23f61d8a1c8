use Rattle.osi_pair.proofs.same.any_event.{same_event}
use Rattle.osi_pair.proofs.standing.an_event_does_one_thing.Goals as goal

pub returns : goal.returns
returns c = same_event c.how_two_ends_carry.ensures.once
