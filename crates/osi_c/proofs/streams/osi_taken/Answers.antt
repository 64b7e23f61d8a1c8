use Rattle.std.proofs.Common.{refl, take}
use Rattle.osi_c.specs.Traced.{GoesOn}
use Rattle.osi_c.proofs.streams.osi_taken.Goals as goal

-- the trace goes on with the octets that were taken
goes_on : (c : goal.After-end-in-Some-1) → GoesOn (take c.args.octets c.outgoing-outgoing.result.now) c.in-Some.trace c.feed.new.self
goes_on c = record {
  traced = c.feed.ensures.traced;
  keeping = c.feed.ensures.keeping;
  stops = c.feed.ensures.stops;
  over = c.feed.ensures.over;
}

pub returns-in-Some : goal.returns-in-Some
returns-in-Some c =
    rw (c.get_mut-contents.ensures.value, c.in-Some.is) (
      rw (← c.outgoing-outgoing.ensures) c.if-octets-outgoing.false,
      rw (← c.outgoing-outgoing.ensures) (goes_on c),
      rw c.taken-in-Some.ensures refl,
    )
