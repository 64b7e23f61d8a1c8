use Rattle.std.proofs.Common.{refl}
use Rattle.osi_c.proofs.streams.osi_feed.Goals as goal

pub returns-in-None : goal.returns-in-None
returns-in-None c = rw (c.get_mut-contents.ensures.value, c.in-None.is) (c.feed-did.ensures.feeds, refl, refl, refl, refl)

pub returns-in-Some : goal.returns-in-Some
returns-in-Some c =
    rw (c.get_mut-contents.ensures.value, c.in-Some.is) (
      c.feed-did.ensures.feeds,
      refl,
      refl,
      record {
        traced = c.feed.ensures.traced;
        keeping = c.feed.ensures.keeping;
        stops = c.feed.ensures.stops;
        over = c.feed.ensures.over;
      },
      refl,
    )
