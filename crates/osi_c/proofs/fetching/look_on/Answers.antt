use Rattle.std.proofs.Common.{refl}
use Rattle.osi_c.specs.Fed.{fed}
use Rattle.osi_c.specs.Subjects.{told_by}
use Rattle.osi_c.proofs.each_connection_is_looked_at.{seen_on}
use Rattle.osi_c.proofs.fetching.look_on.Goals as goal

pub returns : goal.returns
returns c = λ settled. record {
  knows = λ capture k. record {
    holds = k.holds;
    opens = k.opens;
    seen = seen_on (told_by c.args.held.now.told) c.args.held.now.seen c.seen_of-seen.result c.replaced.result.now
        (fed capture).course.sessions.done (c.replaced.ensures (fed capture) k.holds settled.judged) c.seen_of-seen.ensures.done k.seen;
  };
  judge = refl;
  opening = refl;
  told = refl;
  text = refl;
}
