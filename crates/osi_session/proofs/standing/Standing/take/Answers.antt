use Rattle.osi_session.specs.Counting.{count_of}
use Rattle.osi_session.proofs.sent.what_a_side_may_send.{count_sound}
use Rattle.osi_session.proofs.standing.Standing.take.Goals as goal

pub invariant_of-result : goal.invariant_of-result
invariant_of-result c =
    count_sound c.self.inside.state c.self.inside.joined c.args.tsdu.now (count_of c.in_ok-counting.counting) c.in_ok-counting.ensures
    c.self.invariant
