-- As long as both sides are judged, a calling end that doesn't offer class 2 puts no DT unless class 0 is selected.
-- For the law that no session of an end is blamed first.
use Rattle.osi_blameless.proofs.Vocabulary.{false, true, ℕ, ◌≡◌, Local, Left, Value, Joint, Steps, passes_own, IsOngoing, arith}
use Rattle.osi_blameless.specs.transport.Wholes.{begin}
use Rattle.osi_blameless.proofs.keeping.steps_are_events.{IsFollowed}
use Rattle.osi_blameless.proofs.standing.what_stands_of_a_connection.{is_part}
use Rattle.osi_blameless.proofs.putting.a_whole_end_runs_along.{runs_staged}

pub puts_no_dt : (local : Local) → local.class2 ≡ false → (at : ℕ) (v : Value) (old new : Joint) → Steps Left (passes_own at v) old new →
    IsFollowed Left (begin true local) old → IsOngoing old.judge.traffic.course → is_part v ≡ false
puts_no_dt local without at v old new (read, octets, (put, begun, is)) f clear =
    grind (arith, runs_staged local old f)
