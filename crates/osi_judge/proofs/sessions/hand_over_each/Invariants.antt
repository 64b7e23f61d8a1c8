use Rattle.osi_judge.proofs.Vocabulary.{List, length, take, ◌-◌, Joined, AreHeard, HoldAll}
use Rattle.osi_judge.proofs.sessions.hand_over_each.Given as goal

abbrev pub invariant-connections : goal.invariant-connections
invariant-connections l = ((js : List Joined) → HoldAll l.fn.live.items js → HoldAll l.live.items js)
    × AreHeard (take l.place l.live.items) × (AreHeard l.fn.live.items → AreHeard l.live.items)

abbrev pub decreases-connections : goal.decreases-connections
decreases-connections l = length l.live.items - l.place
