use Rattle.osi_judge.proofs.Vocabulary.{◌++◌, List, map, take, drop, Joined, packet_begins, HoldAll}
use Rattle.osi_judge.proofs.sessions.begin_each.Given as goal

abbrev pub invariant-loop-connection : goal.invariant-loop-connection
invariant-loop-connection l = (js : List Joined) → HoldAll l.fn.live.items js
    → HoldAll l.connection-items (map (packet_begins l.direction) (take l.connection-index js) ++ drop l.connection-index js)
