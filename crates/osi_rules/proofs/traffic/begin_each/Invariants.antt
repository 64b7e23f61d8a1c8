use Rattle.osi_rules.proofs.Vocabulary.{◌≡◌, ◌++◌, map, take, drop, begins}
use Rattle.osi_rules.proofs.traffic.begin_each.Given as goal

abbrev pub invariant-loop-connection : goal.invariant-loop-connection
invariant-loop-connection l =
    l.connection-items ≡ map (begins l.direction) (take l.connection-index l.fn.connections.items) ++
    drop l.connection-index l.fn.connections.items
