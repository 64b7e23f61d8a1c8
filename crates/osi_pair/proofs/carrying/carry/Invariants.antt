use Rattle.osi_pair.specs.Carrying.{Carries}
use Rattle.osi_pair.proofs.Vocabulary.{◌≡◌, ◌+◌, ◌-◌, ◌<◌, ◌≤◌, ◌⊎◌, length, map, vec_len, vec_capacity, entry_by}
use Rattle.osi_pair.proofs.carrying.carry.Given as goal

abbrev pub invariant-pieces : goal.invariant-pieces
invariant-pieces l =
    Carries l.side l.octets
    (record { from = l.fn.from; to = l.fn.to; journal = map entry_by l.fn.journal.items }) l.carried
    (record { from = l.from; to = l.to; journal = map entry_by l.journal.items })
    × (l.carried < l.octets)
    × (l.octets ≤ length l.from.end.carrier.outgoing + l.carried)
    × (vec_len l.journal + 81 < vec_capacity l.journal)
    × ((0 < l.carried) ⊎ (l.to ≡ l.fn.to))
    × (vec_capacity l.fn.journal ≤ vec_capacity l.journal)

abbrev pub decreases-pieces : goal.decreases-pieces
decreases-pieces l = l.octets - l.carried
