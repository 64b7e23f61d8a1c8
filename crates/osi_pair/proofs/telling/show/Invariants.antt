use Rattle.osi_pair.proofs.Vocabulary.{◌+◌, ◌-◌, ◌<◌, ◌≤◌, map, vec_len, vec_capacity, entry_by}
use Rattle.osi_pair.proofs.carry.users_receive_one_after_the_other.{HasShown}
use Rattle.osi_pair.proofs.telling.show.Given as goal

abbrev pub invariant-shown : goal.invariant-shown
invariant-shown l = HasShown l.side l.fn.stack (map entry_by l.fn.journal.items) l.count l.stack (map entry_by l.journal.items)
    × (vec_len l.journal + 81 < vec_capacity l.journal + l.count) × (l.count ≤ 81)
    × (vec_capacity l.fn.journal ≤ vec_capacity l.journal)

abbrev pub decreases-shown : goal.decreases-shown
decreases-shown l = 81 - l.count
