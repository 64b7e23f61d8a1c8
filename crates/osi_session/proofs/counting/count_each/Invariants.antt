use Rattle.osi_session.proofs.Vocabulary.{units_behind, units_of, word, said_by_units, word_by, length, map, count_of}
use Rattle.osi_session.proofs.tsdu.octets_are_counted.{WalksAll}
use Rattle.osi_session.proofs.counting.count_each.Given as goal

abbrev pub invariant-units : goal.invariant-units
invariant-units l = WalksAll l.fn.state l.fn.joined (said_by_units (units_of l.fn.group)) (count_of l.counting) l.restarts (word_by l.first)
    (map word (units_behind l.behind))

abbrev pub decreases-units : goal.decreases-units
decreases-units l = length (units_behind l.behind)
