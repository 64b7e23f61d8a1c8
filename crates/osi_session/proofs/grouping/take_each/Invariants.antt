use Rattle.osi_session.proofs.Vocabulary.{units_behind, units_of, word, said_by_units, respond_tsdu, word_by, length, map, option_copied}
use Rattle.osi_session.proofs.tsdu.words_one_after_the_other.{Walks}
use Rattle.osi_session.proofs.grouping.take_each.Given as goal

abbrev pub invariant-units : goal.invariant-units
invariant-units l =
    Walks (respond_tsdu (record { state = l.fn.state; joined = option_copied l.fn.joined }) (said_by_units (units_of l.fn.group)))
    (option_copied l.fn.joined) l.reactions l.restarts (word_by l.first) (map word (units_behind l.behind))

abbrev pub decreases-units : goal.decreases-units
decreases-units l = length (units_behind l.behind)
