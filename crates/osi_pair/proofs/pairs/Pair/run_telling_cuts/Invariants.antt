use Rattle.osi_pair.proofs.Vocabulary.{take, HappenAll}
use Rattle.osi_pair.proofs.pairs.Pair.run_telling_cuts.Given as goal

abbrev pub invariant-events : goal.invariant-events
invariant-events l = HappenAll (take l.place l.events) l.fn.self l.is_cut_short l.self
