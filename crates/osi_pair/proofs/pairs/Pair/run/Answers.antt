use Rattle.osi_pair.proofs.pairs.Pair.run.Goals as goal

pub returns-in-Ok-clause-all : goal.returns-in-Ok-clause-all
returns-in-Ok-clause-all c = (c.in-Ok._is_cut_short, c.in-Ok.ensures.all)
