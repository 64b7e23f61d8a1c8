use Rattle.osi_blameless.proofs.accord.a_pair_explains_both_sides.{both_explained}
use Rattle.osi_blameless.proofs.accord.two_runs_are_one.{accord_of}
use Rattle.osi_blameless.proofs.laws.accord.two_explained_sides_are_a_pair.Goals as goal

pub returns : goal.returns
returns c = record { pair = accord_of; only = both_explained }
