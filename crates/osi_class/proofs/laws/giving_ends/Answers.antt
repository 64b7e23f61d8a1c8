use Rattle.osi_class.proofs.giving.giving_ends.{giving_lowers}
use Rattle.osi_class.proofs.giving.a_link_gives_finitely_many_units.{giving_leaves}
use Rattle.osi_class.proofs.laws.giving_ends.Goals as goal

pub returns-clause-less : goal.returns-clause-less
returns-clause-less c = giving_lowers

pub returns-clause-class : goal.returns-clause-class
returns-clause-class c = λ old new given e. (giving_leaves old new given e).unit

pub returns-clause-joining : goal.returns-clause-joining
returns-clause-joining c = λ old new given e. (giving_leaves old new given e).joining
