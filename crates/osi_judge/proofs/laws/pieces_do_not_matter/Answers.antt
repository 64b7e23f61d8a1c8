use Rattle.osi_judge.proofs.a_piece_comes_to_what_its_octets_do.{after_more, piece_passes}
use Rattle.osi_judge.proofs.laws.pieces_do_not_matter.Goals as goal

pub returns-clause-join : goal.returns-clause-join
returns-clause-join c = after_more

pub returns-clause-octets : goal.returns-clause-octets
returns-clause-octets c = piece_passes
