use Rattle.std.proofs.Common.{arith}
use Rattle.osi_listing.proofs.a_capture_has_one_listing.{fed_all, one_so_far}
use Rattle.osi_listing.proofs.laws.the_pieces_do_not_matter.Goals as goal

pub returns-clause-pieces : goal.returns-clause-pieces
returns-clause-pieces c = λ old new pieces before after h. fed_all old new pieces before after h

pub returns-clause-lines : goal.returns-clause-lines
returns-clause-lines c = search (arith, one_so_far)
