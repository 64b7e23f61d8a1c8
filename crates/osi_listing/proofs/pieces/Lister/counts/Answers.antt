use Rattle.osi_listing.proofs.what_is_written_is_the_listing.{stands_so_far}
use Rattle.osi_listing.proofs.pieces.Lister.counts.Goals as goal

pub returns-clause-listed : goal.returns-clause-listed
returns-clause-listed c = λ octets lines fed. stands_so_far c.args.self.now.stage c.args.self.now.work octets lines fed.stands
