use Rattle.osi_listing.proofs.a_lister_keeps_little.{keeps_little}
use Rattle.osi_listing.proofs.laws.a_lister_keeps_little.Goals as goal

pub returns : goal.returns
returns c = λ lister octets lines fed going. keeps_little lister octets lines fed going
