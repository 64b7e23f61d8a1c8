use Rattle.osi_listing.proofs.a_capture_has_one_listing.{one_listing}
use Rattle.osi_listing.proofs.laws.a_capture_has_one_listing.Goals as goal

pub returns : goal.returns
returns c = λ octets lines others status other h k. one_listing c.a_stream_has_one_cut.ensures.cut octets lines others status other h k
