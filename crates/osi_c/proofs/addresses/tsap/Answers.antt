use Rattle.osi_c.proofs.octets_are_followed_by_zeros.{tsap_padded}
use Rattle.osi_c.proofs.addresses.tsap.Goals as goal

pub returns : goal.returns
returns c = tsap_padded c.copy_from_slice.new.self c.args.address.now c.copy_from_slice.ensures.after
