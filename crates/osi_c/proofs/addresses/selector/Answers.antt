use Rattle.osi_c.proofs.octets_are_followed_by_zeros.{selector_padded}
use Rattle.osi_c.proofs.addresses.selector.Goals as goal

pub returns : goal.returns
returns c = selector_padded c.copy_from_slice.new.self c.args.address.now c.copy_from_slice.ensures.after
