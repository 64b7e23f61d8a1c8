-- The state of a link of either class.
use Rattle.osi_class.specs.declared.either.AnyLink.{AnyLink}
use Rattle.osi_class.specs.declared.either.AnyLink.TheVariants.{Zero, Two}
use Rattle.osi_class.specs.Link.{Standing, zero_standing, two_standing}

abbrev pub any_standing : AnyLink → Standing
any_standing (Zero ends) = zero_standing ends
any_standing (Two link) = two_standing link.ends link.flow
