use Rattle.osi_class.proofs.giving.what_is_given_can_be_written.{in_range, stays_octets, unit_fits, unit_length}
use Rattle.osi_class.proofs.laws.what_is_given_can_be_written.Goals as goal

pub returns-clause-range : goal.returns-clause-range
returns-clause-range c = in_range

pub returns-clause-octets : goal.returns-clause-octets
returns-clause-octets c = stays_octets

pub returns-clause-fits : goal.returns-clause-fits
returns-clause-fits c = unit_fits

pub returns-clause-length : goal.returns-clause-length
returns-clause-length c = unit_length
