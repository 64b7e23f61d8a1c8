use Rattle.osi_tpdu.proofs.one_unit_is_read.{unit_found, unit_only}
use Rattle.osi_tpdu.proofs.laws.one_unit.Goals as goal

pub returns-clause-found : goal.returns-clause-found
returns-clause-found c v n octets are_octets read = (unit_found 0 octets (v, n) are_octets read).0

pub returns-clause-only : goal.returns-clause-only
returns-clause-only c v n octets stands = unit_only 0 v n octets stands
