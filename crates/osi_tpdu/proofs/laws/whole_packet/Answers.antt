use Rattle.osi_tpdu.proofs.the_units_of_a_packet.{units_found, units_only, one_list, units_fit, fault_found, fault_only}
use Rattle.osi_tpdu.proofs.laws.whole_packet.Goals as goal

pub returns-clause-found : goal.returns-clause-found
returns-clause-found c vs octets are_octets read = units_found octets vs are_octets read

pub returns-clause-only : goal.returns-clause-only
returns-clause-only c vs octets are = units_only octets vs are

pub returns-clause-one_reading : goal.returns-clause-one_reading
returns-clause-one_reading c vs ws octets are also = one_list octets vs ws are also

pub returns-clause-fits : goal.returns-clause-fits
returns-clause-fits c vs octets are = units_fit vs octets are

pub returns-clause-faults : goal.returns-clause-faults
returns-clause-faults c octets f are_octets = (fault_found octets f are_octets, fault_only octets f are_octets)
