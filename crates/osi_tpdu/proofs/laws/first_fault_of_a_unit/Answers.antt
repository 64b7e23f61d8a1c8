use Rattle.std.proofs.Common.{arith}
use Rattle.osi_tpdu.proofs.the_first_fault_of_a_unit.{unit_fault_found, unit_fault_only, unit_clean, clean_unit}
use Rattle.osi_tpdu.proofs.laws.first_fault_of_a_unit.Goals as goal

pub returns-clause-fault : goal.returns-clause-fault
returns-clause-fault c at octets fault are_octets = search (arith, unit_fault_found, unit_fault_only)

pub returns-clause-none : goal.returns-clause-none
returns-clause-none c at octets are_octets = (clean_unit at octets are_octets, unit_clean at octets are_octets)
