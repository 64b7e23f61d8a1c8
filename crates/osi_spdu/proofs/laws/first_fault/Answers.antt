use Rattle.osi_spdu.proofs.first_faults.the_first_fault_of_a_tsdu.{first_fault_found, first_fault_only}
use Rattle.osi_spdu.proofs.laws.first_fault.Goals as goal

pub returns-clause-found : goal.returns-clause-found
returns-clause-found c = λ octets fault fits e. first_fault_found octets fault fits e

pub returns-clause-only : goal.returns-clause-only
returns-clause-only c = λ octets fault fits h. first_fault_only octets fault fits h
