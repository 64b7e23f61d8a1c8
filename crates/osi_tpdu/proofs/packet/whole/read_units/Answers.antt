use Rattle.osi_tpdu.proofs.Vocabulary.{err_from_is_err_and, arith, rules}
use Rattle.osi_tpdu.proofs.the_units_of_a_packet.{units_found, packet_left, no_units, one_reading, fault_found}
use Rattle.osi_tpdu.proofs.packet.whole.read_units.Goals as goal

pub returns-in_err-read_to_end-clause-only : goal.returns-in_err-read_to_end-clause-only
returns-in_err-read_to_end-clause-only c vs us = absurd (no_units c.args.packet.now _ vs c.in_err-read_to_end.ensures us)

pub returns-in_err-read_to_end-clause-refused : goal.returns-in_err-read_to_end-clause-refused
returns-in_err-read_to_end-clause-refused c = grind (arith, err_from_is_err_and, no_units)

pub returns-in_err-read_to_end-clause-first : goal.returns-in_err-read_to_end-clause-first
returns-in_err-read_to_end-clause-first c = grind (arith, err_from_is_err_and, fault_found)

pub invariant_of-result : goal.invariant_of-result
invariant_of-result c = record { room = search rules; readable = (packet_left c.args.packet.now c.in_ok-read_to_end.ensures).0 }

pub returns-clause-found : goal.returns-clause-found
returns-clause-found c = grind (arith, units_found, packet_left)

pub returns-clause-only : goal.returns-clause-only
returns-clause-only c vs us = one_reading c.args.packet.now _ vs (packet_left c.args.packet.now c.in_ok-read_to_end.ensures).1 us

pub returns-clause-exact : goal.returns-clause-exact
returns-clause-exact c = (packet_left c.args.packet.now c.in_ok-read_to_end.ensures).1
