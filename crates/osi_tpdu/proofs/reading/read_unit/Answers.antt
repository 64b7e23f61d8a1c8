use Rattle.osi_tpdu.proofs.Vocabulary.{arith, IsOctets}
use Rattle.osi_tpdu.proofs.the_units_of_a_packet.{read_fits}
use Rattle.osi_tpdu.proofs.reading.read_unit.Goals as goal

pub returns-clause-fits : goal.returns-clause-fits
returns-clause-fits c =
    let octets : IsOctets c.args.octets.now = λ i. omega (arith, c.type_inv.octets i) in
    read_fits c.args.at c.args.octets.now _ _ octets c.in_ok-header.ensures.gives c.in_ok-unit.ensures
