use Rattle.osi_tpdu.proofs.Vocabulary.{arith, IsOctets}
use Rattle.osi_tpdu.proofs.one_unit_is_read.{unit_found, not_bad, same_front}
use Rattle.osi_tpdu.proofs.grammar.TpduUnit.read.Goals as goal

pub returns-in_err-read_unit-clause-only : goal.returns-in_err-read_unit-clause-only
returns-in_err-read_unit-clause-only c v n stands = absurd (not_bad c.args.octets.now v n _ stands c.in_err-read_unit.ensures.gives)

pub returns-clause-found : goal.returns-clause-found
returns-clause-found c =
    let octets : IsOctets c.args.octets.now = λ i. omega (arith, c.type_inv.octets i) in
    (unit_found 0 c.args.octets.now _ octets c.in_ok-read_unit.ensures.gives).0

pub returns-clause-only : goal.returns-clause-only
returns-clause-only c v n stands = same_front c.args.octets.now v n _ stands c.in_ok-read_unit.ensures.gives
