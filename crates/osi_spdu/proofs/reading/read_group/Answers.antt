use Rattle.std.proofs.Common.{arith}
use Rattle.osi_spdu.proofs.tsdu.how_reading_goes_on.{all_found, all_only, all_fits, all_formed}
use Rattle.osi_spdu.proofs.reading.read_group.Goals as goal

pub returns-clause-found : goal.returns-clause-found
returns-clause-found c = all_found c.read_kept.result c.args.octets.now (λ i. omega (arith, c.type_inv.octets i)) c.read_kept.ensures

pub returns-clause-only : goal.returns-clause-only
returns-clause-only c = all_only c.read_kept.result c.args.octets.now c.read_kept.ensures

pub returns-clause-fits : goal.returns-clause-fits
returns-clause-fits c = all_fits c.read_kept.result c.args.octets.now (λ i. omega (arith, c.type_inv.octets i)) c.read_kept.ensures

pub returns-clause-formed : goal.returns-clause-formed
returns-clause-formed c = all_formed c.read_kept.result
