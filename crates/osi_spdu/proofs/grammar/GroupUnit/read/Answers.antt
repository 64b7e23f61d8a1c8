use Rattle.std.proofs.Common.{sym}
use Rattle.osi_spdu.proofs.tsdu.a_tsdu_is_all_of_its_octets.{front_whole}
use Rattle.osi_spdu.proofs.grammar.GroupUnit.read.Goals as goal

pub returns-in-Ok-clause-only : goal.returns-in-Ok-clause-only
returns-in-Ok-clause-only c = λ v n h. (let w = front_whole v n c.args.octets.now h in (c.in-Ok.ensures.only v w.1, sym w.0))

pub returns-in-Err-clause-only : goal.returns-in-Err-clause-only
returns-in-Err-clause-only c = λ v n h. (let w = front_whole v n c.args.octets.now h in c.in-Err.ensures.only v w.1)
