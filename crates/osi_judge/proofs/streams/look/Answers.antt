use Rattle.osi_judge.proofs.Vocabulary.{ap, refl, sym, subst, List, ℕ, take, Ok, IsPacket}
use Rattle.osi_judge.proofs.octets_are_looked_at.{packet_front, partial_front, fault_front}
use Rattle.osi_judge.proofs.streams.look.Goals as goal

pub returns-in-Ok-None : goal.returns-in-Ok-None
returns-in-Ok-None c = sym (partial_front c.args.held.now (c.in-Ok-None.ensures.begun.0 (ap Ok c.in-Ok-None.field-0-is)))

pub returns-in-Err : goal.returns-in-Err
returns-in-Err c = sym (fault_front c.args.held.now c.in-Err.fault ((c.in-Err.ensures.refused c.in-Err.fault).0 refl))

pub returns-in-Ok-Some : goal.returns-in-Ok-Some
returns-in-Ok-Some c =
    let found = rw c.in-Ok-Some.field-0-is at c.in-Ok-Some.ensures.found in
    let n = c.in-Ok-Some.found.1 in
    let packet = subst (λ (u : List ℕ). IsPacket u (take n c.args.held.now)) (sym c.unit-unit.ensures.value) found.spelled in
    sym (packet_front c.unit-unit.result.now c.args.held.now n packet)
