use Rattle.osi_spdu.proofs.Vocabulary.{◌-◌, ◌≡◌, ◌≤◌, drop, significant}
use Rattle.osi_spdu.proofs.serials.Serial.digits.Given as goal

abbrev pub invariant-zeros : goal.invariant-zeros
invariant-zeros l = (l.start ≤ 5) × (significant (drop l.start l.octets) ≡ significant l.octets)

abbrev pub decreases-zeros : goal.decreases-zeros
decreases-zeros l = 5 - l.start
