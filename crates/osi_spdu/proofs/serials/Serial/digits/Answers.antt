use Rattle.std.proofs.Common.{◌≡◌, ◌∙◌, drop, sym, arith}
use Rattle.osi_spdu.specs.Values.{significant, six_digits, digits_of}
use Rattle.osi_spdu.proofs.basics.digits_of_numbers.{significant_step, significant_end}
use Rattle.osi_spdu.proofs.serials.Serial.digits.Goals as goal
use Rattle.osi_spdu.proofs.serials.Serial.digits.Goals.{then-zeros-test+else-octets-start-eq48, else-zeros-test}

pub zeros-preserved : goal.zeros-preserved
zeros-preserved c = grind (arith, significant_step)

pub returns : goal.returns
unfolding digits_of
returns c =
    let xs = six_digits c.args.self.number in
    let ends : significant (drop c.zeros.start xs) ≡ drop c.zeros.start xs = elim c.zeros-test.branch [
      | then-zeros-test+else-octets-start-eq48 w ↦ significant_end xs c.zeros.start (omega arith) (λ lt e. w.if-octets-start-eq48.false e)
      | else-zeros-test w ↦ significant_end xs c.zeros.start (omega arith) (λ lt e. omega (arith, w.zeros-test.false))
    ] in
    sym ends ∙ c.zeros.invariant.1
