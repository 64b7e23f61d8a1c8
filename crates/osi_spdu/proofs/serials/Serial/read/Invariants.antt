use Rattle.osi_spdu.proofs.basics.digits_of_numbers.{IsReading}
use Rattle.osi_spdu.proofs.serials.Serial.read.Given as goal

abbrev pub invariant-digits : goal.invariant-digits
invariant-digits l = IsReading l.digits l.digit-index l.number
