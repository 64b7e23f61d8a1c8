use Rattle.osi_spdu.proofs.Vocabulary.{◌≡◌, length, arith, eqb-false}
use Rattle.osi_spdu.proofs.basics.digits_of_numbers.{pow_small, reading_step, reading_end}
use Rattle.osi_spdu.proofs.serials.Serial.read.Goals as goal

pub digits-preserved : goal.digits-preserved
digits-preserved c = search (arith, reading_step)

pub returns : goal.returns
returns c =
    let digits = c.args.digits.now in
    let all : c.digits.digit-index ≡ length digits = omega arith in
    grind (arith, eqb-false, pow_small, reading_end)
