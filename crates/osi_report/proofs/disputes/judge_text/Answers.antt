use Rattle.osi_report.proofs.Vocabulary.{◌≡◌, refl, [], Result, Err}
use Rattle.osi_report.proofs.a_hearing_holds_what_passed.{heard_at_once}
use Rattle.osi_report.proofs.disputes.judge_text.Goals as goal

-- two results that have one error have the same one
other_result : {A B E : Type 0} (f g : E) (r : Result A E) (s : Result B E) → r ≡ Err f → r ≡ Err g → s ≡ Err f → s ≡ Err g
other_result f g r s p q k = cc

pub returns-in-Err-clause-bad_hex : goal.returns-in-Err-clause-bad_hex
returns-in-Err-clause-bad_hex c = λ is.
    c.in-Err.ensures.bad_hex (other_result _ _ (Err c.in-Err.fault) (Err c.in-Err.fault) refl is refl) c.args.text.now []
    (heard_at_once c.new-hearing.result c.args.text.now c.new-hearing.ensures)
