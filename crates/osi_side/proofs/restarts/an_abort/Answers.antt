use Rattle.std.proofs.Common.{refl}
use Rattle.osi_side.proofs.kept.a_restart_is_shown_by_its_number.{abort_word}
use Rattle.osi_side.proofs.restarts.an_abort.Goals as goal

pub returns : goal.returns
returns c = abort_word c.serial_digits.ensures _ _ c.abort.ensures.units refl
