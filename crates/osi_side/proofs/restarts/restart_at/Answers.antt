use Rattle.std.proofs.Common.{refl}
use Rattle.osi_side.proofs.kept.a_restart_is_shown_by_its_number.{restart_word}
use Rattle.osi_side.proofs.restarts.restart_at.Goals as goal

pub returns : goal.returns
returns c = (
  c.in_ok-number.ensures.1,
  restart_word c.serial_digits.ensures _ c.args.number c.in_ok-number.number _ c.resynchronize-unit.ensures.units refl
      c.in_ok-number.ensures.0 c.in_ok-number.ensures.1,
)
