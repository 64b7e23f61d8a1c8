use Rattle.osi_spdu.proofs.Vocabulary.{and_left, and_right, UserData, is_same, octets_of, arith, ◌≡◌, ◌&&◌, ◌==◌, false, length, sym}
use Rattle.osi_spdu.proofs.parameters.a_slot_is_filled.{known_some, known_none, known_empty}
use Rattle.osi_spdu.proofs.params.Params.value.Goals as goal
use Rattle.osi_spdu.proofs.params.Params.value.Goals.{else-is_user_data-via-then-is_user_data+else-is_empty}
use Rattle.osi_spdu.proofs.params.Params.value.Goals.{else-is_user_data-via-else-is_user_data}

pub returns-in_err-value : goal.returns-in_err-value
returns-in_err-value c = rw c.from_residual.ensures (sym (known_none c.args.self.now c.args.code (sym c.in_err-value.ensures)))

pub returns-then-is_empty : goal.returns-then-is_empty
returns-then-is_empty c = grind (arith, known_empty)

pub returns : goal.returns
returns c =
    let v = octets_of c.in_ok-value.value in
    let test : (is_same c.args.code UserData && (length v == 0)) ≡ false = elim c.else-is_user_data.branch [
      | else-is_user_data-via-then-is_user_data+else-is_empty w ↦ grind (arith, and_right)
      | else-is_user_data-via-else-is_user_data w ↦ grind (arith, and_left)
    ] in
    sym (known_some c.args.self.now c.args.code v (sym c.in_ok-value.ensures) test)
