use Rattle.std.proofs.Common.{arith, ◌∙◌, ap, sym}
use Rattle.std.specs.List.{slice_get}
use Rattle.osi_message.specs.Words.{Words}
use Rattle.osi_spdu.specs.Groups.{units_of}
use Rattle.osi_witness.proofs.units_act_in_order.{words_read, words_unread}
use Rattle.osi_witness.proofs.units.acting_unit.Goals as goal

pub returns-in-Ok : goal.returns-in-Ok
returns-in-Ok c =
    c.acting_in.ensures
    ∙ ap (λ (x : Words). slice_get x c.args.place) (sym (words_read c.args.tsdu.now (units_of c.in-Ok.group) c.in-Ok.ensures.exact))

pub returns-in-Err : goal.returns-in-Err
returns-in-Err c = grind (arith, words_unread)
