-- Giving terminates: each unit that is given leaves less to give.
use Rattle.std.proofs.Common.{◌≡◌, ◌<◌, length, Some, arith, length-drop}
use Rattle.osi_class.proofs.Vocabulary.{ltb-true, Standing, Given, next, left_to_give}
use Rattle.osi_class.proofs.between.parts_stay_in_order.{choose_some, at_some}

pub giving_lowers : (old new : Standing) (given : Given) → 0 < old.ends.limit → next old ≡ Some (given, new) →
    left_to_give new < left_to_give old
giving_lowers old new given room e = grind (arith, at_some, choose_some, ltb-true, length-drop)
