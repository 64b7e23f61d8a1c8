-- What is taken, over a list of calls.
use Rattle.osi_class.proofs.Vocabulary.{Standing, Move, MovesAlong, parts_in, tsdus_out, tsdus, arith, ◌≡◌, List, [], ◌++◌}
use Rattle.osi_class.proofs.between.parts_stay_in_order.{append_nil}
use Rattle.osi_class.proofs.bounds.what_a_call_preserves.{takes_run}

pub all : (old new : Standing) (moves : List Move) → MovesAlong old moves new →
    old.ends.joining.whole ≡ [] → old.ends.joining.begun ≡ [] →
    tsdus (parts_in moves) ≡ tsdus_out moves ++ new.ends.joining.whole
all old new moves run none_whole none_begun =
    grind (arith, append_nil (parts_in moves), takes_run old new moves [] run, append_nil new.ends.joining.whole)
