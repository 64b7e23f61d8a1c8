-- What is sent, over a list of calls.
use Rattle.std.proofs.Common.{arith, ◌≡◌, List, [], ◌++◌}
use Rattle.osi_class.proofs.Vocabulary.{Standing, Move, MovesAlong, tsdus_in, parts_out, tsdus, uncut, MakeTheSame}
use Rattle.osi_class.proofs.between.parts_stay_in_order.{append_nil, uncut_tsdus}
use Rattle.osi_class.proofs.bounds.what_a_call_preserves.{sends_run}

pub kept : (old new : Standing) (moves : List Move) → MovesAlong old moves new →
    MakeTheSame (parts_out moves ++ uncut new.ends.unsent) (uncut (old.ends.unsent ++ tsdus_in moves))
kept old new moves run begun = grind (arith, append_nil new.ends.unsent, sends_run old new moves run [] begun, append_nil (tsdus_in moves))

pub all : (old new : Standing) (moves : List Move) → MovesAlong old moves new → old.ends.unsent ≡ [] →
    tsdus (parts_out moves ++ uncut new.ends.unsent) ≡ tsdus_in moves
all old new moves run nothing = grind (arith, kept old new moves run [], uncut_tsdus (tsdus_in moves))
