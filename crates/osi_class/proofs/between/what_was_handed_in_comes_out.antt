-- If nothing is in flight and nothing is owed, what was handed in has been handed out; and what a link sends before its
-- peer's link is opened.
use Rattle.std.proofs.Common.{◌≡◌, ℕ, List, [], ◌∷◌, ◌++◌, map, refl, ap, subst, arith, append_assoc}
use Rattle.osi_class.proofs.Vocabulary.{flat_map, AllByRecursion, LinkPair, swapped, Turn, at_right, TurnsAlong, opposite, left_in}
use Rattle.osi_class.proofs.Vocabulary.{right_out, given_by, under_way, HasWholeTsdus, IsFresh, opened_pair, awaiting_pair, OnlySends}
use Rattle.osi_class.proofs.Vocabulary.{IsQuiet, AgreeInClass, Standing, Given, Move, hand_in, give_out, MovesAlong, tsdu_in, tsdus_in}
use Rattle.osi_class.proofs.Vocabulary.{Part}
use Rattle.osi_class.proofs.giving.when_nothing_is_given as nothing
use Rattle.osi_class.proofs.between.parts_stay_in_order.{append_nil}
use Rattle.osi_class.proofs.between.no_tsdu_becomes_too_long.{End, pending, pending_end}
use Rattle.osi_class.proofs.between.tsdus_come_in_order.{whole_kept, stays_whole, other_way, begins}

pub quiet_unsent : (p : LinkPair) → AgreeInClass p → IsQuiet p → p.left.ends.unsent ≡ []
quiet_unsent p h quiet = grind arith

-- nothing is in flight if no unit is and nothing is unsent
no_parts : (p : LinkPair) → p.rightward ≡ [] → p.left.ends.unsent ≡ [] → pending p ≡ []
no_parts p rightward unsent = grind arith

pub nothing_between : (p : LinkPair) → p.rightward ≡ [] → p.left.ends.unsent ≡ [] → p.right.ends.joining.whole ≡ [] → under_way p ≡ []
nothing_between p rightward unsent handed_out = grind (arith, append_nil, no_parts)

pub nothing_begun : (p : LinkPair) → HasWholeTsdus p → p.rightward ≡ [] → p.left.ends.unsent ≡ [] → p.right.ends.joining.begun ≡ []
nothing_begun p whole rightward unsent =
    let begun = p.right.ends.joining.begun in
    let ends : End begun [] = subst (λ (ps : List Part). End begun ps) (no_parts p rightward unsent) (pending_end p whole) in
    grind (arith, append_nil begun)

pub quiet_arrived : (old new : LinkPair) (turns : List Turn) → HasWholeTsdus old → under_way old ≡ [] → TurnsAlong old turns new →
    AgreeInClass new → IsQuiet new →
    flat_map left_in turns ≡ flat_map right_out turns
quiet_arrived old new turns whole none run agree quiet = grind (arith, whole_kept, append_nil, nothing_between, quiet_unsent)

-- units that are sent before the peer's link is opened
send_early : (left right new : Standing) (units : List Given) (moves : List Move) → AllByRecursion OnlySends moves →
    MovesAlong right moves new →
    TurnsAlong (awaiting_pair left right units) (map at_right moves) (awaiting_pair left new (units ++ flat_map given_by moves))
send_early left right new units [] sends e = grind (arith, append_nil)
send_early left right new units (hand_in tsdu ∷ moves) sends (mid, first, rest) =
    grind (arith, append_nil, send_early left mid new units moves sends.1 rest)
send_early left right new units (give_out unit ∷ moves) sends (mid, first, rest) =
    grind (arith, append_assoc, send_early left mid new (units ++ unit ∷ []) moves sends.1 rest)
send_early left right new units _ sends run = absurd sends.0

pub sent_early : (left right new : Standing) (moves : List Move) → AllByRecursion OnlySends moves → MovesAlong right moves new →
    TurnsAlong (opened_pair left right) (map at_right moves) (awaiting_pair left new (flat_map given_by moves))
sent_early left right new moves sends run = send_early left right new [] moves sends run

-- seen from the other side they are turns of the left link
left_turns : (moves : List Move) → flat_map left_in (map opposite (map at_right moves)) ≡ tsdus_in moves
left_turns [] = refl
left_turns (move ∷ moves) = ap (λ (ts : List (List ℕ)). tsdu_in move ++ ts) (left_turns moves)

none_out : (moves : List Move) → flat_map right_out (map opposite (map at_right moves)) ≡ []
none_out [] = refl
none_out (move ∷ moves) = none_out moves

pub early_whole : (left right new : Standing) (moves : List Move) → IsFresh left → IsFresh right → AllByRecursion OnlySends moves →
    MovesAlong right moves new →
    HasWholeTsdus (awaiting_pair left new (flat_map given_by moves)) ×
    HasWholeTsdus (swapped (awaiting_pair left new (flat_map given_by moves)))
early_whole left right new moves a b sends run = grind (arith, stays_whole, begins, other_way, sent_early left right new moves sends run)

pub early_under_way : (left right new : Standing) (moves : List Move) → IsFresh left → IsFresh right → AllByRecursion OnlySends moves →
    MovesAlong right moves new →
    under_way (swapped (awaiting_pair left new (flat_map given_by moves))) ≡ tsdus_in moves
early_under_way left right new moves a b sends run =
    grind (arith, other_way, whole_kept, sent_early left right new moves sends run, begins right left b a, none_out moves, left_turns moves)
