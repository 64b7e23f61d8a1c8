-- The law of order between two links.
use Rattle.std.proofs.Common.{arith, ◌≡◌, ℕ, List, [], ◌∷◌, ◌++◌, map, sym, ap, append_assoc}
use Rattle.osi_class.proofs.Vocabulary.{flat_map, flat_map-append, append_cancel_left, Value, Standing, Given, given_parts, unit_parts}
use Rattle.osi_class.proofs.Vocabulary.{LinkPair, swapped, Says, given_by, Turn, at_left, at_right, Turns, TurnsAlong, opposite, left_in}
use Rattle.osi_class.proofs.Vocabulary.{right_out, under_way_before, under_way, HasWholeTsdus, IsFresh, opened_pair}
use Rattle.osi_class.proofs.between.parts_stay_in_order.{append_nil, same_behind_all, uncut_tsdus, made}
use Rattle.osi_class.proofs.bounds.what_a_call_preserves.{move_keeps}

said_parts : (unit : Value) (given : Given) → Says unit given → unit_parts unit ≡ given_parts given
said_parts unit given says = grind (arith, append_nil)

turn_keeps : (turn : Turn) (old new : LinkPair) → Turns turn old new → (later : List (List ℕ)) →
    under_way_before old (left_in turn ++ later) ≡ right_out turn ++ under_way_before new later
turn_keeps (at_left move) old new m later =
    grind (
      arith,
      same_behind_all,
      made,
      append_assoc,
      move_keeps move old.left new.left m.moves,
      flat_map-append given_parts old.rightward (given_by move),
    )
turn_keeps (at_right move) old new m later = grind (arith, move_keeps, made, append_assoc)

pub turns_keep : (old new : LinkPair) (turns : List Turn) (later : List (List ℕ)) → TurnsAlong old turns new →
    under_way_before old (flat_map left_in turns ++ later) ≡ flat_map right_out turns ++ under_way_before new later
turns_keep old new [] later e = ap (λ (p : LinkPair). under_way_before p later) (sym e)
turns_keep old new (turn ∷ turns) later (mid, first, rest) = grind (arith, append_assoc, turn_keeps, turns_keep mid new turns later rest)

-- what is in flight is whole, so that what is handed in comes after it
pub whole_kept : (old new : LinkPair) (turns : List Turn) → HasWholeTsdus old → TurnsAlong old turns new →
    under_way old ++ flat_map left_in turns ≡ flat_map right_out turns ++ under_way new
whole_kept old new turns whole run = grind (arith, append_nil (flat_map left_in turns), turns_keep old new turns [] run)

pub stays_whole : (old new : LinkPair) (turns : List Turn) → HasWholeTsdus old → TurnsAlong old turns new → HasWholeTsdus new
stays_whole old new turns whole run later = search (arith, append_cancel_left, turns_keep, append_assoc, whole_kept)

pub other_way : (old new : LinkPair) (turns : List Turn) → TurnsAlong old turns new →
    TurnsAlong (swapped old) (map opposite turns) (swapped new)
other_way old new [] e = ap swapped e
other_way old new (at_left move ∷ turns) (mid, first, rest) = (swapped mid, first, other_way mid new turns rest)
other_way old new (at_right move ∷ turns) (mid, first, rest) = (swapped mid, first, other_way mid new turns rest)

pub begins : (left right : Standing) → IsFresh left → IsFresh right →
    HasWholeTsdus (opened_pair left right) × (under_way (opened_pair left right) ≡ [])
begins left right a b = grind (arith, uncut_tsdus)
