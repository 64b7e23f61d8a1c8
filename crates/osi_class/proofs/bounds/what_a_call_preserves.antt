-- What one call of a link preserves, and a list of calls.
use Rattle.std.proofs.Common.{arith, ◌≡◌, ℕ, List, [], ◌∷◌, ◌++◌, Option, sym, ap, IfSome}
use Rattle.osi_class.proofs.Vocabulary.{append_assoc, Value, Ends, Flow, Standing, Given, next_by, next, taken, Move, hand_in, give_out}
use Rattle.osi_class.proofs.Vocabulary.{take_in, hand_out, Moves, MovesAlong, given_parts, unit_parts, tsdu_in, part_out, part_in, tsdu_out}
use Rattle.osi_class.proofs.Vocabulary.{tsdus_in, parts_out, parts_in, tsdus_out, Part, tsdus_after, uncut, MakeTheSame, take-append-drop}
use Rattle.osi_class.proofs.between.parts_stay_in_order.{choose_some, choose_ok, at_some, at_ok, same_behind_all, made}

-- what a call preserves of what is sent, with these parts given and these TSDUs handed in
pub record Sends (old new : Ends) (ps : List Part) (ts : List (List ℕ)) : Type 0 where
  pub same : (later : List (List ℕ)) → MakeTheSame (ps ++ uncut (new.unsent ++ later)) (uncut (old.unsent ++ (ts ++ later)))

-- and of what is taken, with these parts taken and these TSDUs handed out
pub record Takes (old new : Ends) (ps : List Part) (ts : List (List ℕ)) : Type 0 where
  pub same : (later : List Part) → made old.joining (ps ++ later) ≡ ts ++ made new.joining later

pub record Keeps (old new : Ends) (ps : List Part) (ts : List (List ℕ)) (qs : List Part) (us : List (List ℕ)) : Type 0 where
  pub sends : Sends old new ps ts
  pub takes : Takes old new qs us

-- what an answer of next_out keeps
abbrev pub NextKeeps : Ends → Given × Standing → Type 0
NextKeeps e (g, new) = Keeps e new.ends (given_parts g) [] [] []

next_keeps : (e : Ends) (flow : Option Flow) → IfSome (next_by e flow) (NextKeeps e)
next_keeps e flow = grind (arith, append_assoc, take-append-drop, choose_some, made)

-- what taking a unit keeps
abbrev pub TakenKeeps : Ends → Value → Standing → Type 0
TakenKeeps e unit new = Keeps e new.ends [] [] (unit_parts unit) []

-- each call keeps both
pub move_keeps : (move : Move) (old new : Standing) → Moves move old new →
    Keeps old.ends new.ends (part_out move) (tsdu_in move) (part_in move) (tsdu_out move)
move_keeps (hand_in tsdu) old new e = grind (arith, append_assoc)
move_keeps (give_out unit) old new e = at_some (NextKeeps old.ends) (next old) (unit, new) (next_keeps old.ends old.flow) e
move_keeps (take_in unit) old new e = at_ok (TakenKeeps old.ends unit) (taken old unit) new (grind (arith, choose_ok, append_assoc)) e
move_keeps (hand_out tsdu) old new e = grind arith

-- and so does a list of calls
pub sends_run : (old new : Standing) (moves : List Move) → MovesAlong old moves new →
    (later : List (List ℕ)) →
    MakeTheSame (parts_out moves ++ uncut (new.ends.unsent ++ later)) (uncut (old.ends.unsent ++ (tsdus_in moves ++ later)))
sends_run old new [] e later begun = ap (λ (s : Standing). tsdus_after begun (uncut (s.ends.unsent ++ later))) e
sends_run old new (move ∷ moves) (mid, first, rest) later begun =
    grind (
      arith,
      same_behind_all,
      move_keeps move old mid first,
      append_assoc (part_out move) (parts_out moves) (uncut (new.ends.unsent ++ later)),
      append_assoc (tsdu_in move) (tsdus_in moves) later,
      sends_run mid new moves rest later,
    )

pub takes_run : (old new : Standing) (moves : List Move) (later : List Part) → MovesAlong old moves new →
    made old.ends.joining (parts_in moves ++ later) ≡ tsdus_out moves ++ made new.ends.joining later
takes_run old new [] later e = ap (λ (s : Standing). made s.ends.joining later) (sym e)
takes_run old new (move ∷ moves) later (mid, first, rest) =
    grind (arith, move_keeps, made, append_assoc, takes_run mid new moves later rest)
