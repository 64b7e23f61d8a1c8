-- Calls of one link that succeeded, with their input and output. Calls that were refused or that had no result change
-- nothing, and are left out.
use Rattle.std.specs.Prelude.{◌≡◌, ℕ, List, [], ◌∷◌, Some, Ok}
use Rattle.std.specs.List.{flat_map}
use Rattle.osi_tpdu.specs.Value.{Value, data0, data2}
use Rattle.osi_class.specs.Link.{Standing, Given, part0, part2, ack, with_tsdu, next, taken, Hands}
use Rattle.osi_class.specs.Tsdus.{Part}

-- `send_tsdu` with this TSDU; `next_out` with this answer; `take` with this unit; `next_tsdu` with
-- this answer
pub data Move : Type 0 where
  hand_in : List ℕ → Move
  give_out : Given → Move
  take_in : Value → Move
  hand_out : List ℕ → Move

abbrev pub Moves : Move → Standing → Standing → Type 0
Moves (hand_in tsdu) old new = new ≡ with_tsdu old tsdu
Moves (give_out unit) old new = next old ≡ Some (unit, new)
Moves (take_in unit) old new = taken old unit ≡ Ok new
Moves (hand_out tsdu) old new = Hands (Some tsdu) old new

-- one after the other
abbrev pub MovesAlong : Standing → List Move → Standing → Type 0
MovesAlong old [] new = new ≡ old
MovesAlong old (move ∷ moves) new = (mid : Standing) × Moves move old mid × MovesAlong mid moves new

abbrev pub given_parts : Given → List Part
given_parts (part0 end octets) = (end, octets) ∷ []
given_parts (part2 number end octets) = (end, octets) ∷ []
given_parts (ack number credit) = []

abbrev pub unit_parts : Value → List Part
unit_parts (data0 end octets) = (end, octets) ∷ []
unit_parts (data2 destination number end octets) = (end, octets) ∷ []
unit_parts unit = []

-- the TSDU that was handed in
abbrev pub tsdu_in : Move → List (List ℕ)
tsdu_in (hand_in tsdu) = tsdu ∷ []
tsdu_in move = []

-- the part that was given
abbrev pub part_out : Move → List Part
part_out (give_out unit) = given_parts unit
part_out move = []

-- the part that was taken
abbrev pub part_in : Move → List Part
part_in (take_in unit) = unit_parts unit
part_in move = []

-- the TSDU that was handed out
abbrev pub tsdu_out : Move → List (List ℕ)
tsdu_out (hand_out tsdu) = tsdu ∷ []
tsdu_out move = []

abbrev pub tsdus_in : List Move → List (List ℕ)
tsdus_in moves = flat_map tsdu_in moves

abbrev pub parts_out : List Move → List Part
parts_out moves = flat_map part_out moves

abbrev pub parts_in : List Move → List Part
parts_in moves = flat_map part_in moves

abbrev pub tsdus_out : List Move → List (List ℕ)
tsdus_out moves = flat_map tsdu_out moves
