-- The parts of TSDUs that are in flight to an end at one of its connections: as units of the other side pass, and as the end takes some.
-- For all connections of an end and a judge.
use Rattle.osi_blameless.proofs.Vocabulary.{[], ap, Bool, false, List, refl, Some, sym, true, ℕ, ◌++◌, ◌∙◌, ◌∷◌, ◌≡◌, flat_map-append}
use Rattle.osi_blameless.proofs.Vocabulary.{append-nil, Value, Move, parts_in, take_in, unit_parts, Part, Deeds, units_taken, picked_first}
use Rattle.osi_blameless.proofs.Vocabulary.{picked_join, picked_rest, parts_of, give_out, hand_in, hand_out, arith}
use Rattle.osi_blameless.proofs.standing.what_stands_of_a_connection.{Known, Takes, is_for, waiting_for}

-- for the connection to which the end gave this reference, among the units that have passed and that the end has not used
abbrev pub in_flight : ℕ → List Value → List Part
in_flight r coming = parts_of (waiting_for (Some r) coming)

-- As long as the end has asked for the connection, or has it open, what is left over of its parts is in flight.
abbrev pub known_of : (ℕ → Bool) → List Value → Known
known_of is_live coming r later = is_live r ≡ true → later ≡ in_flight r coming

-- the parts that a link took are those of the units that it took
pub parts_taken : (moves : List Move) → parts_in moves ≡ parts_of (units_taken moves)
parts_taken [] = refl
parts_taken (take_in unit ∷ moves) = ap (λ (l : List Part). unit_parts unit ++ l) (parts_taken moves)
parts_taken (give_out unit ∷ moves) = parts_taken moves
parts_taken (hand_in tsdu ∷ moves) = parts_taken moves
parts_taken (hand_out tsdu ∷ moves) = parts_taken moves

pub in_flight_more : (r : ℕ) (some more : List Value) → in_flight r (some ++ more) ≡ in_flight r some ++ in_flight r more
in_flight_more r some more = grind (arith, picked_join, is_for, flat_map-append, waiting_for)

-- it takes nothing there
pub takes_none : (more : Deeds) (known : List Part → Type 0) (later : List Part) → units_taken more.calls ≡ [] → known later →
    Takes more later known
takes_none more known later none sure = grind (arith, parts_taken)

-- ---- a unit of the other side passes

-- a unit that adds to no TSDU
pub flight_same : (is_live : ℕ → Bool) (coming : List Value) (v : Value) (r : ℕ) (later : List Part) → unit_parts v ≡ [] →
    known_of is_live coming r later → known_of is_live (coming ++ v ∷ []) r later
flight_same is_live coming v r later none sure live =
    sure live ∙ sym (grind (arith, in_flight_more r coming (v ∷ []), is_for (Some r) v, append-nil (in_flight r coming)))
  where
    by : (b : Bool) → is_for (Some r) v ≡ b → in_flight r (v ∷ []) ≡ []
    by true e = ap parts_of (picked_first (is_for (Some r)) v [] e) ∙ ap (λ (l : List Part). l ++ []) none
    by false e = ap parts_of (picked_rest (is_for (Some r)) v [] e)
