-- A DT of class 0 of the other side is in flight to the connection that the end has asked for, or has open, and to no other one.
-- For the session of the connection of an end in class 0.
use Rattle.osi_blameless.proofs.Vocabulary.{arith, ◌≡◌, ℕ, Bool, false, List, [], ◌∷◌, ◌++◌, Value, data0, Part}
use Rattle.osi_blameless.proofs.standing.what_is_in_flight_to_an_end.{in_flight_more, known_of}

-- a DT of class 0 is for the connection that the end has asked for, or has open
pub zero_grows : (is_live : ℕ → Bool) (coming : List Value) (end : Bool) (user : List ℕ) (r : ℕ) (later : List Part) →
    known_of is_live coming r later → known_of is_live (coming ++ data0 end user ∷ []) r (later ++ (end, user) ∷ [])
zero_grows is_live coming end user r later sure live = grind (arith, in_flight_more r coming (data0 end user ∷ []))

-- and there is no other one
pub zero_stays : (is_live : ℕ → Bool) (coming : List Value) (end : Bool) (user : List ℕ) (r : ℕ) (later : List Part) → is_live r ≡ false →
    known_of is_live coming r later → known_of is_live (coming ++ data0 end user ∷ []) r later
zero_stays is_live coming end user r later gone sure live = grind arith
