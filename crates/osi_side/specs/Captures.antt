-- A capture of one connection: the octets of both sides, in the order in which they passed.
use Rattle.std.specs.Prelude.{ℕ, zero, suc, ◌+◌, List, [], ◌∷◌, map}
use Rattle.std.specs.List.{flat_map}
use Rattle.osi_side.specs.declared.directions.Direction.{Direction}
use Rattle.osi_side.specs.declared.directions.Direction.TheVariants.{Left, Right}

abbrev pub other : Direction → Direction
other Left = Right
other Right = Left

-- An octet that passed, and the side that sent it. The pieces in which octets arrived play no part.
pub data Passed : Type 0 where
  of : Direction → ℕ → Passed

abbrev pub Capture : Type 0
Capture = List Passed

-- a piece of one side
abbrev pub piece : Direction → List ℕ → Capture
piece d octets = map (of d) octets

abbrev pub own : Direction → Passed → List ℕ
own Left (of Left octet) = octet ∷ []
own Left (of Right octet) = []
own Right (of Left octet) = []
own Right (of Right octet) = octet ∷ []

-- the stream of a side
abbrev pub stream : Direction → Capture → List ℕ
stream d capture = flat_map (own d) capture

-- how many octets of the other side had passed before octet k of a side, counted from 0
abbrev pub passed_before : Direction → Capture → ℕ → ℕ
passed_before d [] k = 0
passed_before Left (of Left octet ∷ capture) zero = 0
passed_before Left (of Left octet ∷ capture) (suc k) = passed_before Left capture k
passed_before Left (of Right octet ∷ capture) k = passed_before Left capture k + 1
passed_before Right (of Right octet ∷ capture) zero = 0
passed_before Right (of Right octet ∷ capture) (suc k) = passed_before Right capture k
passed_before Right (of Left octet ∷ capture) k = passed_before Right capture k + 1
