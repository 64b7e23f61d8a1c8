-- What is found of both sides stays where a unit changes neither: for the function that gives a unit to a connection.
use Rattle.std.proofs.Common.{arith}
use Rattle.osi_judge.proofs.Vocabulary.{◌≡◌, Direction, Connection, line_in}

pub lines_stay : (d : Direction) (c e : Connection) → e.left ≡ c.left → e.right ≡ c.right
    → (line_in d e).side.finding ≡ (line_in d c).side.finding
lines_stay d c e l r = grind arith
