-- The sending side: what is to be sent of each TSDU, the part that was given last, and the buffer that it is in.
use Rattle.std.specs.Prelude.{ℕ, Bool, List}

-- `room`: the octets that the buffer has room for; `is_owned`: it was handed in with its TSDU
pub record Sending : Type 0 where
  pub unsent : List (List ℕ)
  pub part : List ℕ
  pub room : ℕ
  pub is_owned : Bool
