-- How many octets still arrive once the byte connection is broken.
use Rattle.std.specs.Prelude.{ℕ, ◌-◌, min, Option, Some, None}
use Rattle.osi_pair.specs.declared.reach.Reach.{Reach}
use Rattle.osi_pair.specs.declared.sides.Side.{Side}
use Rattle.osi_pair.specs.declared.sides.Side.TheVariants.{Left, Right}

abbrev pub reach_of : Side → Reach → ℕ
reach_of Left r = r.left
reach_of Right r = r.right

-- how many of these octets of a side can be carried
abbrev pub within : Option Reach → Side → ℕ → ℕ
within None side octets = octets
within (Some r) side octets = min octets (reach_of side r)

abbrev pub less_by : Side → ℕ → Reach → Reach
less_by Left n r = record r { left = r.left - n }
less_by Right n r = record r { right = r.right - n }

-- this many octets of a side were carried
abbrev pub reach_after : Side → ℕ → Option Reach → Option Reach
reach_after side n None = None
reach_after side n (Some r) = Some (less_by side n r)
