-- The TSDUs that a link holds, both ways.
use Rattle.std.specs.Prelude.{ℕ, ◌^◌, List, [], Option, Some, None}
use Rattle.osi_tpdu.specs.Limits.{size_code}
use Rattle.osi_tpdu.specs.declared.limits.SizeCode.{SizeCode}
use Rattle.osi_class.specs.Joining.{Joining}

-- a unit carries at most `limit` octets
pub record Ends : Type 0 where
  pub limit : ℕ
  pub unsent : List (List ℕ)
  pub joining : Joining

-- the most octets of a unit, header included: the selected size, and 128 without one
abbrev pub unit_size : Option SizeCode → ℕ
unit_size None = 128
unit_size (Some size) = 2 ^ size_code size

abbrev pub fresh_ends : ℕ → Ends
fresh_ends limit = record { limit = limit; unsent = []; joining = record { begun = []; whole = [] } }
