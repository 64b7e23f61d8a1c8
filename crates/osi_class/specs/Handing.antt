-- The TSDU that a link hands out after it took a unit.
use Rattle.std.specs.Prelude.{◌≡◌, ◌≢◌, ℕ, Bool, true, false, List, [], Option, Some, None, Result, Ok, Err}
use Rattle.osi_tpdu.specs.Value.{Value, data0, data2}
use Rattle.osi_class.specs.Link.{Standing}
use Rattle.osi_class.specs.declared.faults.LinkFault.{LinkFault}
use Rattle.osi_class.specs.declared.faults.LinkFault.TheVariants.{OutOfMemory}
use Rattle.osi_class.specs.declared.handing.Handed.{Handed}
use Rattle.osi_class.specs.declared.handing.Handed.TheVariants.{Nothing, Whole, Joined}

-- the octets of a DT
abbrev pub user_of : Value → List ℕ
user_of (data0 end octets) = octets
user_of (data2 destination number end octets) = octets
user_of unit = []

-- EOT: a DT that ends its TSDU
abbrev pub ends_tsdu : Value → Bool
ends_tsdu (data0 end octets) = end
ends_tsdu (data2 destination number end octets) = end
ends_tsdu unit = false

-- the TSDU that is handed out after a unit with these octets
abbrev pub tsdu_handed : List ℕ → Handed → Option (List ℕ)
tsdu_handed octets Nothing = None
tsdu_handed octets Whole = Some octets
tsdu_handed octets (Joined tsdu) = Some tsdu.items

-- A unit that is a whole TSDU, at a link that joins no other and at which none waits.
pub record IsAlone (s : Standing) (unit : Value) : Type 0 where
  pub begun : s.ends.joining.begun ≡ []
  pub none : s.ends.joining.whole ≡ []
  pub ends : ends_tsdu unit ≡ true

-- its octets are the TSDU, and no memory is needed
abbrev pub IsLent : Result Handed LinkFault → Type 0
IsLent (Ok handed) = handed ≡ Whole
IsLent (Err fault) = fault ≢ OutOfMemory
