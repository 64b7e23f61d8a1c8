-- How far a cutter has come with the packet whose octets it holds.
use Rattle.std.specs.Prelude.{◌≡◌, ℕ, ◌<◌, ◌^◌, List, [], length, Option, Some, None}
use Rattle.osi_tpkt.specs.Header.{IsFront, IsFull, IsUnfinished}
use Rattle.osi_tpkt.specs.declared.faults.TpktFault.{TpktFault}
use Rattle.osi_tpkt.specs.declared.faults.TpktFault.TheVariants.{BadVersion, BadLength}
use Rattle.osi_tpkt.specs.declared.cutting.Progress.{Progress}
use Rattle.osi_tpkt.specs.declared.cutting.Progress.TheVariants.{Awaited, Partial, Stopped}
use Rattle.osi_tpkt.specs.declared.cutting.Stop.TheVariants.{Whole, Version, Length}

-- the fault that is kept, of octets at this offset
abbrev pub fault_of : ℕ → Progress → Option TpktFault
fault_of at Awaited = None
fault_of at Partial = None
fault_of at (Stopped Whole) = None
fault_of at (Stopped Version) = Some (BadVersion at)
fault_of at (Stopped Length) = Some (BadLength at)

-- the octets held at each stage: none while a packet is awaited, and no complete packet after a fault
abbrev pub FitsProgress : List ℕ → Progress → Type 0
FitsProgress octets Awaited = octets ≡ []
FitsProgress octets Partial = IsFront octets × IsUnfinished octets × (0 < length octets)
FitsProgress octets (Stopped Whole) = IsFront octets × IsFull octets
FitsProgress octets (Stopped Version) = IsFront octets × IsUnfinished octets
FitsProgress octets (Stopped Length) = IsFront octets × IsUnfinished octets

-- what is true of what a cutter holds
pub record IsKept (at : ℕ) (octets : List ℕ) (stage : Progress) : Type 0 where
  pub offset : at < 2 ^ 64
  pub progress : FitsProgress octets stage
