-- Two pairs of ends in the same state, and ends for which there was memory.
use Rattle.std.specs.Prelude.{◌≡◌, ◌≢◌, ◌<◌, ◌^◌, None, Some}
use Rattle.osi_carrier.specs.declared.ends.EndReason.TheVariants.{NoMemory}
use Rattle.osi_stack.specs.State.{Holding}
use Rattle.osi_pair.specs.Ends.{TwoEnds, end_at}
use Rattle.osi_pair.specs.declared.sides.Side.{Side}

-- The same end, with the same octets of the unfinished packet, at the same place of the stream while the end lasts. The
-- room for the octets of a packet may differ: it decides only whether an allocation is needed.
pub record IsSameEnd (a b : Holding) : Type 0 where
  pub end : a.end ≡ b.end
  pub octets : a.held.octets ≡ b.held.octets
  pub offset : a.end.carrier.ended ≡ None → a.held.offset ≡ b.held.offset
  pub counted : a.end.carrier.ended ≡ None → a.held.offset < 2 ^ 64

-- the same two ends, with the same reach and the same journal
pub record AreSameEnds (p q : TwoEnds) : Type 0 where
  pub left : IsSameEnd p.left q.left
  pub right : IsSameEnd p.right q.right
  pub reach : p.reach ≡ q.reach
  pub journal : p.journal ≡ q.journal

-- no side has ended because memory ran out
abbrev pub FoundMemory : TwoEnds → Type 0
FoundMemory p = (side : Side) → (end_at side p).end.carrier.ended ≢ Some NoMemory
