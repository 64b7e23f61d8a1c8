-- What a handle owns.
use mir.Syntax.{Ty}
use base.Fml.{Fml, ftrue}
use denote.RattleType.{RattleType}
use denote.RawPtr.{Ptr}
use Rattle.std.specs.declared.option.Option.{Option}
use Rattle.std.specs.declared.option.Option.TheVariants.{None, Some}
use Rattle.std.specs.contracts.impls.GlobalAllocator.TheImpl.{ghosts}
use Rattle.std.specs.Box.Ownership.{box_owns}

-- the right to free a block of the C library
abbrev pub block : Ty → Ptr → Fml
block = ghosts.dealloc_token (record { memory = record { seal = tt } })

-- null, or the box at p with this value
abbrev pub may_own : (T : RattleType) → Ptr → Option T.Denot → Fml
may_own T p None = ftrue
may_own T p (Some x) = box_owns block T p x
