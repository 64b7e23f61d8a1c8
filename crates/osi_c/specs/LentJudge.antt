-- What a slot lends, and what it holds afterwards.
use base.Fml.{Fml}
use denote.Ref.{MutBor}
use denote.Follow.{follows, follows_so}
use mathlib.Core.Option.{none}
use Rattle.std.specs.Prelude.{◌≡◌, true, refl, ⊤}
use Rattle.std.specs.declared.option.Option.TheVariants.{Some}
use Rattle.osi_c.specs.contracts.judges.HeldJudge.{the_row as contents_row}
use Rattle.osi_c.specs.contracts.judge_slots.OsiJudge.{the_row}
use Rattle.osi_c.specs.declared.judges.HeldJudge.{HeldJudge}
use Rattle.osi_c.specs.declared.judge_slots.OsiJudge.{OsiJudge}

-- the slot with other contents
abbrev pub holding : OsiJudge → HeldJudge → OsiJudge
holding s x = record { full = true; inner = record { at = s.inner.at; value = Some x }; tied = refl }

-- once the borrow r ends, the slot after s holds the last value written through r
abbrev pub LendsSlot : MutBor OsiJudge → MutBor HeldJudge → Fml
LendsSlot s r = follows the_row contents_row s.ghost_name r.ghost_name (holding s.now)

-- once the loan is over, the slot after s holds what it held before
abbrev pub KeepsSlot : MutBor OsiJudge → Fml
KeepsSlot s = follows_so the_row the_row s.ghost_name none (λ _ _. ⊤) (λ last. last.inner.value ≡ s.now.inner.value)
