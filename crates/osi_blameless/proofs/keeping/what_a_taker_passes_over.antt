-- A unit that is no break, or a break that its taker passes over: it takes the unit all the same, or, if it is a DR, answers it.
-- For the sessions of an end after such a break of the other side.
use Rattle.osi_blameless.proofs.Vocabulary.{arith, ◌≡◌, true, false, Option, Value, disconnect, Class, Finding, Broke, Kept, NotJudged}
use Rattle.osi_blameless.proofs.Vocabulary.{Outside, TooMany, Rule, is_applied, reach_of}
use Rattle.osi_rules.specs.declared.findings.Reach.TheVariants as reach
use Rattle.osi_rules.specs.declared.findings.Rule.TheVariants as rule
use Rattle.osi_blameless.proofs.keeping.no_unit_of_a_whole_end_is_a_break.{IsNoBreak}
pub use Rattle.osi_blameless.proofs.shown.a_dt_that_is_no_break_is_right.{IsClear}

abbrev pub IsDr : Value → Type 0
IsDr (disconnect n source reason user) = Unit {0}
IsDr v = ⊥

-- no break, or one that is passed over
abbrev pub IsMild : Value → Finding → Type 0
IsMild v Kept = Unit {0}
IsMild v NotJudged = Unit {0}
IsMild v TooMany = Unit {0}
IsMild v Outside = ⊥
IsMild v (Broke rule.NoCredit) = Unit {0}
IsMild v (Broke rule.SizeExceeded) = Unit {0}
IsMild v (Broke rule.LargerSize) = Unit {0}
IsMild v (Broke rule.Closed) = IsDr v
IsMild v (Broke r) = ⊥

pub mild_of : (v : Value) (f : Finding) → IsNoBreak f → IsMild v f
mild_of v f none = grind arith

-- ---- a DT or an AK

pub applied_of : (v : Value) (f : Finding) → (IsDr v → ⊥) → IsClear f → IsMild v f → is_applied f ≡ true
applied_of v f h h2 mild = grind arith

-- ---- how far it reaches

pub mild_reach : (v : Value) (k : Option Class) (f : Finding) → IsMild v f → (f ≡ TooMany → ⊥) → reach_of k f ≡ reach.Nothing
mild_reach v k f mild few = grind arith

-- a unit is such a one; or a DT or an AK of a side that has closed its connection; or it has no effect, and ends judging
pub data Sort (v : Value) (f : Finding) : Type 0 where
  is_mild : IsMild v f → Sort v f
  is_shut : f ≡ Broke rule.Closed → (IsDr v → ⊥) → Sort v f
  is_hard : is_applied f ≡ false → ((k : Option Class) → reach_of k f ≡ reach.Nothing → ⊥) → Sort v f

rule_sort : (v : Value) (r : Rule) → Sort v (Broke r)
rule_sort v r = grind arith

pub sort_of : (v : Value) (f : Finding) → Sort v f
sort_of v f = grind (arith, rule_sort)
