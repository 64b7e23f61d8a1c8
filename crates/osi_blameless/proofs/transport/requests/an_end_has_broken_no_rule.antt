-- A side that has broken no rule has broken none after a unit of the other side, or after one of its own that breaks none; and what
-- is noted of a unit. For the laws on whole ends.
use Rattle.osi_blameless.proofs.transport.Vocabulary.{arith, breaks_are_noted, Course, Direction, false, Finding, has_erred, is_break, Kept}
use Rattle.osi_blameless.proofs.transport.Vocabulary.{noted}
use Rattle.osi_blameless.proofs.transport.Vocabulary.{NotJudged, other, refused, takes, TooMany, Traffic as State, Value, ◌∙◌, ◌≡◌, ◌⊎◌}

-- ---- what is noted of a unit

noted_other : (d : Direction) (f : Finding) (c : Course) → has_erred d (noted (other d) f c) ≡ has_erred d c
noted_other d f c = grind arith

-- of its own
noted_own : (d : Direction) (f : Finding) (c : Course) → is_break f ≡ false → has_erred d (noted d f c) ≡ has_erred d c
noted_own d f c h = grind arith

-- ---- a unit passes

pub other_fine : (d : Direction) (v : Value) (s : State) → has_erred d s.course ≡ false →
    has_erred d (takes (other d) v s).state.course ≡ false
other_fine d v s h = breaks_are_noted (other d) v s d ∙ noted_other d (takes (other d) v s).told.finding s.course ∙ h

pub own_fine : (d : Direction) (v : Value) (s : State) → is_break (takes d v s).told.finding ≡ false → has_erred d s.course ≡ false →
    has_erred d (takes d v s).state.course ≡ false
own_fine d v s mild h = breaks_are_noted d v s d ∙ noted_own d (takes d v s).told.finding s.course mild ∙ h

pub rubbish_fine : (d e : Direction) (s : State) → has_erred d s.course ≡ false → has_erred d (refused e s).course ≡ false
rubbish_fine d e s h = (grind arith) ∙ h

-- a finding that blames nobody
pub mild_not : (f : Finding) → (f ≡ Kept) ⊎ ((f ≡ TooMany) ⊎ (f ≡ NotJudged)) → is_break f ≡ false
mild_not f h = grind arith
