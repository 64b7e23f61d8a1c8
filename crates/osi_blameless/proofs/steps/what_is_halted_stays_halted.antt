-- A side of which nothing more is judged stays so, whatever passes; and so it is after what can't be read.
-- For what follows what can't be read.
use Rattle.osi_blameless.proofs.Vocabulary.{arith, ◌≡◌, ℕ, Bool, true, Option, is_some, ap, Value, Direction, Reach, Cause, Mark, Course}
use Rattle.osi_blameless.proofs.Vocabulary.{marks_of, noted_by, reached, unread}
use Rattle.osi_blameless.proofs.keeping.a_break_ends_no_judging_or_all.{halted_by, mark, mid, mid_marks, o, some_earlier, unread_if}
use Rattle.osi_blameless.proofs.steps.what_an_octet_does.{begins}
use Rattle.osi_blameless.proofs.steps.what_passes_keeps_a_claim.{IsClaim}

abbrev pub IsHalted : Direction → Course → Type 0
IsHalted e c = is_some (marks_of e c).halted ≡ true

reached_halted : (e : Direction) (m : Mark) (r : Reach) (c : Course) → IsHalted e c → IsHalted e (reached m r c)
reached_halted e m r c h = grind (arith, some_earlier)

noted_halted : (e d : Direction) (at : ℕ) (v : Value) (c : Course) (k : Option Cause) → IsHalted e c →
    IsHalted e (noted_by d at v (o d at v c).told k (mid d at v c))
noted_halted e d at v c k h = grind (arith, mid_marks, mark, mid, reached_halted, o, halted_by)

-- what can't be read changes nothing then
pub unread_same : (d : Direction) (at : ℕ) (k : Cause) (c : Course) → IsHalted d c → unread d at k c ≡ c
unread_same d at k c h = ap (λ (b : Bool). unread_if b d at k c) h

pub halted_claim : (e : Direction) → IsClaim (IsHalted e)
halted_claim e = grind (arith, begins, noted_halted, o)

-- ---- after what can't be read

pub unread_halts : (d : Direction) (at : ℕ) (k : Cause) (c : Course) → IsHalted d (unread d at k c)
unread_halts d at k c = search arith
