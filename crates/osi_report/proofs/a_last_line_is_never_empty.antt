-- No last line is empty, and the one that says that both sides kept the protocol says that all was judged: for the laws.
use Rattle.std.proofs.Common.{arith}
use Rattle.osi_report.proofs.Vocabulary.{◌≡◌, true, false, ◌&&◌, Bool, ℕ, List, [], Option, Some, None, Direction, Violation, Mark, First}
use Rattle.osi_report.proofs.Vocabulary.{Layer, State, Last, Pair, last_line, IsLast, IsLastBy, IsFirstLast, all_keep, carried, is_clear}
use Rattle.osi_report.proofs.Vocabulary.{kept_last, NobodyIs, some_over}
use Rattle.osi_side.specs.declared.directions.Direction.TheVariants as side
use Rattle.osi_judge.specs.declared.marks.Layer.TheVariants as layer
use Rattle.osi_report.specs.declared.reports.Last.TheVariants.{BothKept, Broke, Left, Transport, TooManySessions, TooManyConnections}
use Rattle.osi_report.specs.declared.reports.Last.TheVariants.{Limit, NoOctets, OneDirection, BeginsLate}
use Rattle.osi_report.specs.ReportTexts.{mark_first}
use Rattle.osi_report.specs.ToldTexts.{first_text, broke_first, left_first}

-- ---- words

abbrev HasWords : List ℕ → Type 0
HasWords line = line ≡ [] → ⊥

broke_words : (d : Direction) (offset : ℕ) (by : Violation) → HasWords (broke_first d offset by)
unfolding broke_first first_text
broke_words d offset by e = grind arith

left_words : (d : Direction) (offset : ℕ) (by : Violation) → HasWords (left_first d offset by)
unfolding left_first first_text
left_words d offset by e = grind arith

mark_words : (d : Direction) (m : Mark) → HasWords (mark_first d m)
unfolding mark_first first_text
mark_words d m e = grind arith

pub last_words : (last : Last) → HasWords (last_line last)
last_words BothKept e = grind arith
last_words (Broke d offset by) e = broke_words d offset by e
last_words (Left d offset by) e = left_words d offset by e
last_words (Transport d m) e = mark_words d m e
last_words TooManySessions e = grind arith
last_words Limit e = grind arith
last_words TooManyConnections e = grind arith
last_words NoOctets e = grind arith
last_words OneDirection e = grind arith
last_words BeginsLate e = grind arith

-- ---- both sides kept the protocol

kept_by : (left right all over : Bool) → BothKept ≡ kept_last (left && right) all over
    → (left ≡ true) × (right ≡ true) × (all ≡ true) × (over ≡ false)
kept_by left right all over e = grind arith

abbrev AllIsJudged : State → List Pair → Type 0
AllIsJudged s ps = (is_clear (carried side.Left s) ≡ true) × (is_clear (carried side.Right s) ≡ true) × (all_keep ps ≡ true)
    × (some_over ps ≡ false) × NobodyIs s.course.sessions

kept_if : (o : Option First) (s : State) (ps : List Pair) → IsLastBy o s ps BothKept → AllIsJudged s ps
kept_if None s ps h =
    let k = kept_by (is_clear (carried side.Left s)) (is_clear (carried side.Right s)) (all_keep ps) (some_over ps) h.is in
    (k.0, k.1, k.2, k.3, h.nobody)
kept_if (Some f) s ps h = absurd (no_break f.layer s f h)
  where
    no_break : (l : Layer) (s : State) (f : First) → IsFirstLast l s f BothKept → ⊥
    no_break layer.Session s f h = grind arith
    no_break layer.Transport s f h = grind arith

pub both_kept : (s : State) (ps : List Pair) → IsLast s ps BothKept → AllIsJudged s ps
both_kept s ps h = kept_if h.first s ps h.says
