-- The text of the judgement of what passed.
use Rattle.std.specs.Prelude.{◌≡◌, ◌∷◌, ℕ, List, [], Option, Some, None}
use Rattle.osi_side.specs.Captures.{Capture, stream}
use Rattle.osi_side.specs.declared.directions.Direction.TheVariants.{Left}
use Rattle.osi_judge.specs.Standing.{IsSettled}
use Rattle.osi_report.specs.Disputes.{Judges}
use Rattle.osi_report.specs.Openings.{unjudged_in}
use Rattle.osi_c.specs.Codes.{coded}
use Rattle.osi_c.specs.Fed.{fed, WasFed}
use Rattle.osi_c.specs.Judges.{Knows, Keeps}
use Rattle.osi_c.specs.Subjects.{told_by}
use Rattle.osi_c.specs.declared.judgements.Written.{Written}
use Rattle.osi_c.specs.declared.judgements.Written.TheVariants as written
use Rattle.osi_c.specs.declared.judges.HeldJudge.{HeldJudge}

-- what `osi judge` prints for whatever the judge was fed: a report, or why nothing is judged
abbrev pub IsTextOf : HeldJudge → List ℕ → Type 0
IsTextOf w text = (capture : Capture) → WasFed w capture
    → (status : ℕ) × Judges (unjudged_in (fed capture) (stream Left capture)) (fed capture) text status

-- all that passed is judged, and the text says what it comes to
pub record WritesText (old new : HeldJudge) : Type 0 where
  pub knows : (capture : Capture) → Knows old capture → Knows new capture
  pub settled : IsSettled new.judge
  pub text : IsTextOf new new.text.items
  pub told : told_by new.told ≡ told_by old.told

-- if memory ran out the text is as it was
abbrev pub HasWritten : Written → HeldJudge → HeldJudge → Type 0
HasWritten written.Text old new = WritesText old new
HasWritten written.NoMemory old new = Keeps old new

-- The answer to writing.
pub data Writing : Type 0 where
  Done : Writing
  NoJudge : Writing
  NoMemory : Writing

abbrev pub writing_of : ℕ → Option Writing
writing_of = coded ((0, Done) ∷ (1, NoJudge) ∷ (3, NoMemory) ∷ [])

-- for a slot
abbrev pub Writes : Option Writing → Option HeldJudge → Option HeldJudge → Type 0
Writes (Some Done) (Some old) (Some new) = WritesText old new
Writes (Some NoMemory) (Some old) (Some new) = Keeps old new
Writes (Some NoJudge) None new = new ≡ None
Writes answer old new = ⊥

-- the text that was written last; none for an empty slot
abbrev pub last_text : Option HeldJudge → List ℕ
last_text None = []
last_text (Some w) = w.text.items
