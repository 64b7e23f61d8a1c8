-- The text of a judgement is that of a report, or says why nothing is judged: for `judgement_by`.
use Rattle.std.proofs.Common.{arith}
use Rattle.osi_report.proofs.Vocabulary.{◌≡◌, subst, refl, ℕ, List, [], Option, Some, None, Capture, State, comes_to}
use Rattle.osi_report.proofs.Vocabulary.{AddsJudgement, All, IsReached, Judges, Last}

-- what is added to no text
added_first : (why : Option Last) (s : State) (lines : List ℕ) (status : ℕ) → AddsJudgement why s [] lines status
    → Judges why s lines status
added_first None s lines status h = grind arith
added_first (Some last) s lines status h = grind arith

pub judges_as : (why : Option Last) (s : State) (old lines : List ℕ) (status : ℕ) → old ≡ [] → AddsJudgement why s old lines status
    → Judges why s lines status
judges_as why s old lines status e h =
    added_first why s lines status (subst (λ (x : List ℕ). AddsJudgement why s x lines status) e h)

-- what a capture comes to, if of each connection all is judged
pub all_reached : (capture : Capture) → IsReached (comes_to capture)
all_reached capture = record { room = All; capture = capture; is = refl }
