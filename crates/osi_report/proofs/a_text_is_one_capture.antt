-- A text is one capture: for `a_text_has_one_finding`.
use Rattle.std.proofs.Common.{arith}
use Rattle.osi_report.proofs.Vocabulary.{◌≡◌, List, ℕ, Capture, IsCaptureOf}

pub one_text : (text : List ℕ) (some others : Capture) → IsCaptureOf text some → IsCaptureOf text others → some ≡ others
one_text text some others h k = grind arith
