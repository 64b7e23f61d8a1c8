-- The break that is told as the first stays so, whatever breaks pass later: for the functions that tell of one.
use Rattle.std.proofs.Common.{arith}
use Rattle.osi_judge.proofs.Vocabulary.{◌≡◌, ◌∙◌, ap, Bool, if◌then◌else◌, Option, Some, option_or, First, Session, Mark, first_by, IsFirst}

-- of a break of transport
pub transport_told : (m : Mark) (t f : Option First) → IsFirst t f → IsFirst (first_by m t) (first_by m f)
transport_told m t f h = grind arith

-- of a break of a session
pub session_told : (b : Bool) (s : First) (t f : Option First) → s.layer ≡ Session → IsFirst t f
    → IsFirst (if b then option_or t (Some s) else t) f
session_told b s t f e h = grind arith

pub session_kept : (b : Bool) (s f : First) (t : Option First) → t ≡ Some f → (if b then option_or t (Some s) else t) ≡ Some f
session_kept b s f t e = ap (λ (o : Option First). if b then option_or o (Some s) else o) e ∙ (grind arith)
