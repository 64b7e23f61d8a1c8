-- What is seen of an end does not depend on what is pending, or on what was sent: its sessions, and the answer to a call.
use Rattle.osi_stack.proofs.Vocabulary.{Rows, value_at, Call as SessionCall, call_error, quieted, hushed, put_back, Line, End, session_in}
use Rattle.osi_stack.proofs.Vocabulary.{option_map, ◌≡◌, ℕ, List, [], ◌∷◌, refl, ap, ◌∙◌, arith}

-- a line for which nothing is pending
abbrev pub hush : Line → Line
hush line = record line { waiting = [] }

pub quieted_value : (r : ℕ) (lines : Rows Line) → value_at r (quieted lines) ≡ option_map hush (value_at r lines)
quieted_value r [] = refl
quieted_value r ((q, line) ∷ lines) = grind (arith, quieted_value r lines)

pub quieted_at : (r : ℕ) (lines : Rows Line) → session_in (value_at r (quieted lines)) ≡ session_in (value_at r lines)
quieted_at r lines = ap session_in (quieted_value r lines) ∙ (grind arith)

-- ---- the answer to a call

pub call_apart : (o : List ℕ) (r : ℕ) (call : SessionCall) (e : End) → call_error r call (put_back o e) ≡ call_error r call e
call_apart o r call e = grind arith

pub call_hushed : (r : ℕ) (call : SessionCall) (e : End) → call_error r call (hushed e) ≡ call_error r call e
call_hushed r call e = grind (arith, quieted_at)
