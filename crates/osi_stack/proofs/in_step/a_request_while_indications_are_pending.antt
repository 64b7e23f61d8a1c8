-- A connection is requested while indications are pending, but only for live connections: the same as if all had been
-- given.
use Rattle.osi_stack.proofs.Vocabulary.{Rows, value_at, Connection, Listener, all_waiting, WaitForLive, quieted, Line, used_lines, ◌≡◌, ℕ}
use Rattle.osi_stack.proofs.Vocabulary.{true, [], ◌∷◌, ◌++◌, is_some, arith}
use Rattle.osi_stack.proofs.in_step.what_is_seen_is_the_same.{hush}
use Rattle.osi_stack.proofs.each_line.the_first_that_indicates.{quiet_line}
use Rattle.osi_stack.proofs.carried.open_connections_stay_open.{used_by, joined_lines}

-- ---- live connections stay so when one is requested

live_push : (r q : ℕ) (c : Connection) (live : Rows Connection) → is_some (value_at r live) ≡ true →
    is_some (value_at r (live ++ (q, c) ∷ [])) ≡ true
live_push r q c [] here = cc
live_push r q c ((p, d) ∷ live) here = grind (arith, live_push r q c live)

pub wait_push : (q : ℕ) (c : Connection) (live : Rows Connection) (lines : Rows Line) → WaitForLive live lines →
    WaitForLive (live ++ (q, c) ∷ []) lines
wait_push q c live [] all = tt
wait_push q c live ((r, line) ∷ lines) all = grind (arith, live_push, wait_push q c live lines all.1)

-- ---- the lines that are kept

-- a new line is added, if indications are pending and if all were given
pub record Joins (live : Rows Connection) (q : ℕ) (s : Listener) (lines : Rows Line) : Type 0 where
  pub same : quieted (used_lines live (joined_lines q s lines)) ≡ quieted (used_lines live (joined_lines q s (quieted lines)))
  pub waiting : all_waiting (used_lines live (joined_lines q s lines)) ≡ all_waiting lines
  pub none : all_waiting (used_lines live (joined_lines q s (quieted lines))) ≡ []

pub joins_alike : (live : Rows Connection) (q : ℕ) (s : Listener) (lines : Rows Line) → WaitForLive live lines → Joins live q s lines
joins_alike live q s [] all = grind arith
joins_alike live q s ((p, y) ∷ lines) all = grind (arith, hush, used_by, joined_lines, quiet_line, joins_alike live q s lines all.1)
