-- An accepted call of a session does the same if indications are pending as if all had been given.
use Rattle.std.proofs.Common.{◌≡◌, ℕ, List, [], ◌∷◌, ◌++◌, Some, None, refl, ap, arith}
use Rattle.osi_stack.proofs.Vocabulary.{append-nil, Rows, value_at, put, Call as SessionCall, Input, called, Shown, call_error, all_waiting}
use Rattle.osi_stack.proofs.Vocabulary.{line_by, by_line, to_session, quieted, hushed, put_back, account_of, Line, End}
use Rattle.osi_stack.proofs.in_step.what_is_seen_is_the_same.{call_hushed, hush, quieted_value}
use Rattle.osi_stack.proofs.carried.what_a_move_leaves.{says_is}
use Rattle.osi_stack.proofs.in_step.what_is_in_front_changes_nothing.{apart_session}

-- ---- the end but for what is pending

quieted_twice : (lines : Rows Line) → quieted lines ≡ quieted (quieted lines)
quieted_twice [] = refl
quieted_twice ((q, line) ∷ lines) = ap (λ (l : Rows Line). (q, hush line) ∷ l) (quieted_twice lines)

put_quieted : (r : ℕ) (x y : Line) (lines : Rows Line) → hush x ≡ hush y → quieted (put r x lines) ≡ quieted (put r y (quieted lines))
put_quieted r x y [] same = refl
put_quieted r x y ((q, line) ∷ lines) same = grind (arith, hush, quieted_twice, put_quieted r x y lines same)

session_hushed : (r : ℕ) (input : Input) (e : End) → hushed (to_session r input e) ≡ hushed (to_session r input (hushed e))
session_hushed r input e = grind (arith, quieted_twice, by_line, put_quieted, line_by, hush, quieted_value)

-- ---- what is pending

waiting_put : (r : ℕ) (x line : Line) (lines : Rows Line) → x.waiting ≡ line.waiting → value_at r lines ≡ Some line →
    all_waiting (put r x lines) ≡ all_waiting lines
waiting_put r x line [] same here = refl
waiting_put r x line ((q, y) ∷ lines) same here = grind (arith, waiting_put r x line lines same)

-- an accepted call indicates nothing
call_waiting : (r : ℕ) (call : SessionCall) (e : End) → call_error r call e ≡ None →
    all_waiting (to_session r (called call) e).lines ≡ all_waiting e.lines
call_waiting r call e h = grind (arith, waiting_put, append-nil, says_is r call e h)

none_quieted : (lines : Rows Line) → all_waiting (quieted lines) ≡ []
none_quieted [] = refl
none_quieted ((q, line) ∷ lines) = none_quieted lines

-- ---- its account

pub account_calling : (t : List (ℕ × Shown)) (o : List ℕ) (r : ℕ) (call : SessionCall) (e : End) → call_error r call e ≡ None →
    account_of t o (to_session r (called call) e) ≡ account_of (t ++ all_waiting e.lines) []
    (to_session r (called call) (put_back o (hushed e)))
account_calling t o r call e h =
    grind (
      arith,
      call_waiting r call e h,
      call_waiting r call (hushed e),
      call_hushed,
      none_quieted,
      session_hushed r (called call) e,
      append-nil,
      apart_session o r (called call) (hushed e),
    )
