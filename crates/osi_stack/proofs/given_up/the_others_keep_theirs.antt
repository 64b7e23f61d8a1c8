-- One connection is given up: the others keep all that is theirs, a DR is written in class 2 and the end ends in class
-- 0, and nothing is pending for the user of that connection.
use Rattle.osi_stack.proofs.Vocabulary.{value_at, put_other, Rows, Listener, after_input, broken, react, is_ended, shown_at_loss, kept_at}
use Rattle.osi_stack.proofs.Vocabulary.{waiting_of, waiting_at, Line, End, arith, ◌≡◌, ℕ, true, [], Option, Some, None, option_map, refl}
use Rattle.osi_stack.proofs.Vocabulary.{ap, ◌∙◌, gives_up, disconnects, LeavesOthers}
use Rattle.osi_stack.proofs.given_up.the_invariant_stays.{disconnect_lasts, disconnect_is, given_here, given_other, session_given}
use Rattle.osi_stack.proofs.carried.what_a_move_leaves.{are_lost}
use Rattle.osi_stack.proofs.sound.the_invariant_is_kept.{closed_given}

-- ---- the carrier

pub leaves_others : (r : ℕ) (e : End) → (disconnects r e).carrier.ended ≡ None → LeavesOthers r e (disconnects r e)
leaves_others r e over = grind (arith, put_other, disconnect_lasts, disconnect_is, given_other, closed_given)

-- ---- the indications

unseen : (o : Option Listener) → shown_at_loss (option_map (λ s. after_input s broken) o) ≡ []
unfolding react
unseen o = grind arith

none_given : (r : ℕ) (lines : Rows Line) → waiting_at r (gives_up r lines) ≡ []
none_given r lines = ap waiting_of (given_here r lines) ∙ (grind arith)

pub hushes : (r : ℕ) (e : End) → waiting_at r (disconnects r e).lines ≡ []
hushes r e = grind (arith, are_lost (gives_up r e.lines), none_given r e.lines, given_here, session_given, unseen)

-- ---- its session has ended

broken_ended : (s : Listener) → is_ended (after_input s broken).state.phase ≡ true
unfolding react
broken_ended s = refl

ended_in : (o : Option Listener) (s : Listener) → option_map (λ s. after_input s broken) o ≡ Some s → is_ended s.state.phase ≡ true
ended_in o s is = grind (arith, broken_ended)

pub is_over_then : (r : ℕ) (s : Listener) (e : End) → kept_at r (disconnects r e).lines ≡ Some s → is_ended s.state.phase ≡ true
is_over_then r s e is =
    grind (arith, (are_lost (gives_up r e.lines)).none r, ended_in (kept_at r e.lines) s, session_given (value_at r e.lines), given_here)
