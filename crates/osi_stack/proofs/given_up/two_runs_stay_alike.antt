-- A connection is given up in two runs that are in step: they reach the same state, whatever the pieces; also if they
-- differ in lines of connections that are gone.
use Rattle.osi_stack.proofs.Vocabulary.{eqb-true, apart_all, user, closed_gone, AreUpTo, Rows, value_at, put, Listener, after_input, broken}
use Rattle.osi_stack.proofs.Vocabulary.{react, shown_at_loss, pruned, put_back, Line, End, arith, ◌≡◌, ℕ, Bool, false, List, [], ◌∷◌}
use Rattle.osi_stack.proofs.Vocabulary.{Option, None, option_map, refl, gives_up, disconnects}
use Rattle.osi_carrier.specs.Runs.UserCall.{closes}
use Rattle.osi_stack.proofs.given_up.the_invariant_stays.{closed_and_given, disconnect_carrier}
use Rattle.osi_stack.proofs.carried.packets_without_events.{both}
use Rattle.osi_stack.proofs.in_step.the_other_lines_may_be_dropped.{only, only_end, only_row, only_at, only_put, only_concludes, put_row}
use Rattle.osi_stack.proofs.in_step.the_other_lines_may_be_dropped.{AreStill, IsStill, still_lost}
use Rattle.osi_stack.proofs.in_step.what_happens_to_live_connections.{is_live, reached, Within, pruned_is, acts_alike, SameInLive}
use Rattle.osi_stack.proofs.carried.what_each_step_preserves.{concluded_end}

-- ---- octets that were carried

pub disconnects_apart : (o : List ℕ) (r : ℕ) (e : End) → disconnects r (put_back o e) ≡ put_back o (disconnects r e)
disconnects_apart o r e = grind (arith, apart_all [] o (user (closes r 128) ∷ []) e.carrier, closed_and_given r e)

-- ---- lines of some references

-- a reference that is none of these
module _ (K : ℕ → Bool) where
  only_none : (r : ℕ) (lines : Rows Line) → K r ≡ false → value_at r (only K lines) ≡ None
  only_none r [] gone = refl
  only_none r ((q, y) ∷ lines) gone = grind (arith, both, eqb-true, only_row, only_none r lines gone)

  -- its line is dropped, whatever it is
  only_unput : (r : ℕ) (x : Line) (lines : Rows Line) → K r ≡ false → only K (put r x lines) ≡ only K lines
  only_unput r x [] gone = refl
  only_unput r x ((q, y) ∷ lines) gone = grind (arith, both, eqb-true, only, put_row, only_row, only_unput r x lines gone)

  gives_by : (r : ℕ) (lines : Rows Line) (b : Bool) → K r ≡ b → gives_up r (only K lines) ≡ only K (gives_up r lines)
  gives_by r lines b here = grind (arith, only, only_at, only_put, only_none, only_unput)

  pub only_disconnects : (r : ℕ) (e : End) → disconnects r (only_end K e) ≡ only_end K (disconnects r e)
  only_disconnects r e = search (arith, only_concludes, gives_by r e.lines (K r) refl, closed_and_given r e)

  -- ---- the others are still

  -- a session that was given up indicates nothing when it is lost
  lost_nothing : (o : Option Listener) → shown_at_loss (option_map (λ s. after_input s broken) o) ≡ []
  unfolding react
  lost_nothing o = grind arith

  still_put : (r : ℕ) (x : Line) (lines : Rows Line) → IsStill x → AreStill K lines → AreStill K (put r x lines)
  still_put r x [] one still = tt
  still_put r x ((q, y) ∷ lines) one still = grind (arith, put_row, still_put r x lines one still.1)

  pub still_disconnects : (r : ℕ) (e : End) → AreStill K e.lines → AreStill K (disconnects r e).lines
  still_disconnects r e still = grind (arith, concluded_end, still_lost, closed_and_given, still_put, lost_nothing)

-- ---- an end without the lines of connections that are gone

disconnect_within : (r : ℕ) (e : End) → Within (is_live (disconnects r e).carrier) (reached e.carrier)
disconnect_within r e q here = grind (arith, reached, disconnect_carrier, closed_gone)

pub disconnect_alike : (r : ℕ) (e : End) → AreUpTo e.carrier.given e.lines → AreStill (reached e.carrier) e.lines →
    SameInLive (disconnects r (pruned e)) (disconnects r e)
disconnect_alike r e known still =
    grind (
      arith,
      only_disconnects (reached e.carrier) r e,
      pruned_is e known,
      acts_alike e (disconnects r e) (disconnect_within r e),
      still_disconnects (reached e.carrier) r e,
    )
