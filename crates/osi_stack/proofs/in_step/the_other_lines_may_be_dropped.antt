-- Only the lines of some references: what happens to those is the same if the others are dropped.
use Rattle.std.proofs.Common.{arith, ◌≡◌, ℕ, zero, suc, ◌==◌, Bool, true, false, List, [], ◌∷◌, refl, ap, ◌∙◌, if◌then◌else◌}
use Rattle.osi_carrier.specs.Happenings as told
use Rattle.osi_carrier.specs.Packets as carriers
use Rattle.osi_stack.proofs.Vocabulary.{eqb-true, filter-append, AllByRecursion, filter, Happening, told_of, Rows, value_at, put}
use Rattle.osi_stack.proofs.Vocabulary.{Connection, Input, Listener, hears, hears_first, hears_next, hears_times, with_events, with_carrier}
use Rattle.osi_stack.proofs.Vocabulary.{shown_at_loss, all_lost, attends, after_packet, all_waiting, to_session, Line, End, is_used}
use Rattle.osi_stack.proofs.Vocabulary.{used_lines}
use Rattle.osi_stack.proofs.carried.packets_without_events.{both, packet_is}
use Rattle.osi_stack.proofs.carried.open_connections_stay_open.{rest_is, joined_lines}
use Rattle.osi_stack.proofs.carried.what_each_step_preserves.{concluded_end}
use Rattle.osi_stack.proofs.carried.what_a_move_leaves.{used_by, used_keep}

-- one line before the others
abbrev row : ℕ → Line → Rows Line → Rows Line
row q line lines = (q, line) ∷ lines

-- with nothing pending, and whose session indicates nothing when it is lost
pub record IsStill (line : Line) : Type 0 where
  pub waiting : line.waiting ≡ []
  pub lost : shown_at_loss line.session ≡ []

-- these references
module _ (K : ℕ → Bool) where
  -- ---- their lines

  abbrev pub only : Rows Line → Rows Line
  only lines = filter (λ (row : ℕ × Line). K row.0) lines

  abbrev pub only_end : End → End
  only_end e = record e { lines = only e.lines }

  pub only_row : (q : ℕ) (y : Line) (lines : Rows Line) (b : Bool) → K q ≡ b →
      only ((q, y) ∷ lines) ≡ (if b then (q, y) ∷ only lines else only lines)
  only_row q y lines b e = ap (λ (c : Bool). if◌then◌else◌ {A = Rows Line} c ((q, y) ∷ only lines) (only lines)) e

  pub only_at : (r : ℕ) (lines : Rows Line) → K r ≡ true → value_at r (only lines) ≡ value_at r lines
  only_at r [] here = refl
  only_at r ((q, y) ∷ lines) here = grind (arith, only_row, both, eqb-true, only_at r lines here)

  pub put_row : (r q : ℕ) (x y : Line) (lines : Rows Line) (b : Bool) → (q == r) ≡ b →
      put r x ((q, y) ∷ lines) ≡ (if b then (q, x) ∷ lines else (q, y) ∷ put r x lines)
  put_row r q x y lines b e = ap (λ (c : Bool). if◌then◌else◌ {A = Rows Line} c ((q, x) ∷ lines) ((q, y) ∷ put r x lines)) e

  pub only_put : (r : ℕ) (x : Line) (lines : Rows Line) → K r ≡ true → put r x (only lines) ≡ only (put r x lines)
  only_put r x [] here = refl
  only_put r x ((q, y) ∷ lines) here = grind (arith, only_row, put_row, both, eqb-true, only_put r x lines here)

  used_rows : (live : Rows Connection) (q : ℕ) (y : Line) (lines : Rows Line) (b c : Bool) → is_used live (q, y) ≡ b → K q ≡ c →
      used_lines live (only lines) ≡ only (used_lines live lines) →
      used_lines live (only ((q, y) ∷ lines)) ≡ only (used_lines live ((q, y) ∷ lines))
  used_rows live q y lines b c e f more = grind (arith, only_row, used_by)

  pub only_used : (live : Rows Connection) (lines : Rows Line) → used_lines live (only lines) ≡ only (used_lines live lines)
  only_used live [] = refl
  only_used live ((q, y) ∷ lines) = used_rows live q y lines (is_used live (q, y)) (K q) refl refl (only_used live lines)

  pub only_push : (r : ℕ) (s : Listener) (lines : Rows Line) → K r ≡ true → joined_lines r s (only lines) ≡ only (joined_lines r s lines)
  only_push r s lines here = grind (arith, filter-append, only_row)

  pub only_lost : (lines : Rows Line) → all_lost (only lines) ≡ only (all_lost lines)
  only_lost [] = refl
  only_lost ((q, y) ∷ lines) = grind (arith, only_row, only_lost lines)

  -- ---- events that are handled

  pub only_session : (r : ℕ) (input : Input) (e : End) → K r ≡ true → to_session r input (only_end e) ≡ only_end (to_session r input e)
  only_session r input e here = grind (arith, only_at, only_put)

  only_hears : (event : Happening) (e : End) → K (told_of event) ≡ true → hears event (only_end e) ≡ only_end (hears event e)
  only_hears event e here = grind (arith, only_at, only_push, only_used, joined_lines, only_session)

  -- events are of these alone
  abbrev pub AreOf : List Happening → Type 0
  AreOf events = AllByRecursion (λ (event : Happening). K (told_of event) ≡ true) events

  only_first : (events : List Happening) (e : End) → AreOf events → hears_first events (only_end e) ≡ only_end (hears_first events e)
  only_first [] e all = refl
  only_first (event ∷ events) e all = only_hears event (with_events events e) all.0

  next_by : (events : List Happening) (e : End) → e.carrier.events ≡ events → AreOf events → AreOf (hears_next e).carrier.events
  next_by events e is all = grind (arith, rest_is)

  only_times : (n : ℕ) (e : End) → AreOf e.carrier.events → hears_times n (only_end e) ≡ only_end (hears_times n e)
  only_times zero e all = refl
  only_times (suc n) e all = ap (hears_times n) (only_first e.carrier.events e all) ∙ only_times n (hears_next e) (grind (arith, next_by))

  pub only_concludes : (over : Bool) (e : End) →
      (if over then record (only_end e) { lines = all_lost (only e.lines) } else only_end e) ≡ only_end
      (if over then record e { lines = all_lost e.lines } else e)
  only_concludes over e = grind (arith, only_lost)

  only_attends : (e : End) → AreOf e.carrier.events → attends (only_end e) ≡ only_end (attends e)
  only_attends e all = grind (arith, only_times, only_concludes)

  pub only_packet : (e : End) (unit : List ℕ) → AreOf (carriers.after_packet e.carrier unit).events →
      after_packet (only_end e) unit ≡ only_end (after_packet e unit)
  only_packet e unit all =
      grind (arith, packet_is (only_end e) unit, only_attends (with_carrier (carriers.after_packet e.carrier unit) e) all, packet_is e unit)

  -- ---- the others are still

  abbrev pub AreStill : Rows Line → Type 0
  AreStill [] = Unit {0}
  AreStill ((q, line) ∷ lines) = (K q ≡ false → IsStill line) × AreStill lines

  pub only_told : (lines : Rows Line) → AreStill lines → all_waiting (only lines) ≡ all_waiting lines
  only_told [] still = refl
  only_told ((q, y) ∷ lines) still = grind (arith, only_row, only_told lines still.1)

  still_put : (r : ℕ) (x : Line) (lines : Rows Line) → K r ≡ true → AreStill lines → AreStill (put r x lines)
  still_put r x [] here still = tt
  still_put r x ((q, y) ∷ lines) here still = grind (arith, put_row, both, eqb-true, still_put r x lines here still.1)

  pub still_used : (live : Rows Connection) (lines : Rows Line) → AreStill lines → AreStill (used_lines live lines)
  still_used live [] still = tt
  still_used live (row ∷ lines) still = grind (arith, used_keep, still_used live lines still.1)

  still_push : (r : ℕ) (s : Listener) (lines : Rows Line) → K r ≡ true → AreStill lines → AreStill (joined_lines r s lines)
  still_push r s [] here still = ((λ none. both (K r) here none), tt)
  still_push r s ((q, y) ∷ lines) here still = (still.0, still_push r s lines here still.1)

  pub still_lost : (lines : Rows Line) → AreStill lines → AreStill (all_lost lines)
  still_lost [] still = tt
  still_lost ((q, y) ∷ lines) still = ((λ none. grind arith), still_lost lines still.1)

  pub still_session : (r : ℕ) (input : Input) (e : End) → K r ≡ true → AreStill e.lines → AreStill (to_session r input e).lines
  still_session r input e here still = grind (arith, still_put)

  still_hears : (event : Happening) (e : End) → K (told_of event) ≡ true → AreStill e.lines → AreStill (hears event e).lines
  still_hears event e here still = grind (arith, still_used, joined_lines, still_push, still_session)

  still_times : (n : ℕ) (e : End) → AreOf e.carrier.events → AreStill e.lines → AreStill (hears_times n e).lines
  still_times zero e all still = still
  still_times (suc n) e all still = still_times n (hears_next e) (grind (arith, next_by)) (grind (arith, still_hears))

  pub still_packet : (e : End) (unit : List ℕ) → AreOf (carriers.after_packet e.carrier unit).events → AreStill e.lines →
      AreStill (after_packet e unit).lines
  still_packet e unit all still = grind (arith, packet_is, concluded_end, still_lost, still_times)
