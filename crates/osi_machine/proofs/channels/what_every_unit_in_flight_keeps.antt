-- What one more unit does to a channel, and what all units in flight keep, the direction of points too.
-- For the steps of both sides: a call adds a unit at the end.
use Rattle.osi_machine.proofs.Vocabulary.{◌≡◌, refl, sym, ◌∙◌, ap, subst, ℕ, true, false, if◌then◌else◌, List, [], ◌∷◌, ◌++◌, append_assoc}
use Rattle.osi_machine.proofs.Vocabulary.{arith, ◌≤◌, State, Meaning, is_restart_due, next, Fits, AllFit, flush, stops, heard, hears}
use Rattle.osi_machine.proofs.Vocabulary.{view_next, heard_view, data_of, Item, ltb-true, ltb-false, or_parts, list_any, data_token, lower}
use Rattle.osi_machine.proofs.Vocabulary.{point_taken, minor_confirmed, major_confirmed, restarted_at, becomes, Good, is_plain, needs_token}
use Rattle.osi_machine.proofs.Vocabulary.{is_opening, Bool, ◌||◌, drops, is_releasing, seen}
use Rattle.osi_machine.proofs.basics.what_holds_in_each_phase.{by_test}
use Rattle.osi_machine.proofs.channels.a_unit_is_dropped_bad_or_acted_on.{next_hears, due_next, restart_due, chosen, next_cases, fit_cases}

pub fit_append : (s : State) (us : List Meaning) (m : Meaning) → AllFit s us → Fits (flush s us) m → AllFit s (us ++ m ∷ [])
fit_append s [] m h f = (f, tt)
fit_append s (u ∷ us) m h f = (h.0, fit_append (next s u) us m h.1 f)

pub flush_append : (s : State) (us : List Meaning) (m : Meaning) → flush s (us ++ m ∷ []) ≡ next (flush s us) m
flush_append s [] m = refl
flush_append s (u ∷ us) m = flush_append (next s u) us m

-- ---- what every unit in flight preserves

pub kept_all : (P : State → Type 0) → ((s : State) (u : Meaning) → P s → Fits s u → P (next s u)) →
    (s : State) (us : List Meaning) → P s → AllFit s us → P (flush s us)
kept_all P step s [] h f = h
kept_all P step s (u ∷ us) h f = kept_all P step (next s u) us (step s u h f.0) f.1

pub kept_heard : (P : State → Type 0) → ((s : State) (u : Meaning) → P s → Fits s u → P (next s u)) →
    (s : State) (us : List Meaning) → P s → AllFit s us → P (heard s us)
kept_heard P step s [] h f = h
kept_heard P step s (u ∷ us) h f = chosen P (stops s u) _ _ h (kept_heard P step (next s u) us (step s u h f.0) f.1)

-- what holds of each state and view up to a restart that takes effect, or of all
pub until_heard : (P : State → List Item → Type 0)
    → ((s : State) (u : Meaning) (v : List Item) → is_plain u ≡ true → Good s u → stops s u ≡ false → P s v → P (becomes s u) (seen s u v))
    → (s : State) (us : List Meaning) (v : List Item) → P s v → AllFit s us → P (heard s us) (heard_view s us v)
until_heard P step s [] v h f = h
until_heard P step s (u ∷ us) v h f =
    by_test (stops s u)
    (λ e. rw e h)
    (λ e. let one : P (next s u) (view_next s u v) = by_test (drops s u)
    (λ d. rw d h)
    (λ d. rw d (step s u v f.0.plain (f.0.good d) e h)) in
    rw e (until_heard P step (next s u) us (view_next s u v) one f.1))

pub hears_kept : (s : State) (us : List Meaning) → hears s.phase ≡ true → AllFit s us → hears (flush s us).phase ≡ true
hears_kept = kept_all (λ s. hears s.phase ≡ true) (λ s u h f. next_hears s u h)

-- nor just before a restart that takes effect
pub heard_hears : (s : State) (us : List Meaning) → hears s.phase ≡ true → AllFit s us → hears (heard s us).phase ≡ true
heard_hears = kept_heard (λ s. hears s.phase ≡ true) (λ s u h f. next_hears s u h)

-- no unit leads to Releasing
pub unreleased : (s : State) (us : List Meaning) → is_releasing s.phase ≡ false → AllFit s us → is_releasing (flush s us).phase ≡ false
unreleased = kept_all (λ s. is_releasing s.phase ≡ false)
    (λ s u h f. next_cases (λ q. is_releasing q.phase ≡ false) s u (λ d. h) (λ d. grind arith))

-- ---- no unit in flight to a side that owes the answer to a restart is acted on

pub due_end : (s : State) (us : List Meaning) → is_restart_due s.phase ≡ true → AllFit s us → flush s us ≡ s
due_end s [] h f = refl
due_end s (u ∷ us) h f =
    let e = due_next s u h f.0 in
    due_end (next s u) us (subst (λ (r : State). is_restart_due r.phase ≡ true) (sym e) h) f.1 ∙ e

-- ---- if no restart takes effect, everything is received

no_stop : (s : State) (u : Meaning) (us : List Meaning) → AllFit s (u ∷ us) → is_restart_due (flush s (u ∷ us)).phase ≡ false
    → stops s u ≡ false
no_stop s u us f n = search (arith, restart_due, due_end)

pub heard_flush : (s : State) (us : List Meaning) → AllFit s us → is_restart_due (flush s us).phase ≡ false → heard s us ≡ flush s us
heard_flush s [] f n = refl
heard_flush s (u ∷ us) f n = rw (no_stop s u us f n) (heard_flush (next s u) us f.1 n)

pub heard_append : (s : State) (us : List Meaning) (m : Meaning) → AllFit s us → is_restart_due (flush s us).phase ≡ false →
    heard s (us ++ m ∷ []) ≡ (if stops (flush s us) m then flush s us else next (flush s us) m)
heard_append s [] m f n = refl
heard_append s (u ∷ us) m f n = rw (no_stop s u us f n) (heard_append (next s u) us m f.1 n)

-- ---- what was seen

pub view_append : (s : State) (us : List Meaning) (m : Meaning) (v : List Item) → AllFit s us → is_restart_due (flush s us).phase ≡ false →
    heard_view s (us ++ m ∷ []) v ≡ (if stops (flush s us) m then heard_view s us v else view_next (flush s us) m (heard_view s us v))
view_append s [] m v f n = refl
view_append s (u ∷ us) m v f n = rw (no_stop s u us f n) (view_append (next s u) us m (view_next s u v) f.1 n)

-- ---- data

pub data_append : (us vs : List Meaning) → data_of (us ++ vs) ≡ data_of us ++ data_of vs
data_append [] vs = refl
data_append (u ∷ us) vs = grind (arith, append_assoc, data_append us vs)

pub list_any_append : (p : Meaning → Bool) (us : List Meaning) (m : Meaning) → p m ≡ false → list_any p (us ++ m ∷ []) ≡ list_any p us
list_any_append p [] m h = rw h refl
list_any_append p (u ∷ us) m h = ap (λ (b : Bool). p u || b) (list_any_append p us m h)

-- ---- the lower of two numbers

pub lower_second : (n m : ℕ) → lower n m ≤ m
lower_second n m = grind (arith, ltb-true, ltb-false)

pub lower_both : (n m a c : ℕ) → n ≤ m → lower m a ≤ c → lower n a ≤ lower n c
lower_both n m a c le h = grind (arith, lower_second)

-- ---- the direction of points

-- an open connection on which points were taken last
pub record Turned (s : State) : Type 0 where
  pub phase : is_opening s.phase ≡ false
  pub answers : s.numbers.answers ≡ true

pub becomes_turned : (s : State) (u : Meaning) → is_plain u ≡ true → Good s u → Turned s → Turned (becomes s u)
unfolding point_taken minor_confirmed major_confirmed restarted_at
becomes_turned s u p g h = grind arith

-- no unit changes that direction
pub heard_turned : (s : State) (us : List Meaning) → Turned s → AllFit s us → Turned (heard s us)
heard_turned = kept_heard Turned (λ s u h f. fit_cases Turned s u f h (λ d g. becomes_turned s u f.plain g h))

abbrev Sends : State → Type 0
Sends s = s.numbers.answers ≡ false

pub heard_sends : (s : State) (us : List Meaning) → list_any (needs_token data_token) us ≡ false → s.numbers.answers ≡ false
    → (heard s us).numbers.answers ≡ false
unfolding point_taken minor_confirmed major_confirmed restarted_at
heard_sends s [] n h = h
heard_sends s (u ∷ us) n h =
    let p = or_parts (needs_token data_token u) (list_any (needs_token data_token) us) n in
    chosen Sends (stops s u) s (heard (next s u) us) h
    (heard_sends (next s u) us p.1 (next_cases Sends s u (λ d. h) (λ d. grind arith)))
