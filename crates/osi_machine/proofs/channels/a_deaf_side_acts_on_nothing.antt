-- A side that has requested a restart, expects nothing or is being opened discards what is in flight to it.
-- For restarts, and for connections that are being opened.
use Rattle.osi_machine.proofs.Vocabulary.{TokenSetting, ResyncType, State, RestartDue, Meaning, RS, is_restarting, is_restart_due}
use Rattle.osi_machine.proofs.Vocabulary.{is_expected, has_no_effect, without_tokens, restarted_at, stands, drops, next, Item, is_plain}
use Rattle.osi_machine.proofs.Vocabulary.{Fits, AllFit, flush, stops, heard, hears, view_next, heard_view, or_left, is_connecting}
use Rattle.osi_machine.proofs.Vocabulary.{both_ways, ◌≡◌, refl, ◌∙◌, ap, subst, ℕ, Bool, true, false, not, if◌then◌else◌, List, [], ◌∷◌}
use Rattle.osi_machine.proofs.Vocabulary.{◌++◌, ◌⊎◌, arith}
use Rattle.osi_machine.proofs.basics.what_holds_in_each_phase.{excluded, if_first, by_test, by_either}
use Rattle.osi_machine.proofs.channels.a_unit_is_dropped_bad_or_acted_on.{next_dropped, next_acted, and_false, none_due}
use Rattle.osi_machine.proofs.channels.what_every_unit_in_flight_keeps.{hears_kept, heard_flush, heard_append}

-- ---- units that have no effect

abbrev pub AllEmpty : List Meaning → Type 0
AllEmpty [] = Unit {0}
AllEmpty (u ∷ us) = (has_no_effect u ≡ true) × AllEmpty us

pub empty_fits : (s : State) (us : List Meaning) → AllEmpty us → AllFit s us
empty_fits s [] h = tt
empty_fits s (u ∷ us) h = grind (arith, next_dropped, empty_fits s us h.1)

pub empty_end : (s : State) (us : List Meaning) → AllEmpty us → flush s us ≡ s
empty_end s [] h = refl
empty_end s (u ∷ us) h = ap (λ (r : State). flush r us) (next_dropped s u (grind (arith, or_left))) ∙ empty_end s us h.1

pub empty_heard : (s : State) (us : List Meaning) → AllEmpty us → heard s us ≡ s
empty_heard s [] h = refl
empty_heard s (u ∷ us) h = grind (arith, if_first, next_dropped, empty_heard s us h.1)

-- what holds if only what is discarded is in flight
pub ruleset empty_laws = (empty_fits, empty_end, empty_heard)

pub empty_view : (s : State) (us : List Meaning) (v : List Item) → AllEmpty us → heard_view s us v ≡ v
empty_view s [] v h = refl
empty_view s (u ∷ us) v h = grind (arith, if_first, next_dropped, empty_view s us v h.1)

pub all_empty : (s : State) (us : List Meaning) → ((u : Meaning) → is_plain u ≡ true → is_expected s.phase u ≡ false)
    → is_restarting s.phase ≡ false
    → AllFit s us → AllEmpty us
all_empty s [] none listens f = tt
all_empty s (u ∷ us) none listens f =
    let d : drops s u ≡ true = grind (arith, none u f.0.plain, f.0.good) in (
      grind arith,
      all_empty s us none listens (subst (λ (r : State). AllFit r us) (next_dropped s u d) f.1),
    )

-- nothing but that comes after a restart that takes effect
pub after_due : (s : State) (us : List Meaning) → is_restart_due s.phase ≡ true → AllFit s us → AllEmpty us
after_due s us d f = all_empty s us (λ u p. none_due s.phase u d p) (excluded is_restart_due is_restarting refl s.phase d) f

-- ---- a restart

-- a side, once it has taken an RS
abbrev pub crossed : State → ℕ → TokenSetting → State
crossed s n w = if stands s n then record (without_tokens RestartDue s) { wishes = w; numbers = restarted_at n s.numbers } else s

pub restart_kept : (s : State) (k : ResyncType) (n : ℕ) (w : TokenSetting) (o : List ℕ) → drops s (RS k n w o) ≡ false
restart_kept s k n w o = and_false (is_restarting s.phase)

pub restart_next : (s : State) (k : ResyncType) (n : ℕ) (w : TokenSetting) (o : List ℕ) → next s (RS k n w o) ≡ crossed s n w
restart_next s k n w o = next_acted s (RS k n w o) (restart_kept s k n w o)

pub yielded : (s : State) (n : ℕ) (w : TokenSetting) → stands s n ≡ false → crossed s n w ≡ s
yielded s n w e = grind arith

pub stood : (s : State) (n : ℕ) (w : TokenSetting) → stands s n ≡ true
    → crossed s n w ≡ record (without_tokens RestartDue s) { wishes = w; numbers = restarted_at n s.numbers }
stood s n w e = grind arith

-- a restart that does not take effect shows nothing
pub yielded_view : (s : State) (k : ResyncType) (n : ℕ) (w : TokenSetting) (o : List ℕ) (v : List Item) → stands s n ≡ false
    → view_next s (RS k n w o) v ≡ v
yielded_view s k n w o v e = grind arith

-- what its receiver has taken before the restart
pub heard_restart : (s : State) (us : List Meaning) (k : ResyncType) (n : ℕ) (w : TokenSetting) (o : List ℕ) → AllFit s us
    → is_restart_due (flush s us).phase ≡ false
    → heard s (us ++ RS k n w o ∷ []) ≡ flush s us
heard_restart s us k n w o f due = search (arith, heard_append, restart_next, yielded)

-- ---- a side that has requested a restart, and will wait for the answer when all was taken

-- a unit changes nothing there and shows nothing, or is the answer or a restart that takes effect
abbrev Passes : State → Meaning → State → Type 0
Passes s u r = ((r ≡ s) × ((v : List Item) → view_next s u v ≡ v)) ⊎ (hears r.phase ≡ true)

deaf_next : (s : State) (u : Meaning) → is_restarting s.phase ≡ true → Fits s u → Passes s u (next s u)
deaf_next s u r f = grind arith

-- a side that will wait has asked already
pub not_both : (b : Bool) → not b ≡ true → b ≡ true → ⊥
not_both b p q = grind arith

passes : (s : State) (u : Meaning) (us : List Meaning) → is_restarting (flush s (u ∷ us)).phase ≡ true → AllFit s (u ∷ us)
    → (next s u ≡ s) × ((v : List Item) → view_next s u v ≡ v)
passes s u us r f = by_either
    (deaf_next s u (by_test (is_restarting s.phase) (λ e. e) (λ e. absurd (not_both _ (hears_kept s (u ∷ us) (ap not e) f) r))) f.0)
    (λ e. e)
    (λ l. absurd (not_both _ (hears_kept (next s u) us l f.1) r))

pub deaf_end : (s : State) (us : List Meaning) → is_restarting (flush s us).phase ≡ true → AllFit s us → flush s us ≡ s
deaf_end s [] r f = refl
deaf_end s (u ∷ us) r f = deaf_end (next s u) us r f.1 ∙ (passes s u us r f).0

pub deaf_heard : (s : State) (us : List Meaning) → is_restarting (flush s us).phase ≡ true → AllFit s us → heard s us ≡ s
deaf_heard s us r f = heard_flush s us f (excluded is_restarting is_restart_due refl (flush s us).phase r) ∙ deaf_end s us r f

pub deaf_view : (s : State) (us : List Meaning) (v : List Item) → is_restarting (flush s us).phase ≡ true → AllFit s us
    → heard_view s us v ≡ v
deaf_view s [] v r f = refl
deaf_view s (u ∷ us) v r f = if_first (stops s u) v (heard_view (next s u) us (view_next s u v))
    (deaf_view (next s u) us (view_next s u v) r f.1 ∙ (passes s u us r f).1 v)

-- ---- a side that will still wait for the answer to its CN has taken nothing

-- a unit that leaves it waiting was discarded
waiting_drops : (s : State) (u : Meaning) → Fits s u → is_connecting (next s u).phase ≡ true → drops s u ≡ true
waiting_drops s u f c = search (arith, both_ways, next_acted)

-- it has waited all the time, and nothing was in flight
pub waiting : (s : State) (us : List Meaning) → is_connecting (flush s us).phase ≡ true → AllFit s us
    → AllEmpty us × (is_connecting s.phase ≡ true)
waiting s [] c f = (tt, c)
waiting s (u ∷ us) c f = grind (arith, waiting_drops, next_dropped, excluded, waiting (next s u) us c f.1)
