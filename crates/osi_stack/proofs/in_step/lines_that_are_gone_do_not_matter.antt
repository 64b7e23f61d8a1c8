-- Two accounts that are the same but for lines of connections that are gone stay so, whatever comes.
use Rattle.osi_stack.proofs.Vocabulary.{eq-eqb, or_right, orderly_same, AreUpTo, Rows, value_at, Connection, is_open, none_of, Listener}
use Rattle.osi_stack.proofs.Vocabulary.{broken, react, is_wait_transport, may_abort, shows_loss, Shown, shown_at_loss, after_packet}
use Rattle.osi_stack.proofs.Vocabulary.{with_carrier, AreApart, HasAsked, IsSound, kept_at, quieted, hushed, put_back, live_lines, pruned}
use Rattle.osi_stack.proofs.Vocabulary.{Account, account_of, Line, End, IsAttended, line_waits, waits, ◌≡◌, ℕ, Bool, true, false, List, []}
use Rattle.osi_stack.proofs.Vocabulary.{◌∷◌, Option, Some, None, is_some, refl, sym, ap, ◌∙◌, arith}
use Rattle.osi_carrier.specs.Packets as carriers
use Rattle.osi_stack.proofs.in_step.the_account_packet_by_packet.{made}
use Rattle.osi_stack.proofs.in_step.what_is_seen_is_the_same.{quieted_at}
use Rattle.osi_stack.proofs.opening.who_waits_was_requested.{StillWaits, packet_asked}
use Rattle.osi_stack.proofs.stream.what_was_written_is_read.{attended_then}
use Rattle.osi_stack.proofs.each_line.the_first_that_indicates.{quiet_line}
use Rattle.osi_stack.proofs.carried.packets_without_events.{both, or_first, or_second, packet_is}
use Rattle.osi_stack.proofs.carried.open_connections_stay_open.{SessionLaws}
use Rattle.osi_stack.proofs.in_step.the_other_lines_may_be_dropped.{AreStill}
use Rattle.osi_stack.proofs.in_step.what_happens_to_live_connections.{reached, SameInLive}
use Rattle.osi_stack.proofs.sound.the_invariant_is_kept.{packet_sound}

-- ---- what is true of an end, whatever is pending and was carried

pub record IsFit (e : End) : Type 0 where
  pub attended : IsAttended e
  pub sound : IsSound e
  pub asks : HasAsked e

-- once it has ended, nothing is required of it
pub fit_over : (e : End) → is_some e.carrier.ended ≡ true → IsFit e
fit_over e over = grind arith

pub quieted_up : (n : ℕ) (lines : Rows Line) → AreUpTo n lines → AreUpTo n (quieted lines)
quieted_up n [] up = tt
quieted_up n ((q, y) ∷ lines) up = (up.0, quieted_up n lines up.1)

up_quieted : (n : ℕ) (lines : Rows Line) → AreUpTo n (quieted lines) → AreUpTo n lines
up_quieted n [] up = tt
up_quieted n ((q, y) ∷ lines) up = (up.0, up_quieted n lines up.1)

some_quieted : (r : ℕ) (lines : Rows Line) → is_some (value_at r (quieted lines)) ≡ is_some (value_at r lines)
some_quieted r [] = refl
some_quieted r ((q, y) ∷ lines) = grind (arith, some_quieted r lines)

pub quieted_apart : (lines : Rows Line) → AreApart lines → AreApart (quieted lines)
quieted_apart [] apart = tt
quieted_apart ((q, y) ∷ lines) apart =
    (none_of (value_at q (quieted lines)) (some_quieted q lines ∙ ap is_some apart.0), quieted_apart lines apart.1)

apart_quieted : (lines : Rows Line) → AreApart (quieted lines) → AreApart lines
apart_quieted [] apart = tt
apart_quieted ((q, y) ∷ lines) apart =
    (none_of (value_at q lines) (sym (some_quieted q lines) ∙ ap is_some apart.0), apart_quieted lines apart.1)

pub fit_hushed : (o : List ℕ) (e : End) → IsFit e → IsFit (put_back o (hushed e))
fit_hushed o e f = grind (arith, orderly_same, quieted_apart, quieted_up, quieted_at)

pub fit_back : (o : List ℕ) (e : End) → IsFit (put_back o (hushed e)) → IsFit e
fit_back o e f = grind (arith, orderly_same, put_back, apart_quieted, up_quieted, quieted_at)

pub fit_packet : SessionLaws → StillWaits → (unit : List ℕ) (e : End) → e.carrier.ended ≡ None → IsFit e → IsFit (after_packet e unit)
fit_packet laws law unit e lasts f =
    search (
      attended_then (with_carrier (carriers.after_packet e.carrier unit) e) (after_packet e unit) (packet_is e unit),
      packet_sound laws unit e lasts (f.attended lasts) f.sound,
      packet_asked law unit e lasts (f.sound lasts) f.asks,
    )

-- ---- the session of a connection that is gone indicates nothing when it is lost

quiet_loss : (s : Listener) → shows_loss s.state.phase ≡ false → (react s broken).shown ≡ []
unfolding react
quiet_loss s h = grind arith

gone_quiet : (e : End) (r : ℕ) (s : Listener) → e.carrier.ended ≡ None → IsFit e → kept_at r e.lines ≡ Some s →
    value_at r e.carrier.live ≡ None → (b c : Bool) → may_abort s.state.phase ≡ b →
    shows_loss s.state.phase ≡ c → c ≡ false
gone_quiet e r s lasts f kept none b false m shows = refl
gone_quiet e r s lasts f kept none true true m shows =
    let open_is : is_open r e.carrier ≡ true = (f.sound lasts).links lasts r s kept (or_right _ (may_abort s.state.phase) m) in
    both (is_open r e.carrier) open_is (grind arith)
gone_quiet e r s lasts f kept none false true m shows =
    let waits : is_wait_transport s.state.phase ≡ true = grind arith in
    grind arith

pub gone_shows : (e : End) (r : ℕ) (s : Listener) → e.carrier.ended ≡ None → IsFit e → kept_at r e.lines ≡ Some s →
    value_at r e.carrier.live ≡ None → (react s broken).shown ≡ []
gone_shows e r s lasts f kept none =
    quiet_loss s (gone_quiet e r s lasts f kept none (may_abort s.state.phase) (shows_loss s.state.phase) refl refl)

-- ---- lines of connections that are gone, if nothing is pending

-- what the sessions of some references indicate when they are lost
abbrev ShowNothing : (ℕ → Bool) → Rows Line → Type 0
ShowNothing K lines = (r : ℕ) (s : Listener) → kept_at r lines ≡ Some s → K r ≡ false → (react s broken).shown ≡ []

pub kept_first : (q : ℕ) (y : Line) (lines : Rows Line) → kept_at q ((q, y) ∷ lines) ≡ y.session
kept_first q y lines = let e = eq-eqb q q refl in rw e refl

shown_none : (o : Option Listener) → ((s : Listener) → o ≡ Some s → (react s broken).shown ≡ []) → shown_at_loss o ≡ []
shown_none o h = grind arith

still_lines : (K : ℕ → Bool) (lines : Rows Line) → AreApart lines → waits lines ≡ false → ShowNothing K lines → AreStill K lines
still_lines K [] apart quiet shows = tt
still_lines K ((q, y) ∷ lines) apart quiet shows = (
  search (arith, quiet_line, or_first, shown_none, kept_first),
  still_lines K lines apart.1 (or_second (line_waits y) (waits lines) quiet)
      (λ r s is gone. shows r s (grind arith) gone),
)

pub fit_still : (e : End) → e.carrier.ended ≡ None → IsFit e → waits e.lines ≡ false → AreStill (reached e.carrier) e.lines
fit_still e lasts f quiet = grind (arith, still_lines, reached, gone_shows)

-- ---- accounts

abbrev pub pruned_account : Account → Account
pruned_account a = record { end = pruned a.end; told = a.told }

pub quieted_live : (live : Rows Connection) (lines : Rows Line) → live_lines live (quieted lines) ≡ quieted (live_lines live lines)
quieted_live live [] = refl
quieted_live live ((q, y) ∷ lines) = grind (arith, quieted_live live lines)

pub account_alike : (t : List (ℕ × Shown)) (o : List ℕ) (a b : End) → SameInLive a b →
    pruned_account (account_of t o a) ≡ pruned_account (account_of t o b)
account_alike t o a b h = grind (arith, made, quieted_live)

-- all its indications were given
pub none_waits : (lines : Rows Line) → waits (quieted lines) ≡ false
none_waits [] = refl
none_waits ((q, y) ∷ lines) = none_waits lines
