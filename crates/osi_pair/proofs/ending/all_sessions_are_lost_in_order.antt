-- The indications of a side that loses all its connections: those of the machine, in its order.
-- For breaks and ends, packets and carries.
use Rattle.osi_session.specs.Listening as words
use Rattle.osi_stack.specs.State as stack
use Rattle.osi_pair.proofs.Vocabulary.{map-append, without_length, ◌≡◌, ◌≢◌, refl, sym, ◌∙◌, ap, ℕ, zero, suc, ◌+◌, ◌<◌, ◌≤◌, Bool, true}
use Rattle.osi_pair.proofs.Vocabulary.{false, if◌then◌else◌, List, [], ◌∷◌, ◌++◌, length, map, nat_lt, nat_le, Option, Some, None, IsSome}
use Rattle.osi_pair.proofs.Vocabulary.{inl, inr, ◌⊎◌, arith, slice_get, slice_get_within, eqb-true, nat_tests, append-nil, length-map}
use Rattle.osi_pair.proofs.Vocabulary.{kept_first, quieted_at, up_more, rise_lower, without_rise, without_up, length-append, never}
use Rattle.osi_pair.proofs.Vocabulary.{was_given, place_at, RiseFrom, AreUpTo, Rows, value_at, without, Connection, absent, beyond}
use Rattle.osi_pair.proofs.Vocabulary.{without_other, side, connection_at, shown_at, Seat, Line, Tables, awaits, seen_from, shown_in_order}
use Rattle.osi_pair.proofs.Vocabulary.{Listener, Standing, broken as broken_off, react, is_ended, shows_loss, Shown, Lost, shown_at_loss}
use Rattle.osi_pair.proofs.Vocabulary.{all_lost, kept_at, Holding, session_in, are_lost, entry_in, side_in, is_parting, transport_in}
use Rattle.osi_pair.proofs.Vocabulary.{IsSeated, IsInOrder, joining, waiting_in, quieted, shown_entries, Side}
use Rattle.osi_pair.proofs.turn.a_turn_keeps_the_match.{journals_join, shown_says}
use Rattle.osi_pair.proofs.session.an_end_with_nothing_pending.{none_first, none_second}

-- ---- a session that is lost

pub ended_shows : (s : Standing) → is_ended s.state.phase ≡ true → (react s broken_off).shown ≡ []
unfolding react
ended_shows s h = grind arith

-- by its phase: also as the session of an end indicates it
pub loss_shown : (s : Standing) → (react s broken_off).shown ≡ (if shows_loss s.state.phase then Lost ∷ [] else [])
unfolding react
loss_shown s = refl

pub loss_heard : (l : Listener) → (words.react l words.broken).shown ≡ (if shows_loss l.state.phase then Lost ∷ [] else [])
unfolding words.react
loss_heard l = refl

lost_so : (joined : Option (List ℕ)) (s : Standing) → (react s broken_off).shown ≡ shown_at_loss (Some (joining joined s))
unfolding react words.react
lost_so joined s = refl

-- ---- what is pending then

abbrev pub lost_of : ℕ → stack.Line → List (ℕ × Shown)
lost_of r line = map (λ shown. (r, shown)) (shown_at_loss line.session)

abbrev pub lost_in : Rows stack.Line → List (ℕ × Shown)
lost_in [] = []
lost_in ((r, line) ∷ lines) = lost_of r line ++ lost_in lines

pub waiting_lost : (lines : Rows stack.Line) → waiting_in lines ≡ [] → waiting_in (all_lost lines) ≡ lost_in lines
waiting_lost [] e = refl
waiting_lost ((r, line) ∷ lines) e =
    grind (
      arith,
      none_first,
      waiting_lost lines (none_second (λ shown. (r, shown)) line.waiting (waiting_in lines) e),
    )

-- ---- at most one for each live connection

without_fewer : (r : ℕ) (rows : Rows Connection) → IsSome (value_at r rows) → length rows ≡ length (without r rows) + 1
without_fewer r [] some = cc
without_fewer r ((q, c) ∷ rows) some = grind (arith, without_fewer r rows)

abbrev pub AreLive : Rows stack.Line → Rows Connection → Type 0
AreLive lines live = (q : ℕ) (s : Listener) → kept_at q lines ≡ Some s → shows_loss s.state.phase ≡ true → IsSome (value_at q live)

-- without the first line
live_behind : (r : ℕ) (line : stack.Line) (lines : Rows stack.Line) (live : Rows Connection) → RiseFrom r lines →
    AreLive ((r, line) ∷ lines) live → AreLive lines (without r live)
live_behind r line lines live rise all q s kept shown =
    let apart : q ≢ r = λ same. grind (arith, absent) in
    grind (arith, without_other, all q s)

-- if it indicates a loss, its connection is live
one_lost : (r : ℕ) (line : stack.Line) (live : Rows Connection) (o : Option Listener) → line.session ≡ o →
    ((s : Listener) → o ≡ Some s → shows_loss s.state.phase ≡ true → IsSome (value_at r live)) →
    length (lost_of r line) + length (without r live) ≤ length live
one_lost r line live None e here = grind (arith, without_length)
one_lost r line live (Some s) e here = grind (arith, without_length, without_fewer r live, loss_heard s, length-map, here s refl)

pub few_lost : (m : ℕ) (lines : Rows stack.Line) (live : Rows Connection) → RiseFrom m lines → AreLive lines live →
    length (lost_in lines) ≤ length live
few_lost m [] live rise all = omega arith
few_lost m ((r, line) ∷ lines) live rise all =
    let one = one_lost r line live line.session refl (λ s e lost. all r s (kept_first r line lines ∙ e) lost) in
    let rest = few_lost r lines (without r live) rise.1 (live_behind r line lines live rise.1 all) in
    grind (arith, length-append)

-- ---- in the order of the machine

-- what the side of each line indicates is what the session that is kept indicates
abbrev AreKept : Side → ℕ → List Line → Rows stack.Line → Type 0
AreKept side m ls lines =
    (i : ℕ) (l : Line) → slice_get ls i ≡ Some l →
    (react (seen_from (side_in side) l).own.session broken_off).shown ≡ shown_at_loss (kept_at (m + 1 + i) lines)

abbrev Ordered : Side → ℕ → List Line → Rows stack.Line → Type 0
Ordered side m ls lines = map Some (shown_in_order (side_in side) (m + 1) ls) ≡ map entry_in (shown_entries side (lost_in lines))

-- the losses of the next reference come first
lost_next : (m : ℕ) (lines : Rows stack.Line) → RiseFrom m lines →
    lost_in lines ≡ map (λ shown. (m + 1, shown)) (shown_at_loss (kept_at (m + 1) lines)) ++ lost_in (without (m + 1) lines)
lost_next m [] rise = refl
lost_next m ((r, line) ∷ lines) rise =
    let others = lost_next m lines (let above = rise.0 in rise_lower m r lines (omega arith) rise.1) in
    grind (arith, eqb-true, absent)

rise_next : (m : ℕ) (lines : Rows stack.Line) → RiseFrom m lines → RiseFrom (m + 1) (without (m + 1) lines)
rise_next m [] rise = tt
rise_next m ((r, line) ∷ lines) rise = grind (arith, eqb-true, nat_tests, without_rise)

ordered : (side : Side) (m : ℕ) (ls : List Line) (lines : Rows stack.Line) → RiseFrom m lines → AreUpTo (m + length ls) lines →
    AreKept side m ls lines → Ordered side m ls lines
ordered side m [] [] rise up all = refl
ordered side m [] ((r, line) ∷ lines) rise up all = let above = rise.0 in let below = up.0 in absurd (omega arith)
ordered side m (l ∷ ls) lines rise up all =
    let others = without (m + 1) lines in
    let up_to : AreUpTo (m + 1 + length ls) lines = up_more (m + suc (length ls)) (m + 1 + length ls) lines (omega arith) up in
    let still : (i : ℕ) → kept_at (m + 1 + suc i) lines ≡ kept_at (m + 1 + 1 + i) others = λ i.
    let apart : m + 1 + 1 + i ≢ m + 1 = (λ no. omega arith) in
    ap (λ n. kept_at n lines) (let e : m + 1 + suc i ≡ m + 1 + 1 + i = omega arith in e)
    ∙ ap session_in (sym (without_other (m + 1 + 1 + i) (m + 1) lines apart)) in
    let rest : Ordered side (m + 1) ls others = ordered side (m + 1) ls others (rise_next m lines rise)
    (without_up (m + 1 + length ls) (m + 1) lines up_to) (λ i x e. all (suc i) x e ∙ ap shown_at_loss (still i)) in
    let first : (react (seen_from (side_in side) l).own.session broken_off).shown ≡ shown_at_loss (kept_at (m + 1) lines) =
    all 0 l refl ∙ ap (λ n. shown_at_loss (kept_at n lines)) (let e : m + 1 + 0 ≡ m + 1 = omega arith in e) in
    ap (λ (w : List Shown). map Some (map (shown_at (side_in side) (m + 1)) w ++ shown_in_order (side_in side) (m + 1 + 1) ls)) first
    ∙ journals_join _ (shown_in_order (side_in side) (m + 1 + 1) ls) _ (shown_entries side (lost_in others))
    (shown_says side (m + 1) (shown_at_loss (kept_at (m + 1) lines))) rest
    ∙ ap (map entry_in) (grind (arith, map-append, lost_next m lines rise))

-- ---- the sides

-- a side that is lost indicates what the session that is kept of it indicates
kept_shows : (o : Option Listener) (joined : Option (List ℕ)) (seat : Seat) →
    ((s : Listener) → o ≡ Some s → s ≡ joining joined seat.session) → is_ended seat.session.state.phase ≡ true →
    (react seat.session broken_off).shown ≡ shown_at_loss o
kept_shows h joined seat kept over = grind (arith, ended_shows, lost_so)

seat_shows_by : (n : ℕ) (h : Holding) (seat : Seat) (never_given : Bool) (o : Option Connection) →
    nat_lt h.end.carrier.given n ≡ never_given → value_at n h.end.carrier.live ≡ o → AreUpTo h.end.carrier.given h.end.lines →
    IsSeated n h seat → (react seat.session broken_off).shown ≡ shown_at_loss (kept_at n h.end.lines)
seat_shows_by n h seat true o e at up s = grind (arith, nat_tests, loss_shown awaits, beyond)
seat_shows_by n h seat false None e at up s =
    let place : place_at n h.end.carrier ≡ was_given None =
    ap (λ (b : Bool). if b then never else was_given (value_at n h.end.carrier.live)) e ∙ ap was_given at in
    kept_shows (kept_at n h.end.lines) s.joined seat s.kept (s.over_now (ap is_parting (s.transport ∙ ap transport_in place)))
seat_shows_by n h seat false (Some c) e at up s = grind (arith, lost_so)

-- ---- the indications

pub none_kept : (n : ℕ) (old new : Rows stack.Line) → quieted new ≡ quieted (all_lost old) → kept_at n new ≡ None
none_kept n old new e = sym (quieted_at n new) ∙ ap (kept_at n) e ∙ quieted_at n (all_lost old) ∙ (are_lost old).none n

-- all are given, since there are few
all_shown : (lines new : Rows stack.Line) (live : Rows Connection) (first : List (ℕ × Shown)) → waiting_in lines ≡ [] → RiseFrom 0 lines →
    AreLive lines live → length live ≤ 64 → waiting_in (all_lost lines) ≡ first ++ waiting_in new →
    (waiting_in new ≡ []) ⊎ (length first ≡ 81) → waiting_in new ≡ []
all_shown lines new live first quiet rise all most shown (inl none) = none
all_shown lines new live first quiet rise all most shown (inr many) =
    grind (arith, few_lost 0 lines live rise all, length-append first (waiting_in new), waiting_lost lines quiet)

first_all : (lines : Rows stack.Line) (first rest : List (ℕ × Shown)) → waiting_in lines ≡ [] →
    waiting_in (all_lost lines) ≡ first ++ rest → rest ≡ [] → first ≡ lost_in lines
first_all lines first rest quiet shown none = grind (arith, append-nil, waiting_lost)

-- ---- one side

-- the facts of the end that is reported
pub record IsTold (old : Holding) (lines : Rows stack.Line) (first : List (ℕ × Shown)) : Type 0 where
  pub shown : waiting_in (all_lost old.end.lines) ≡ first ++ waiting_in lines
  pub same : quieted lines ≡ quieted (all_lost old.end.lines)
  pub most : (waiting_in lines ≡ []) ⊎ (length first ≡ 81)

abbrev pub AllSeated : Side → Holding → Tables → Type 0
AllSeated who h t =
    (n : ℕ) → 0 < n → n ≤ length t.lines → (l : Line) × (connection_at n t.lines ≡ Some l) × IsSeated n h (seen_from (side_in who) l).own

-- its journal, and that nothing more is pending
pub record SaysAll (who : Side) (lines : Rows stack.Line) (first : List (ℕ × Shown)) (t : Tables) : Type 0 where
  pub quiet : waiting_in lines ≡ []
  pub says : map Some (shown_in_order (side_in who) 1 t.lines) ≡ map entry_in (shown_entries who first)

module _ (who : Side) (h : Holding) (t : Tables) (order : IsInOrder h.end) (few : h.end.carrier.given ≤ length t.lines)
    (all : AllSeated who h t) where
  -- an indication of a kept session has a connection
  pub all_live : AreLive h.end.lines h.end.carrier.live
  all_live q s kept shown =
      let low : 0 < q = positive q kept in
      let high : q ≤ h.end.carrier.given = within (nat_le q h.end.carrier.given) refl in
      let seat = all q low (omega arith) in
      grind (arith, seat.2)
    where
      positive : (q : ℕ) → kept_at q h.end.lines ≡ Some s → 0 < q
      positive zero kept =
          let no : None ≡ Some s = sym (ap session_in (absent 0 0 h.end.lines (omega arith) order.rising)) ∙ kept in cc
      positive (suc q) kept = omega arith

      within : (b : Bool) → nat_le q h.end.carrier.given ≡ b → q ≤ h.end.carrier.given
      within true e = grind (arith, nat_tests)
      within false e = grind (arith, beyond, order.sound.known)

  all_kept : AreKept who 0 t.lines h.end.lines
  all_kept i l e =
      let less = slice_get_within t.lines i l e in
      let seat = all (suc i) (omega arith) (omega arith) in
      let known = order.sound.known in
      grind (arith, react, seat_shows_by)

  pub says_all : (lines : Rows stack.Line) (first : List (ℕ × Shown)) → IsTold h lines first → waiting_in h.end.lines ≡ [] →
      SaysAll who lines first t
  says_all lines first told quiet =
      let none = all_shown h.end.lines lines h.end.carrier.live first quiet order.rising all_live order.sound.orderly.live told.shown
      told.most in
      let entries_are = ordered who 0 t.lines h.end.lines order.rising
      (up_more h.end.carrier.given (0 + length t.lines) h.end.lines (omega arith) order.sound.known) all_kept in
      grind (arith, first_all)
