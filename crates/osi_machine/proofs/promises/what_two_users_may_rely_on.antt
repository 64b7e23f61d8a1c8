-- What two users may rely on, from the invariant of both sides.
-- For the laws of the core, and for those of the machine.
use Rattle.osi_machine.proofs.Vocabulary.{append-nil, is_profile, State, Numbers, Meaning, DT, MIP, MAP, FunctionalUnits, is_restarting}
use Rattle.osi_machine.proofs.Vocabulary.{Item, Octets, Point, PointKind, points, upto, AreNumberedFrom, Begins, Agree, is_acted_on, seen}
use Rattle.osi_machine.proofs.Vocabulary.{cut_by, data_of, Offer, CanBeOffered, Party, Core, taking, core_start, is_opening, IsReached}
use Rattle.osi_machine.proofs.Vocabulary.{OneHolder, HoldsItsOwn, TakesNoFault, SeesTheHistory, ViewsAgree, GotWhatWasSaid}
use Rattle.osi_machine.proofs.Vocabulary.{TakesTheNextItem, ConfirmedIsSeen, OfBoth, ◌≡◌, refl, sym, ◌∙◌, ap, subst, ℕ, zero, suc, ◌+◌, ◌-◌}
use Rattle.osi_machine.proofs.Vocabulary.{◌≤◌, ◌<◌, true, not, List, [], ◌∷◌, ◌++◌, length, inl, inr, append_assoc, arith}
use Rattle.osi_machine.specs.Core.{turned}
use Rattle.osi_machine.proofs.basics.what_holds_in_each_phase.{by_test}
use Rattle.osi_machine.proofs.channels.a_unit_is_dropped_bad_or_acted_on.{next_hears}
use Rattle.osi_machine.proofs.channels.what_every_unit_in_flight_keeps.{kept_heard}
use Rattle.osi_machine.proofs.channels.a_held_token_keeps_units_out.{flush_open, heard_open}
use Rattle.osi_machine.proofs.channels.what_a_side_will_have_seen.{heard_grown, listener_begins, begins_twice}
use Rattle.osi_machine.proofs.invariant.what_holds_of_both_sides.{hearing, Views, Stands, profile_of, profile_data}
use Rattle.osi_machine.proofs.invariant.each_step_keeps_one_side.{SessionLaws}
use Rattle.osi_machine.proofs.invariant.no_side_is_over.{first_is_no_fault}
use Rattle.osi_machine.proofs.calls.a_unit_that_changes_no_state.{said_seen}
use Rattle.osi_machine.proofs.each_step_keeps_both_sides.{taking_stands, run_stands, turned_stands}

-- ---- the invariant holds of each connection that is reached

pub offer_stands : (o : Offer) → CanBeOffered o → is_profile o.requirements ≡ true → Stands (core_start o)
offer_stands o serial profile = grind (arith, profile_of, profile_data)

pub reached_stands : SessionLaws → (w : Core) → IsReached w → Stands w
reached_stands laws w r = grind (arith, run_stands, offer_stands)

-- what then holds of one side holds of both
pub of_both : SessionLaws → (P : Core → Type 0) → ((w : Core) → Stands w → P w) → (w : Core) → IsReached w → OfBoth P w
of_both laws P all w r = let s = reached_stands laws w r in (all w s, all (turned w) (turned_stands w s))

-- ---- tokens

pub one_holder : (w : Core) → Stands w → OneHolder w
one_holder w s t = grind arith

pub holds_its_own : (w : Core) → Stands w → HoldsItsOwn w
holds_its_own w s t = s.own.meeting.holds t

-- ---- no fault

pub takes_no_fault : (w : Core) → Stands w → TakesNoFault w
takes_no_fault w s u us e = first_is_no_fault w.owner w.own w.peer u us e s.own

-- ---- what was seen

upto_begins : (k : ℕ) (h : List Item) → Begins (upto k h) h
upto_begins zero h = (h, refl)
upto_begins (suc k) [] = ([], refl)
upto_begins (suc k) (Octets octets ∷ h) = let b = upto_begins (suc k) h in (b.0, ap (λ (r : List Item). Octets octets ∷ r) b.1)
upto_begins (suc k) (Point n kind octets ∷ h) = let b = upto_begins k h in (b.0, ap (λ (r : List Item). Point n kind octets ∷ r) b.1)

view_begins : (h : List Item) (x y : Party) → Views h x y → Begins x.view h
view_begins h x y v = search (arith, by_test, listener_begins, hearing x y, upto_begins (x.session.numbers.next - x.session.base) h)

pub sees_the_history : (w : Core) → Stands w → SeesTheHistory w
sees_the_history w s = view_begins w.history w.own w.peer s.own_views

-- two prefixes of one list
abbrev tail_of : {A : Type 0} → List A → List A
tail_of [] = []
tail_of (x ∷ xs) = xs

agree_of : {A : Type 0} → (a b m k : List A) → a ++ m ≡ b ++ k → Agree a b
agree_of [] b m k e = inl (b, refl)
agree_of (x ∷ a) [] m k e = inr (x ∷ a, refl)
agree_of (x ∷ a) (y ∷ b) m k e = grind (arith, agree_of a b m k (ap tail_of e))

begins_agree : {A : Type 0} → (a b h : List A) → Begins a h → Begins b h → Agree a b
begins_agree a b h p q = agree_of a b p.0 q.0 (p.1 ∙ sym q.1)

pub views_agree : (w : Core) → Stands w → ViewsAgree w
views_agree w s = search (arith, begins_agree, view_begins)

-- with duplex
pub got_what_was_said : (w : Core) → Stands w → GotWhatWasSaid w
got_what_was_said w s d = by_test (is_opening w.own.session.phase)
    (λ e. subst (λ (r : List (List ℕ)). Begins r w.peer.said) (sym (s.consistent.own.fresh e).got) (w.peer.said, refl))
    (λ e. let u = (flush_open w.own.session w.peer.sent e s.own.fits).units in
    (data_of w.peer.sent, (s.own_views.stream (ap (λ (f : FunctionalUnits). f.duplex) u ∙ d)).0))

-- ---- what is taken

pub none_brought : (w : Core) → Stands w → Begins (w.own.view ++ []) w.history
none_brought w s = subst (λ (v : List Item). Begins v w.history) (sym (append-nil w.own.view)) (sees_the_history w s)

-- what was seen after it
seen_next : SessionLaws → (w : Core) (u : Meaning) (us : List Meaning) → w.peer.sent ≡ u ∷ us → is_acted_on w.own.session u ≡ true
    → Stands w
    → Begins (seen w.own.session u w.own.view) (cut_by w.own.session u w.history)
seen_next laws w u us e a s =
    grind (arith, sees_the_history (taking w (u ∷ us)) (taking_stands laws w (u ∷ us) e s), taking_stands laws w (u ∷ us) e s)

pub takes_the_next_item : SessionLaws → (w : Core) → Stands w → TakesTheNextItem w
takes_the_next_item laws w s (DT o) us e a =
    grind (arith, said_seen w.own.session.units.duplex w.own.view (Octets o), seen_next laws w (DT o) us e a s)
takes_the_next_item laws w s (MIP c n o) us e a = seen_next laws w (MIP c n o) us e a s
takes_the_next_item laws w s (MAP n o) us e a = seen_next laws w (MAP n o) us e a s
takes_the_next_item laws w s _ us e a = none_brought w s

-- ---- what is confirmed

numbered_at : (b : ℕ) (before : List Item) (n : ℕ) (kind : PointKind) (octets : List ℕ) (more : List Item)
    → AreNumberedFrom b (before ++ Point n kind octets ∷ more)
    → n ≡ b + points before
numbered_at b [] n kind octets more a = let e = a.0 in omega arith
numbered_at b (Octets o ∷ before) n kind octets more a = numbered_at b before n kind octets more a
numbered_at b (Point m k o ∷ before) n kind octets more a = let e = numbered_at (b + 1) before n kind octets more a.1 in omega arith

-- a point of the history with a number below what was seen is in what was seen
seen_there : (b n : ℕ) (before : List Item) (kind : PointKind) (octets : List ℕ) (v more rest : List Item)
    → AreNumberedFrom b (before ++ Point n kind octets ∷ more)
    → v ++ rest ≡ before ++ Point n kind octets ∷ more → n < b + points v → Begins (before ++ Point n kind octets ∷ []) v
seen_there b n before kind octets [] more rest a e l = absurd (let k = numbered_at b before n kind octets more a in omega arith)
seen_there b n [] kind octets (x ∷ v) more rest a e l =
    let same : Point n kind octets ≡ x = cc in
    (v, ap (λ (i : Item). i ∷ v) same)
seen_there b n (Octets o ∷ before) kind octets (Octets p ∷ v) more rest a e l =
    let same : Octets o ≡ Octets p = cc in
    let k = seen_there b n before kind octets v more rest a (cc) l in
    (k.0, ap (λ (is : List Item). Octets o ∷ is) k.1 ∙ ap (λ (i : Item). i ∷ v) same)
seen_there b n (Point m j o ∷ before) kind octets (Point q d p ∷ v) more rest a e l =
    let same : Point m j o ≡ Point q d p = cc in
    let k = seen_there (b + 1) n before kind octets v more rest a.1 (cc) (omega arith) in
    (k.0, ap (λ (is : List Item). Point m j o ∷ is) k.1 ∙ ap (λ (i : Item). i ∷ v) same)
seen_there b n _ kind octets (x ∷ v) more rest a e l = absurd (cc)

pub none_in_nil : (before : List Item) (i : Item) → Begins (before ++ i ∷ []) [] → ⊥
none_in_nil [] i b = let e = ap length b.1 in omega arith
none_in_nil (j ∷ before) i b = let e = ap length b.1 in omega arith

pub confirmed_is_seen : (w : Core) → Stands w → ConfirmedIsSeen w
confirmed_is_seen w s before n kind octets b l r = by_test (is_opening w.own.session.phase)
    (λ e. absurd (grind (arith, none_in_nil)))
    (λ e. let begun = flush_open w.own.session w.peer.sent e s.own.fits in
    let all = begins_twice (before ++ Point n kind octets ∷ []) w.own.view w.history b (sees_the_history w s) in
    let number = numbered_at w.own.session.base before n kind octets all.0 (grind (arith, append_assoc)) in
    let grown = heard_grown w.own.session.numbers.confirmed w.own.session w.peer.sent
    (record { phase = e; from = omega arith; to = s.consistent.own.sound.ordered.confirmed_to }) s.own.fits in
    let base = (heard_open w.own.session w.peer.sent e s.own.fits).base in
    let hears = kept_heard (λ (k : State). not (is_restarting k.phase) ≡ true) (λ k u p g. next_hears k u p) w.peer.session w.own.sent
    (ap not r) s.peer.fits in
    let below = s.own_counts.below hears n (subst (λ (k : ℕ). k ≤ n) (sym base) (omega arith)) (omega arith) in
    by_test (is_opening w.peer.session.phase)
    (λ f. absurd (let z = ap (λ (v : Numbers). v.next) (s.consistent.peer.fresh f).numbers in omega arith))
    (λ f. let there = sym (flush_open w.peer.session w.own.sent f s.peer.fits).base ∙ s.peer.meeting.base in
    let p = subst (λ (m : ℕ). AreNumberedFrom m w.history) (sym there) s.pair.numbered in
    let seen = view_begins w.history w.peer w.own s.peer_views in
    let whole = append_assoc before (Point n kind octets ∷ []) all.0 in
    seen_there w.peer.session.base n before kind octets w.peer.view all.0 seen.0
    (subst (AreNumberedFrom w.peer.session.base) (sym all.1 ∙ whole) p) (seen.1 ∙ sym all.1 ∙ whole) (omega arith)))
