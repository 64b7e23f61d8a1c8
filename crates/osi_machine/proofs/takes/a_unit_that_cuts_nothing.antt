-- Taking a unit that cuts nothing off: the conditions, and what is discarded, data, requests, releases and confirmations.
-- For the other units, and each_step_keeps_both_sides.
use Rattle.osi_machine.proofs.Vocabulary.{append-nil, State, Meaning, lower, is_restarting, is_restart_due, is_release_due, is_releasing}
use Rattle.osi_machine.proofs.Vocabulary.{drops, next, Item, cutat, Owners, turned_owners, is_acted_on, seen, got_in, cut_by, owners_after}
use Rattle.osi_machine.proofs.Vocabulary.{AllFit, flush, stops, heard, hears, view_next, data_in, data_of, Party, Core, taking}
use Rattle.osi_machine.proofs.Vocabulary.{AreConsistent, and_from, FN, NF, MIA, MAA, minor_confirmed, major_confirmed, Ready, ReleaseDue}
use Rattle.osi_machine.proofs.Vocabulary.{becomes, ◌≡◌, refl, sym, ◌∙◌, ap, subst, ℕ, ◌≤◌, ◌<◌, Bool, true, false, not, if◌then◌else◌, List}
use Rattle.osi_machine.proofs.Vocabulary.{[], ◌∷◌, ◌++◌, arith, ◌&&◌, append_assoc, DT, FunctionalUnits, PT, Tokens, takes_data}
use Rattle.osi_machine.proofs.Vocabulary.{IsConsistent, is_opening}
use Rattle.osi_machine.proofs.basics.what_holds_in_each_phase.{if_second, if_first, excluded, implied_two, by_test, implied}
use Rattle.osi_machine.proofs.channels.a_unit_is_dropped_bad_or_acted_on.{next_acted, next_dropped, restart_acted, fit_acts}
use Rattle.osi_machine.proofs.channels.what_every_unit_in_flight_keeps.{heard_hears, unreleased, due_end, hears_kept}
use Rattle.osi_machine.proofs.channels.a_deaf_side_acts_on_nothing.{not_both}
use Rattle.osi_machine.proofs.channels.a_held_token_keeps_units_out.{flush_open}
use Rattle.osi_machine.proofs.invariant.what_holds_of_both_sides.{IsOfProfile, Stands, Tokens_of, matched, phase_there, Half}
use Rattle.osi_machine.proofs.invariant.each_step_keeps_one_side.{SessionLaws, taking_kept}
use Rattle.osi_machine.proofs.invariant.no_side_is_over.{alive, taken_party, takes_as}
use Rattle.osi_machine.proofs.invariant.a_side_that_listens.{listens, is_open}
use Rattle.osi_machine.proofs.calls.a_call_and_its_unit.{confirmed_at, in_phase, moved_to}

-- the other side, once the first unit was taken
abbrev pub rest_of : Party → List Meaning → Party
rest_of y us = record { session = y.session; view = y.view; said = y.said; got = y.got; sent = us }

-- the connection, if these units are all that is in flight to this side
abbrev pub at : Core → List Meaning → Core
at w us = record { history = w.history; owner = w.owner; own = w.own; peer = rest_of w.peer us }

pub stands_at : (w : Core) (us : List Meaning) → w.peer.sent ≡ us → Stands w → Stands (at w us)
stands_at w us e s = search arith

-- this side, and the connection, after it took the first
abbrev pub party_after : Party → State → List Item → List (List ℕ) → Party
party_after x r v got = record { session = r; view = v; said = x.said; got = got; sent = x.sent }

abbrev pub after_take : Core → List Meaning → List Item → State → List Item → List (List ℕ) → Owners → Core
after_take w us h r v got o = record { history = h; owner = o; own = party_after w.own r v got; peer = rest_of w.peer us }

-- The side that takes it is r after it, and has seen v; o are the owners after it.
pub record Moves (w : Core) (u : Meaning) (us : List Meaning) (r : State) (v : List Item) (got : List (List ℕ)) (o : Owners) : Type 0 where
  pub stays : stops w.own.session u ≡ false
  pub next : next w.own.session u ≡ r
  pub view : view_next w.own.session u w.own.view ≡ v
  pub gets : (if drops w.own.session u then w.own.got else w.own.got ++ got_in w.own.session u) ≡ got
  pub history : (if is_acted_on w.own.session u then cut_by w.own.session u w.history else w.history) ≡ w.history
  pub owner : (if is_acted_on w.own.session u then owners_after w.own.session u w.owner else w.owner) ≡ o
  pub tokens : Tokens_of o r (flush w.own.session (u ∷ us)) (heard w.own.session (u ∷ us))
  pub others : Tokens_of (turned_owners o) w.peer.session (flush w.peer.session w.own.sent) (heard w.peer.session w.own.sent)
  pub released : is_release_due (heard w.peer.session w.own.sent).phase ≡ true → is_releasing r.phase ≡ true
  pub cut : is_restarting (heard w.own.session (u ∷ us)).phase ≡ true → v ≡ cutat r.base w.history r.numbers.next
  pub due : is_restart_due r.phase ≡ true → w.peer.view ≡ w.history
  pub other_due : is_restart_due w.peer.session.phase ≡ true → v ≡ w.history
  pub stream : (flush w.own.session (u ∷ us)).units.duplex ≡ true → got ++ data_of us ≡ w.own.got ++ data_of (u ∷ us)
  pub flag : r.numbers.answers ≡ true → (heard w.peer.session w.own.sent).numbers.answers ≡ false
  pub below : hears (heard w.own.session (u ∷ us)).phase ≡ true → (n : ℕ) → (heard w.peer.session w.own.sent).base ≤ n
      → n < (heard w.peer.session w.own.sent).numbers.confirmed → n < r.numbers.next
  pub reach : r.numbers.answers ≡ true → lower r.numbers.next (heard w.peer.session w.own.sent).numbers.confirmed ≤ r.numbers.confirmed
  pub caller : r.is_caller ≡ w.own.session.is_caller

-- ---- what the taker will be is what it was to be

pub heard_is : (s r : State) (u : Meaning) (us : List Meaning) → stops s u ≡ false → next s u ≡ r → heard s (u ∷ us) ≡ heard r us
heard_is s r u us st e = ap (λ (b : Bool). if b then s else heard (next s u) us) st ∙ ap (λ (q : State). heard q us) e

pub flush_is : (s r : State) (u : Meaning) (us : List Meaning) → next s u ≡ r → flush s (u ∷ us) ≡ flush r us
flush_is s r u us e = ap (λ (q : State). flush q us) e

-- what is known of the taker is what it takes
pub takes_path : (w : Core) (u : Meaning) (us : List Meaning) (h : List Item) (r : State) (v : List Item) (got : List (List ℕ)) (o : Owners)
    → Half w.owner w.own (rest_of w.peer (u ∷ us)) → next w.own.session u ≡ r → view_next w.own.session u w.own.view ≡ v
    → (if drops w.own.session u then w.own.got else w.own.got ++ got_in w.own.session u) ≡ got
    → (if is_acted_on w.own.session u then cut_by w.own.session u w.history else w.history) ≡ h
    → (if is_acted_on w.own.session u then owners_after w.own.session u w.owner else w.owner) ≡ o
    → after_take w us h r v got o ≡ taking w (u ∷ us)
takes_path w u us h r v got o half e view gets cut owner =
    let party = takes_as w.own u (alive w.owner w.own (rest_of w.peer (u ∷ us)) half) half.fits.0 in
    let same : taken_party w.own u ≡ party_after w.own r v got =
    λ i. record { session = e i; view = view i; said = w.own.said; got = gets i; sent = w.own.sent } in
    λ i. record { history = sym cut i; owner = sym owner i; own = sym (party ∙ same) i; peer = rest_of w.peer us }

-- the invariant of both sides is kept
pub moves_stands : SessionLaws → (w : Core) (u : Meaning) (us : List Meaning) (r : State) (v : List Item) (got : List (List ℕ)) (o : Owners)
    → w.peer.sent ≡ u ∷ us → Stands w → Moves w u us r v got o → Stands (taking w (u ∷ us))
moves_stands laws w u us r v got o e s k =
    let h = stands_at w (u ∷ us) e s in
    let path = takes_path w u us w.history r v got o h.own k.next k.view k.gets k.history k.owner in
    let flushed_is = flush_is w.own.session r u us k.next in
    let hearing_is = heard_is w.own.session r u us k.stays k.next in
    subst Stands path (record {
      consistent = subst AreConsistent (sym path) (taking_kept laws w (u ∷ us) e s.consistent);
      own = grind (arith, flushed_is, hearing_is);
      peer = grind (arith, flushed_is);
      own_views = grind (arith, flushed_is, hearing_is);
      peer_views = grind (arith, k.other_due);
      own_counts = rw (← hearing_is) (record { flag = k.flag; below = h.own_counts.below; reach = h.own_counts.reach });
      peer_counts = rw (← hearing_is) (record { flag = h.peer_counts.flag; below = k.below; reach = k.reach });
      pair = grind (arith, flushed_is);
    })

-- ---- a unit that is acted on, after which its taker listens

-- what shows no data gets none
pub none_got : (x : Party) (u : Meaning) → got_in x.session u ≡ []
    → (if drops x.session u then x.got else x.got ++ got_in x.session u) ≡ x.got
none_got x u e = grind (arith, if_first, append-nil)

pub same_stream : (got : List (List ℕ)) (u : Meaning) (us : List Meaning) → data_in u ≡ [] → got ++ data_of us ≡ got ++ data_of (u ∷ us)
same_stream got u us e = ap (λ (d : List (List ℕ)). got ++ (d ++ data_of us)) (sym e)

-- the conditions on it: r is its taker then, and o are the owners
pub record Calm (w : Core) (u : Meaning) (us : List Meaning) (r : State) (o : Owners) : Type 0 where
  pub acts : drops w.own.session u ≡ false
  pub stays : stops w.own.session u ≡ false
  pub next : next w.own.session u ≡ r
  pub history : cut_by w.own.session u w.history ≡ w.history
  pub owner : owners_after w.own.session u w.owner ≡ o
  pub caller : r.is_caller ≡ w.own.session.is_caller
  -- with duplex all data is got
  pub stream : (flush w.own.session (u ∷ us)).units.duplex ≡ true → got_in w.own.session u ≡ data_in u
  pub listens : is_restarting r.phase ≡ false
  pub owes : is_restart_due r.phase ≡ false
  pub tokens : Tokens_of o r (flush w.own.session (u ∷ us)) (heard w.own.session (u ∷ us))
  pub others : Tokens_of (turned_owners o) w.peer.session (flush w.peer.session w.own.sent) (heard w.peer.session w.own.sent)
  pub released : is_release_due (heard w.peer.session w.own.sent).phase ≡ true → is_releasing r.phase ≡ true
  pub flag : r.numbers.answers ≡ true → (heard w.peer.session w.own.sent).numbers.answers ≡ false
  pub below : hears (heard w.own.session (u ∷ us)).phase ≡ true → (n : ℕ) → (heard w.peer.session w.own.sent).base ≤ n
      → n < (heard w.peer.session w.own.sent).numbers.confirmed → n < r.numbers.next
  pub reach : r.numbers.answers ≡ true → lower r.numbers.next (heard w.peer.session w.own.sent).numbers.confirmed ≤ r.numbers.confirmed

-- no answer is due at the other
none_due : (w : Core) (u : Meaning) (us : List Meaning) (r : State) → Stands (at w (u ∷ us)) → next w.own.session u ≡ r
    → is_restarting r.phase ≡ false → is_restart_due w.peer.session.phase ≡ true → ⊥
none_due w u us r h e listens due =
    let same = flush_is w.own.session r u us e in
    let heeds = hears_kept r us (ap not listens) (subst (λ (q : State). AllFit q us) e h.own.fits.1) in
    let met = phase_there hears (λ q. not (is_restart_due q)) refl h.own (ap (λ (q : State). hears q.phase) same ∙ heeds) in
    not_both _ (ap (λ (q : State). not (is_restart_due q.phase)) (sym (due_end w.peer.session w.own.sent due h.peer.fits)) ∙ met) due

pub calm_stands : SessionLaws → (w : Core) (u : Meaning) (us : List Meaning) (r : State) (o : Owners) → w.peer.sent ≡ u ∷ us → Stands w
    → (Stands (at w (u ∷ us)) → Calm w u us r o) → Stands (taking w (u ∷ us))
calm_stands laws w u us r o e s calm =
    let h = stands_at w (u ∷ us) e s in
    let k = calm h in
    let fits = subst (λ (q : State). AllFit q us) k.next h.own.fits.1 in
    let heeds = heard_hears r us (ap not k.listens) fits in
    let hearing_is = heard_is w.own.session r u us k.stays k.next in
    let met = none_due w u us r h k.next k.listens in
    moves_stands laws w u us r (seen w.own.session u w.own.view) (w.own.got ++ got_in w.own.session u) o e s
    (search (arith, if_second, fit_acts, alive, append_assoc, not_both))

-- to take u keeps the invariant
abbrev pub Takes : Meaning → Type 0
Takes u = (w : Core) (us : List Meaning) → w.peer.sent ≡ u ∷ us → drops w.own.session u ≡ false → Stands w → Stands (taking w (u ∷ us))

-- u moves no token, and leaves of its taker what r says
abbrev pub Calms : Meaning → (State → State) → Type 0
Calms u r = (w : Core) (us : List Meaning) → drops w.own.session u ≡ false → Stands (at w (u ∷ us)) → Calm w u us (r w.own.session) w.owner

pub calm_taken : SessionLaws → (u : Meaning) (r : State → State) → Calms u r → Takes u
calm_taken laws u r calm w us e d s = calm_stands laws w u us (r w.own.session) w.owner e s (calm w us d)

-- ---- data, and a request for tokens

pub data_calm : (octets : List ℕ) → Calms (DT octets) (λ s. s)
data_calm octets w us d h =
    let g = h.own.fits.0.good d in
    grind (
      arith,
      excluded takes_data is_restarting refl w.own.session.phase g.expected,
      excluded takes_data is_restart_due refl w.own.session.phase g.expected,
      flush_open w.own.session (DT octets ∷ us) (excluded takes_data is_opening refl w.own.session.phase g.expected) h.own.fits,
    )

pub please_calm : (k : Tokens) (octets : List ℕ) → Calms (PT k octets) (λ s. s)
please_calm k octets w us d h = grind arith

-- ---- what is discarded

pub dropped_stops : (s : State) (u : Meaning) → drops s u ≡ true → stops s u ≡ false
dropped_stops s u d = by_test (stops s u) (λ e. absurd (let a = restart_acted s u e in cc)) (λ e. e)

-- with duplex there is no restart, so that no data is discarded
dropped_data : (x : Party) (u : Meaning) → drops x.session u ≡ true → IsConsistent x
    → (is_restarting x.session.phase ≡ true → IsOfProfile x.session.units × (x.session.units.duplex ≡ true)) → data_in u ≡ []
dropped_data x u d c p = grind arith

dropped_moves : (w : Core) (u : Meaning) (us : List Meaning) → drops w.own.session u ≡ true → Stands (at w (u ∷ us))
    → Moves w u us w.own.session w.own.view w.own.got w.owner
dropped_moves w u us d h =
    let st = dropped_stops w.own.session u d in
    let idle : is_acted_on w.own.session u ≡ false = grind arith in
    let none : ((flush w.own.session (u ∷ us)).units.duplex ≡ true → data_in u ≡ []) =
    (λ x. dropped_data w.own u d h.consistent.own (λ k.
    let units = (flush_open w.own.session (u ∷ us) (excluded is_restarting is_opening refl w.own.session.phase k) h.own.fits).units in
    (subst IsOfProfile units h.pair.profile, sym (ap (λ (v : FunctionalUnits). v.duplex) units) ∙ x))) in
    search (arith, next_dropped, same_stream)

pub dropped_taken : SessionLaws → (w : Core) (u : Meaning) (us : List Meaning) → w.peer.sent ≡ u ∷ us → drops w.own.session u ≡ true
    → Stands w
    → Stands (taking w (u ∷ us))
dropped_taken laws w u us e d s =
    moves_stands laws w u us w.own.session w.own.view w.own.got w.owner e s (dropped_moves w u us d (stands_at w (u ∷ us) e s))

-- ---- a request for release

pub finish_calm : (octets : List ℕ) → Calms (FN octets) (in_phase ReleaseDue)
finish_calm octets w us d h = grind arith

-- ---- its refusal: the other does not owe the answer any more

after_refusal : (w : Core) (octets : List ℕ) (us : List Meaning) → drops w.own.session (NF octets) ≡ false → Stands (at w (NF octets ∷ us))
    → is_release_due (heard w.peer.session w.own.sent).phase ≡ true → ⊥
after_refusal w octets us d h r =
    let g = h.own.fits.0.good d in
    let side = listens (at w (NF octets ∷ us)) h (implied is_releasing is_open refl w.own.session.phase g.expected) in
    let end = side.all in
    let here = implied_two (λ p q. matched p q && is_release_due p) (λ p q. is_releasing q) refl
    (flush w.peer.session w.own.sent).phase (flush w.own.session (NF octets ∷ us)).phase
    (grind (arith, and_from, matched)) in
    let same : next w.own.session (NF octets) ≡ becomes w.own.session (NF octets) = next_acted w.own.session (NF octets) d in
    let not_asked = unreleased (next w.own.session (NF octets)) us (ap (λ (q : State). is_releasing q.phase) same) h.own.fits.1 in
    cc

pub not_finished_calm : (octets : List ℕ) → Calms (NF octets) (in_phase Ready)
not_finished_calm octets w us d h = search (arith, next_acted, after_refusal)

-- ---- the confirmation of a minor point, which a side takes that has sent points last, and that of a major point

pub point_confirmed_calm : (n : ℕ) (octets : List ℕ) → Calms (MIA n octets) (confirmed_at n)
unfolding minor_confirmed
point_confirmed_calm n octets w us d h = grind arith

pub major_confirmed_calm : (n : ℕ) (octets : List ℕ) → Calms (MAA n octets) (moved_to Ready major_confirmed)
unfolding major_confirmed
major_confirmed_calm n octets w us d h = grind arith
