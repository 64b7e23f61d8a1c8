-- The calls of Minor and of Major keep the invariant of both sides.
-- For each_step_keeps_both_sides.
use Rattle.osi_machine.proofs.Vocabulary.{and_parts, ltb-true, lt-ltb, eq-eqb, or_left, and_from, not-true, and_right, list_any, State}
use Rattle.osi_machine.proofs.Vocabulary.{Phase, Numbers, FunctionalUnits, Ready, MajorAsked, Meaning, GT, MIP, MIA, MAP, FN, Token}
use Rattle.osi_machine.proofs.Vocabulary.{data_token, minor, major, has, has_right, is_ready, is_major_asked, is_restarting, may_ask}
use Rattle.osi_machine.proofs.Vocabulary.{may_hold, takes_please, takes_minor_ack, takes_restart, lower, point_sent, point_taken}
use Rattle.osi_machine.proofs.Vocabulary.{minor_confirmed, becomes, drops, Good, has_no_effect, passes_restarting, Minor, Major, after}
use Rattle.osi_machine.proofs.Vocabulary.{Item, PointKind, Point, points, minor_kind, major_point, is_plain, heard_view, needs_token, Core}
use Rattle.osi_machine.proofs.Vocabulary.{answered, is_opening, AreConsistent, is_release_due, seen, ◌≡◌, refl, sym, ◌∙◌, ap, subst, ℕ, ◌+◌}
use Rattle.osi_machine.proofs.Vocabulary.{◌≤◌, ◌<◌, Bool, true, false, not, ◌&&◌, nat_le, nat_lt, if◌then◌else◌, List, [], ◌∷◌, ◌++◌, ◌⊎◌}
use Rattle.osi_machine.proofs.Vocabulary.{inl, inr, Ok, arith, data_in}
use Rattle.osi_machine.proofs.basics.what_holds_in_each_phase.{implied, excluded, by_test, by_either}
use Rattle.osi_machine.proofs.channels.what_every_unit_in_flight_keeps.{heard_sends}
use Rattle.osi_machine.proofs.channels.a_deaf_side_acts_on_nothing.{not_both}
use Rattle.osi_machine.proofs.channels.a_held_token_keeps_units_out.{Holds, empty_has, united_has, nothing_to_see, none_needs}
use Rattle.osi_machine.proofs.channels.what_a_side_will_have_seen.{heard_counted, unseen, numbered_point}
use Rattle.osi_machine.proofs.invariant.what_holds_of_both_sides.{flushed, hearing, matched, IsOfProfile, Stands, phase_there}
use Rattle.osi_machine.proofs.invariant.each_step_keeps_one_side.{Keeps}
use Rattle.osi_machine.proofs.invariant.a_side_that_listens.{HasRight, right_of, other_lacks, Listens, is_open, listens, half, no_half}
use Rattle.osi_machine.proofs.calls.a_call_and_its_unit.{Shift, listening_stands, none_never, Sending, sending_stands, IsUnit, Sends, Sent}
use Rattle.osi_machine.proofs.calls.a_call_and_its_unit.{hears_there, there, there_after, tokens_stay, in_phase, Moved, from_phase}
use Rattle.osi_machine.proofs.calls.a_call_and_its_unit.{moved_to, phase_shift}

-- ---- what the call changes

-- a phase in which the other's tokens, requests, confirmations and restarts are taken as in Ready
pub record IsOpenPhase (p : Phase) : Type 0 where
  pub holds : may_hold p ≡ true
  pub asks : may_ask p ≡ true
  pub please : takes_please p ≡ true
  pub acks : takes_minor_ack p ≡ true
  pub restart : takes_restart p ≡ true
  pub owes : is_release_due p ≡ false

abbrev Speaks : State → Type 0
Speaks s = has s.held data_token ≡ true

-- a number that may be acknowledged may still be acknowledged afterwards
still_acks : (p : Phase) (v : Numbers) (n : ℕ) → (not v.answers && (nat_le v.confirmed n && nat_lt n v.next)) ≡ true
    → (true && (nat_le (if v.answers then v.next else v.confirmed) n
    && (if is_major_asked p then nat_lt (n + 1) (v.next + 1) else nat_lt n (v.next + 1)))) ≡ true
still_acks p v n h = grind (arith, and_parts, and_from, ltb-true, lt-ltb)

-- the flag is off when a confirmation arrives
same_numbers : (v : Numbers) (n : ℕ) → v.answers ≡ false → minor_confirmed n (point_sent v) ≡ point_sent (minor_confirmed n v)
unfolding point_sent minor_confirmed
same_numbers v n e = grind arith

point_moves : (p : Phase) → IsOpenPhase p → (s : State) (u : Meaning) → s.phase ≡ Ready → Speaks s → false ≡ false → is_plain u ≡ true
    → has_no_effect u ≡ false → Good (in_phase Ready s) u → Moved (moved_to p point_sent) (from_phase Ready Speaks) s u
unfolding point_sent
point_moves p k s (MIA m o) r d n pl e g = record {
  good = record { expected = k.acks; met = (g.met.0, (still_acks p s.numbers m g.met.1.0, tt)) };
  step = λ st. grind (arith, and_parts, same_numbers, not-true);
}
point_moves p k s (GT j) r d n pl e g = record {
  good = record { expected = k.asks; met = g.met };
  step = λ st. search (arith, united_has, or_left);
}
point_moves p k s (FN o) r d n pl e g = absurd (let a = empty_has s.held data_token g.met.0 in cc)
point_moves p k s u r d n pl e g = grind (arith, not_both, and_parts, excluded, listening_stands)

abbrev point_shift : (p : Phase) → IsOpenPhase p → Shift
point_shift p k = phase_shift Ready p point_sent (λ u. false) Speaks refl k.holds k.owes (point_moves p k)

-- ---- what is known of both sides

pub record Points (w : Core) : Type 0 where
  pub phase : is_ready w.own.session.phase ≡ true
  pub selected : (w.own.session.units.minor ≡ true) ⊎ (w.own.session.units.major ≡ true)
  pub right : HasRight w.own.session data_token

-- a unit that is not discarded arrives at a side that listens
heard_there : (s : State) (m : Meaning) → passes_restarting m ≡ false → drops s m ≡ false → is_restarting s.phase ≡ false
heard_there s m w d = grind arith

-- ---- the other side, whatever this one does

module _ (w : Core) (h : Stands w) where
  -- its number, if it listens
  pub other_number : (flushed w.peer w.own).base ≡ w.own.session.base → hearing w.peer w.own ≡ flushed w.peer w.own
      → is_restarting (flushed w.peer w.own).phase ≡ false → (flushed w.peer w.own).numbers.next ≡ w.own.session.base + points w.history
  other_number b e l = search (arith, heard_counted)

  -- if no point is in flight to it, it has seen the whole history
  pub other_saw : hearing w.peer w.own ≡ flushed w.peer w.own → is_restarting (flushed w.peer w.own).phase ≡ false
      → (flushed w.peer w.own).numbers.answers ≡ false → points w.peer.view ≡ points w.history
  other_saw e l n = search (arith, unseen)

  -- so each number up to V(M) of the history is below its own
  pub other_above : (n : ℕ) → w.peer.session.base ≡ w.own.session.base ⊎ (is_opening w.peer.session.phase ≡ true)
      → points w.peer.view ≡ points w.history
      → w.own.session.base ≤ n → n < w.own.session.base + points w.history → n < w.peer.session.numbers.next
  other_above n b e from to = search arith

  point_reach : w.peer.session.numbers.answers ≡ true → lower w.peer.session.numbers.next
      (if (hearing w.own w.peer).numbers.answers then (hearing w.own w.peer).numbers.next else (hearing w.own w.peer).numbers.confirmed)
      ≤ w.peer.session.numbers.confirmed
  point_reach t = search arith

-- what the call sends and adds
abbrev sent_point : Core → Meaning → PointKind → List ℕ → Sent
sent_point w m kind octets = record { unit = m; adds = Point w.own.session.numbers.next kind octets ∷ []; says = []; owner = w.owner }

-- what a minor and a major point have in common
record IsPoint (m : Meaning) (n : ℕ) (kind : PointKind) (octets : List ℕ) : Type 0 where
  unit : IsUnit m
  shows : (s : State) (v : List Item) → seen s m v ≡ v ++ Point n kind octets ∷ []
  taken : (s : State) → (becomes s m).numbers ≡ point_taken s.numbers
  held : (s : State) → (becomes s m).held ≡ s.held
  silent : data_in m ≡ []

-- ---- both sides, before the point

module _ (w : Core) (a : Points w) (h : Stands w) where
  -- this side just before a restart that takes effect
  abbrev heard_here : State
  heard_here = hearing w.own w.peer

  side : Listens w.own w.peer
  side = listens w h (implied is_ready is_open refl w.own.session.phase a.phase)

  -- half-duplex, and so the data token is held
  half_duplex : w.own.session.units.half_duplex ≡ true
  half_duplex = half w.own.session.units (subst IsOfProfile side.units h.pair.profile) a.selected

  holds_data : has w.own.session.held data_token ≡ true
  holds_data = by_either a.right (λ e. e) (λ none. absurd (let n = no_half w.own.session.units none in let y = half_duplex in cc))

  holding : Holds data_token w.own.session
  holding = record { held = holds_data; phase = implied is_ready may_hold refl w.own.session.phase a.phase }

  -- this side has seen all
  all_seen : w.own.view ≡ w.history
  all_seen = sym (nothing_to_see w.own.session w.peer.sent w.own.view holding h.own.fits) ∙ h.own_views.ends side.heeds

  point_sees : (more : List Item) → heard_view w.own.session w.peer.sent (w.own.view ++ more) ≡ w.history ++ more
  point_sees more = grind (arith, nothing_to_see, holding, all_seen)

  nothing_needed : list_any (needs_token data_token) w.peer.sent ≡ false
  nothing_needed = none_needs data_token w.own.session w.peer.sent holding h.own.fits

  -- ---- the numbers

  point_below : (n : ℕ) → is_restarting (there w).phase ≡ false → heard_here.base ≤ n
      → n < (if heard_here.numbers.answers then heard_here.numbers.next else heard_here.numbers.confirmed) → n < w.peer.session.numbers.next
  point_below n l from to = by_test heard_here.numbers.answers
      (λ e. let k = rw e at to in
      other_above w h n side.same_base (other_saw w h side.all l (grind (arith, side.all, heard_sends, nothing_needed)))
      (subst (λ (b : ℕ). b ≤ n) side.heard_base from)
      (subst (λ (m : ℕ). n < m) (grind (arith, heard_counted, side)) k))
      (λ e. let k = rw e at to in h.own_counts.below (ap (λ (q : State). not (is_restarting q.phase)) side.all ∙ ap not l) n from k)

  point_other_below : (m : Meaning) (n : ℕ) → passes_restarting m ≡ false → ((s : State) → (becomes s m).numbers ≡ point_taken s.numbers)
      → (there w).base ≤ n → n < (there_after w m).numbers.confirmed → n < w.own.session.numbers.next + 1
  unfolding point_taken
  point_other_below m n waits taken from to =
      let was = h.peer_counts.below side.heeds n (rw side.all from) in
      let number = other_number w h side.there_base side.all in
      let listens = heard_there (there w) m waits in
      grind (arith, side.all, all_seen, taken (there w), by_test)

  -- ---- the other takes it

  there_lacks : (t : Token) → HasRight w.own.session t → is_ready (there w).phase ≡ true → not (has (there w).held t) ≡ true
  there_lacks t right r = ap not (other_lacks w t h side right (implied is_ready may_hold refl (there w).phase r))

  point_sending : (p : Phase) (k : IsOpenPhase p) (m : Meaning) (kind : PointKind) (octets : List ℕ)
      → IsPoint m w.own.session.numbers.next kind octets
      → (is_ready (there w).phase ≡ true → w.own.session.numbers.next ≡ (there w).numbers.next → Good (there w) m)
      → ((there w).phase ≡ Ready → matched p (becomes (there w) m).phase ≡ true) → Sending w (point_shift p k) (sent_point w m kind octets)
  unfolding point_sent point_taken
  point_sending p k m kind octets q good meets =
      let sends : Sends w (point_shift p k) m = record {
        now = (grind arith, holds_data);
        none = none_never w.peer.sent;
        unit = q.unit;
      } in
      record {
        sends = sends;
        good = λ l i. good (phase_there is_ready is_ready refl h.own (ap is_ready i.0))
            ((grind (arith, all_seen)) ∙ sym (other_number w h side.there_base side.all l));
        meets = λ l i. meets (grind arith);
        adds = record {
          shows = q.shows (there w);
          sees = λ l. point_sees (Point w.own.session.numbers.next kind octets ∷ []);
          duplex = λ d. absurd (grind (arith, half_duplex, side));
          says = λ d. q.silent;
          numbered = grind (arith, numbered_point, all_seen, side);
        };
        numbers = record {
          flag = λ f. absurd (cc);
          below = λ l n from to. point_below n (hears_there (there w) m q.unit.waits l) from to;
          reach = point_reach w h;
          other_flag = λ f. refl;
          other_below = λ n from to. point_other_below m n q.unit.waits q.taken from to;
          other_reach = λ f. absurd (cc);
        };
        tokens = tokens_stay w (point_shift p k) m sends h (λ s. refl) q.held;
        one_way = grind (arith, and_right, nothing_needed);
      }

-- the phase is unchanged
same_phase : (s : State) → s.phase ≡ Ready → after s (Minor false []) ≡ moved_to Ready point_sent s
same_phase s e = λ i. record s { phase = e i; numbers = point_sent s.numbers }

pub minor_stands : (confirm : Bool) (octets : List ℕ) → Keeps (Minor confirm octets)
minor_stands confirm octets w q h =
    let p = and_parts (has_right w.own.session data_token) (has_right w.own.session minor) q.needed.1.0 in
    let a : Points w = record { phase = q.phase; selected = inl q.needed.0; right = right_of w.own.session data_token p.0 } in
    let same = same_phase w.own.session (grind arith) in
    let m = MIP confirm w.own.session.numbers.next octets in
    subst (λ (s : State). Stands (answered w (Minor confirm octets) (Ok (record { next = s; sent = m })))) (sym same)
    (sending_stands w (point_shift Ready (grind arith)) (sent_point w m (minor_kind confirm) octets)
    (point_sending w a h Ready (grind arith) m (minor_kind confirm) octets (assumption)
    (λ r e. record {
      expected = r;
      met = (
        ap (λ (u : FunctionalUnits). u.minor) (side w a h).there_units ∙ q.needed.0,
        search (arith, and_from, there_lacks w a h, eq-eqb, right_of w.own.session minor p.1),
      );
    })
    (λ e. rw e refl)) h
    (subst (λ (s : State). AreConsistent (answered w (Minor confirm octets) (Ok (record { next = s; sent = m })))) same q.kept))

pub major_stands : (octets : List ℕ) → Keeps (Major octets)
major_stands octets w q h =
    let p = and_parts (has_right w.own.session data_token) (has_right w.own.session minor && has_right w.own.session major) q.needed.1.0 in
    let t = and_parts (has_right w.own.session minor) (has_right w.own.session major) p.1 in
    let a : Points w = record { phase = q.phase; selected = inr q.needed.0; right = right_of w.own.session data_token p.0 } in
    let m = MAP w.own.session.numbers.next octets in
    sending_stands w (point_shift MajorAsked (grind arith)) (sent_point w m major_point octets)
    (point_sending w a h MajorAsked (grind arith) m major_point octets (assumption)
    (λ r e. record {
      expected = r;
      met = (
        ap (λ (u : FunctionalUnits). u.major) (side w a h).there_units ∙ q.needed.0,
        search (arith, and_from, there_lacks w a h, eq-eqb, right_of w.own.session minor t.0, right_of w.own.session major t.1),
      );
    })
    (λ e. refl)) h q.kept
