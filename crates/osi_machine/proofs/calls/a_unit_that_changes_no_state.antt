-- The calls of Data and of Please keep the invariant: their units change no state.
-- For each_step_keeps_both_sides.
use Rattle.osi_machine.proofs.Vocabulary.{State, FunctionalUnits, Meaning, DT, PT, Tokens, data_token, available, is_within, is_ready}
use Rattle.osi_machine.proofs.Vocabulary.{may_ask, may_hold, takes_data, takes_please, becomes, Item, hears, heard_view, append-nil, Data}
use Rattle.osi_machine.proofs.Vocabulary.{Octets, Point, AreNumberedFrom, Core, not-true, and_right, Please, ◌≡◌, refl, ◌∙◌, ap, subst, ℕ}
use Rattle.osi_machine.proofs.Vocabulary.{Bool, true, false, not, List, [], ◌∷◌, ◌++◌, inl, inr, arith, ◌+◌, if◌then◌else◌, is_plain, stops}
use Rattle.osi_machine.proofs.Vocabulary.{Good, is_empty}
use Rattle.osi_machine.proofs.basics.what_holds_in_each_phase.{implied, by_either}
use Rattle.osi_machine.proofs.channels.what_every_unit_in_flight_keeps.{list_any_append}
use Rattle.osi_machine.proofs.channels.a_held_token_keeps_units_out.{is_lively, is_talking, Talks, nothing_to_see, none_needs, Lively}
use Rattle.osi_machine.proofs.channels.a_held_token_keeps_units_out.{becomes_lively, becomes_talks}
use Rattle.osi_machine.proofs.invariant.what_holds_of_both_sides.{hearing, IsOfProfile, Stands, phase_there}
use Rattle.osi_machine.proofs.invariant.each_step_keeps_one_side.{Keeps}
use Rattle.osi_machine.proofs.invariant.a_side_that_listens.{HasRight, Listens, is_open, listens, other_lacks, right_of, no_half}
use Rattle.osi_machine.proofs.calls.a_call_and_its_unit.{Sending, Sends, Sent, Shift, adds_nothing, here, none_never, numbers_stay, only}
use Rattle.osi_machine.proofs.calls.a_call_and_its_unit.{sending_stands, still, there, tokens_stay, lively_shift}

-- a call that leaves the state of its side, of which this is true until a restart takes effect
abbrev unmoved : (inv : State → Type 0) → ((s : State) → inv s → is_lively s.phase ≡ true)
    → ((s : State) (u : Meaning) → is_plain u ≡ true → Good s u → stops s u ≡ false → inv s → inv (becomes s u)) → Shift
unmoved inv lively keeps = lively_shift (λ s. s) inv lively (λ s. refl) still
    (λ s u i p g. record { good = g; step = λ st. (refl, keeps s u p g st i) })

-- ---- Data

abbrev data_shift : Shift
data_shift = unmoved Talks (λ s t. implied is_talking is_lively refl s.phase t.phase) becomes_talks

-- what is added, and what is seen of it
pub said_seen : (b : Bool) (h : List Item) (i : Item) → (if b then h else h ++ i ∷ []) ≡ h ++ (if b then [] else i ∷ [])
said_seen b h i = grind (arith, append-nil)

numbered_octets : (d : Bool) (b : ℕ) (h : List Item) (octets : List ℕ) → AreNumberedFrom b h
    → AreNumberedFrom b (h ++ (if d then [] else Octets octets ∷ []))
numbered_octets true b [] octets a = tt
numbered_octets false b [] octets a = tt
numbered_octets d b (Octets o ∷ h) octets a = numbered_octets d b h octets a
numbered_octets d b (Point n kind o ∷ h) octets a = (a.0, numbered_octets d (b + 1) h octets a.1)

abbrev data_sent : Core → List ℕ → Sent
data_sent w octets = record {
  unit = DT octets;
  adds = if w.own.session.units.duplex then [] else Octets octets ∷ [];
  says = if w.own.session.units.duplex then octets ∷ [] else [];
  owner = w.owner;
}

module _ (w : Core) (octets : List ℕ) (ready : is_ready w.own.session.phase ≡ true) (right : HasRight w.own.session data_token)
    (h : Stands w) where
  side : Listens w.own w.peer
  side = listens w h (implied is_ready is_open refl w.own.session.phase ready)

  profile : IsOfProfile w.own.session.units
  profile = subst IsOfProfile side.units h.pair.profile

  talks : Talks w.own.session
  talks = record {
    phase = implied is_ready is_talking refl w.own.session.phase ready;
    right = by_either right
        (λ e. inl e)
        (λ e. inr (profile.alone (profile.duplex ∙ ap not (no_half w.own.session.units e))).1);
  }

  -- with half-duplex this side holds the token, so that what it adds is seen last
  sees : hears (hearing w.own w.peer).phase ≡ true → heard_view w.own.session w.peer.sent (w.own.view ++ (data_sent w octets).adds)
      ≡ w.history ++ (data_sent w octets).adds
  unfolding available
  sees l =
      let p = profile in
      let f = h.own.fits in
      let k = h.own_views in
      search (arith, implied, nothing_to_see, append-nil)

  data_sends : Sends w data_shift (DT octets)
  data_sends = record { now = talks; none = none_never w.peer.sent; unit = assumption }

  data_sending : Sending w data_shift (data_sent w octets)
  data_sending = record {
    sends = data_sends;
    good = λ q i.
        let takes = phase_there is_talking takes_data refl h.own i.phase in
        let hold = implied takes_data may_hold refl (there w).phase takes in
        record { expected = takes; met = (ap not (other_lacks w data_token h side right hold), tt) };
    meets = λ q i. h.own.meeting.meets;
    adds = record {
      shows = λ v. ap (λ (u : FunctionalUnits). if u.duplex then v else v ++ Octets octets ∷ []) side.there_units
          ∙ said_seen w.own.session.units.duplex v (Octets octets);
      sees = sees;
      duplex = λ d. grind (arith, side);
      says = λ d. grind (arith, side);
      numbered = numbered_octets w.own.session.units.duplex (here w).base w.history octets;
    };
    numbers = numbers_stay w data_shift (DT octets) data_sends h (λ s. refl) (λ s. refl);
    tokens = tokens_stay w data_shift (DT octets) data_sends h (λ s. refl) (λ s. refl);
    one_way = λ d. by_either right
        (search (arith, and_right, none_needs, implied is_ready may_hold refl w.own.session.phase ready))
        (λ none. absurd (grind (arith, no_half, side)));
  }

pub data_stands : (octets : List ℕ) → Keeps (Data octets)
data_stands octets w q h =
    sending_stands w data_shift (data_sent w octets)
    (data_sending w octets q.phase (right_of w.own.session data_token q.needed.0) h) h q.kept

-- ---- Please

abbrev please_shift : Shift
please_shift = unmoved Lively (λ s l. l) becomes_lively

pub please_stands : (tokens : Tokens) (octets : List ℕ) → Keeps (Please tokens octets)
please_stands tokens octets w q h =
    let m = PT tokens octets in
    let side = listens w h (implied may_ask is_open refl w.own.session.phase q.phase) in
    let sends : Sends w please_shift m = record {
      now = implied may_ask is_lively refl w.own.session.phase q.phase;
      none = none_never w.peer.sent;
      unit = assumption (not-true (is_empty tokens) q.needed.1.1.0);
    } in
    sending_stands w please_shift (only m w.owner) (record {
      sends = sends;
      good = λ l i. record {
        expected = phase_there is_lively takes_please refl h.own i;
        met = (ap (λ (u : FunctionalUnits). is_within tokens (available u)) side.there_units ∙ q.needed.0, tt);
      };
      meets = λ l i. h.own.meeting.meets;
      adds = adds_nothing w m w.owner h (λ s v. refl) refl;
      numbers = numbers_stay w please_shift m sends h (λ s. refl) (λ s. refl);
      tokens = tokens_stay w please_shift m sends h (λ s. refl) (λ s. refl);
      one_way = grind (arith, list_any_append);
    }) h q.kept
