-- The calls of Release and of ReleaseRefuse keep the invariant of both sides.
-- For each_step_keeps_both_sides.
use Rattle.osi_machine.proofs.Vocabulary.{and_parts, not-true, or_parts, and_right, list_any, State, FunctionalUnits, Ready, Releasing}
use Rattle.osi_machine.proofs.Vocabulary.{ReleaseDue, Tokens, Meaning, GT, MIP, MAP, FN, NF, Token, data_token, minor, major, has}
use Rattle.osi_machine.proofs.Vocabulary.{available, each, has_right, is_empty, is_within, is_disjoint, is_ready, is_releasing}
use Rattle.osi_machine.proofs.Vocabulary.{is_release_due, is_restarting, has_no_effect, may_hold, next, Good, Release, ReleaseRefuse}
use Rattle.osi_machine.proofs.Vocabulary.{is_plain, AllFit, flush, needs_token, Core, is_opening, ◌≡◌, refl, sym, ◌∙◌, ap, subst, ℕ, Bool}
use Rattle.osi_machine.proofs.Vocabulary.{true, false, not, ◌&&◌, ◌||◌, List, [], ◌∷◌, ◌++◌, arith}
use Rattle.osi_machine.proofs.basics.what_holds_in_each_phase.{implied, excluded, by_either, by_test, cut_or}
use Rattle.osi_machine.proofs.channels.a_unit_is_dropped_bad_or_acted_on.{fit_cases, next_hears}
use Rattle.osi_machine.proofs.channels.what_every_unit_in_flight_keeps.{kept_all, list_any_append, unreleased}
use Rattle.osi_machine.proofs.channels.a_deaf_side_acts_on_nothing.{not_both}
use Rattle.osi_machine.proofs.channels.a_held_token_keeps_units_out.{each_has, flush_open, none_needs}
use Rattle.osi_machine.proofs.invariant.what_holds_of_both_sides.{flushed, IsOfProfile, Stands, phase_there}
use Rattle.osi_machine.proofs.invariant.each_step_keeps_one_side.{Keeps}
use Rattle.osi_machine.proofs.invariant.a_side_that_listens.{HasRight, right_of, other_lacks, Listens, is_open, listens, no_half}
use Rattle.osi_machine.proofs.calls.a_call_and_its_unit.{Shift, listening_stands, none_never, Sending, sending_stands, Sends, adds_nothing}
use Rattle.osi_machine.proofs.calls.a_call_and_its_unit.{numbers_stay, only, tokens_stay, there, Moved, from_phase, in_phase, moved_to}
use Rattle.osi_machine.proofs.calls.a_call_and_its_unit.{phase_shift}
use Rattle.osi_machine.proofs.calls.tokens_that_are_given.{is_empty_of, within_has, disjoint_has}

-- ---- a request for release

abbrev is_finish : Meaning → Bool
is_finish (FN octets) = true
is_finish u = false

-- each token is held or not available
abbrev Rights : State → Type 0
Rights s = (t : Token) → HasRight s t

has_it : (s : State) (t : Token) → HasRight s t → has (available s.units) t ≡ true → has s.held t ≡ true
has_it s t h2 a = grind arith

-- no token is left to come
none_to_come : (s : State) (k : Tokens) → Rights s → is_within k (available s.units) ≡ true
    → is_disjoint k s.held ≡ true → is_empty k ≡ true
none_to_come s k right within apart = is_empty_of k (λ t. grind (arith, disjoint_has k s.held t apart, has_it s t (right t), within_has))

release_moves : (s : State) (u : Meaning) → s.phase ≡ Ready → Rights s → is_finish u ≡ false → is_plain u ≡ true
    → has_no_effect u ≡ false → Good (in_phase Ready s) u → Moved (moved_to Releasing (λ v. v)) (from_phase Ready Rights) s u
unfolding available
release_moves s (GT k) ready right f p e g = grind (arith, and_parts, none_to_come)
release_moves s (MIP c n o) ready right f p e g = absurd (grind (arith, and_parts, not_both, has_it s minor (right minor) g.met.0))
release_moves s (MAP n o) ready right f p e g = absurd (grind (arith, and_parts, not_both, has_it s major (right major) g.met.0))
release_moves s u ready right f p e g = grind (arith, listening_stands)

abbrev release_shift : Shift
release_shift = phase_shift Ready Releasing (λ v. v) is_finish Rights refl refl refl release_moves

-- ---- with duplex the other side has not asked for release

record ReleaseOwed (s : State) : Type 0 where
  phase : is_release_due s.phase ≡ true
  none : s.units.resynchronize ≡ false

owed_flush : (s : State) (us : List Meaning) → ReleaseOwed s → AllFit s us → ReleaseOwed (flush s us)
owed_flush = kept_all ReleaseOwed (λ s u h f. fit_cases ReleaseOwed s u f h (λ d g. grind arith))

finish_owed : (s : State) (u : Meaning) → is_restarting s.phase ≡ false → s.units.resynchronize ≡ false → is_finish u ≡ true
    → ReleaseOwed (next s u)
finish_owed s u h n f = grind arith

finish_ends : (s : State) (us : List Meaning) → is_restarting s.phase ≡ false → is_opening s.phase ≡ false → s.units.resynchronize ≡ false
    → AllFit s us
    → list_any is_finish us ≡ true → is_release_due (flush s us).phase ≡ true
finish_ends s [] h o n f e = absurd (cc)
finish_ends s (u ∷ us) h o n f e =
    let begun = flush_open s (u ∷ []) o (f.0, tt) in
    let heeds = not-true _ (next_hears s u (ap not h)) in
    let none = ap (λ (v : FunctionalUnits). v.resynchronize) begun.units ∙ n in
    by_test (is_finish u)
    (λ is. (owed_flush (next s u) us (finish_owed s u h n is) f.1).phase)
    (λ no. finish_ends (next s u) us heeds begun.phase none f.1 (rw no at e))

-- ---- what is known of the call

record Asks (w : Core) : Type 0 where
  phase : is_ready w.own.session.phase ≡ true
  right : Rights w.own.session
  caller : (not w.own.session.units.duplex || w.own.session.is_caller) ≡ true

-- with the data token
finish_needs : (us : List Meaning) → list_any (needs_token data_token) us ≡ false → list_any is_finish us ≡ false
finish_needs [] h = refl
finish_needs (u ∷ us) h =
    let p = or_parts (needs_token data_token u) (list_any (needs_token data_token) us) h in
    grind (arith, finish_needs us p.1)

module _ (w : Core) (a : Asks w) (h : Stands w) where
  side : Listens w.own w.peer
  side = listens w h (implied is_ready is_open refl w.own.session.phase a.phase)

  -- with duplex
  duplex_none : w.own.session.units.duplex ≡ true → list_any is_finish w.peer.sent ≡ false
  duplex_none d = by_test (list_any is_finish w.peer.sent)
      (λ e. absurd (
      let r = finish_ends w.own.session w.peer.sent side.asked side.begun
      (profile.alone d).2 h.own.fits e in
      grind (arith, phase_there is_release_due is_releasing refl h.own r, unreleased w.peer.session w.own.sent not_asked h.peer.fits)))
      (λ e. e)
    where
      profile : IsOfProfile w.own.session.units
      profile = subst IsOfProfile side.units h.pair.profile

      here : w.own.session.is_caller ≡ true
      here = cut_or w.own.session.units.duplex w.own.session.is_caller a.caller d

      not_asked : is_releasing w.peer.session.phase ≡ false
      not_asked = by_test (is_releasing w.peer.session.phase)
          (λ e. absurd (
          let units = sym (flush_open w.peer.session w.own.sent (excluded is_releasing is_opening refl w.peer.session.phase e)
          h.peer.fits).units ∙ side.there_units in
          grind arith))
          (λ e. e)

  held_none : has w.own.session.held data_token ≡ true → list_any (needs_token data_token) w.peer.sent ≡ false
  held_none e = search (arith, none_needs, implied is_ready may_hold refl w.own.session.phase a.phase)

  release_one_way : (octets : List ℕ) → (flushed w.own w.peer).units.half_duplex ≡ true
      → (list_any (needs_token data_token) (w.own.sent ++ FN octets ∷ []) && list_any (needs_token data_token) w.peer.sent) ≡ false
  release_one_way octets d = by_either (a.right data_token)
      (grind (arith, and_right, held_none))
      (grind (arith, no_half, side))

release_sending : (w : Core) (octets : List ℕ) → Asks w → Stands w → Sending w release_shift (only (FN octets) w.owner)
release_sending w octets a h =
    let l : Listens w.own w.peer = side w a h in
    let sends : Sends w release_shift (FN octets) = record {
      now = (grind arith, a.right);
      none = grind (arith, by_either, finish_needs, held_none, duplex_none, no_half, a.right data_token);
      unit = assumption;
    } in
    record {
      sends = sends;
      good = λ q i.
          let ready = phase_there is_ready is_ready refl h.own (ap is_ready i.0) in
          record {
            expected = ready;
            met = (
              is_empty_of (there w).held (λ t. other_lacks w t h l (a.right t) (implied is_ready may_hold refl (there w).phase ready)),
              tt,
            );
          };
      meets = λ q i. refl;
      adds = adds_nothing w (FN octets) w.owner h (λ s v. refl) refl;
      numbers = numbers_stay w release_shift (FN octets) sends h (λ s. refl) (λ s. refl);
      tokens = tokens_stay w release_shift (FN octets) sends h (λ s. refl) (λ s. refl);
      one_way = release_one_way w a h octets;
    }

pub release_stands : (octets : List ℕ) → Keeps (Release octets)
release_stands octets w q h =
    let p = and_parts (each (has_right w.own.session)) (not w.own.session.units.duplex || w.own.session.is_caller) q.needed.0 in
    let a : Asks w =
    record { phase = q.phase; right = λ t. right_of w.own.session t (each_has (has_right w.own.session) t p.0); caller = p.1 } in
    sending_stands w release_shift (only (FN octets) w.owner) (release_sending w octets a h) h q.kept

-- ---- the refusal of a release

refusal_moves : (s : State) (u : Meaning) → s.phase ≡ ReleaseDue → Unit {0} → false ≡ false → is_plain u ≡ true → has_no_effect u ≡ false
    → Good (in_phase ReleaseDue s) u → Moved (moved_to Ready (λ v. v)) (from_phase ReleaseDue (λ r. Unit {0})) s u
refusal_moves s u i m n p e g = record { good = grind arith; step = λ st. grind (arith, listening_stands) }

abbrev refusal_shift : Shift
refusal_shift = phase_shift ReleaseDue Ready (λ v. v) (λ u. false) (λ r. Unit {0}) refl refl refl refusal_moves

refusal_sending : (w : Core) (octets : List ℕ) → is_release_due w.own.session.phase ≡ true
    → w.own.session.units.negotiated_release ≡ true → Stands w → Sending w refusal_shift (only (NF octets) w.owner)
refusal_sending w octets due selected h =
    let l : Listens w.own w.peer = listens w h (implied is_release_due is_open refl w.own.session.phase due) in
    let sends : Sends w refusal_shift (NF octets) = record { now = (grind arith, tt); none = none_never w.peer.sent; unit = assumption } in
    record {
      sends = sends;
      good = grind (arith, phase_there);
      meets = λ q i. refl;
      adds = adds_nothing w (NF octets) w.owner h (λ s v. refl) refl;
      numbers = numbers_stay w refusal_shift (NF octets) sends h (λ s. refl) (λ s. refl);
      tokens = tokens_stay w refusal_shift (NF octets) sends h (λ s. refl) (λ s. refl);
      one_way = grind (arith, list_any_append);
    }

pub refuse_stands : (octets : List ℕ) → Keeps (ReleaseRefuse octets)
refuse_stands octets w q h =
    sending_stands w refusal_shift (only (NF octets) w.owner) (refusal_sending w octets q.phase q.needed.0 h) h q.kept
