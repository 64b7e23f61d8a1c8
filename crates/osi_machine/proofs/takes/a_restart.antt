-- Taking a restart keeps the invariant: if it takes effect it cuts what was seen, else it changes nothing.
-- For each_step_keeps_both_sides.
use Rattle.osi_machine.proofs.Vocabulary.{◌≡◌, refl, sym, ◌∙◌, ap, subst, ℕ, ◌-◌, ◌≤◌, Bool, true, false, if◌then◌else◌, List, [], ◌∷◌}
use Rattle.osi_machine.proofs.Vocabulary.{arith, and_parts, and_from, TokenSetting, ResyncType, State, RestartDue, Meaning, RS}
use Rattle.osi_machine.proofs.Vocabulary.{is_restarting, without_tokens, restarted_at, stands, next, Item, upto, cutat, Owner, turned_owner}
use Rattle.osi_machine.proofs.Vocabulary.{turned_owners, is_own, all_to_pool, pooled, Fits, flush, heard, Party, Core, taking}
use Rattle.osi_machine.proofs.Vocabulary.{AreConsistent, ltb-false, ltb-true, not}
use Rattle.osi_machine.proofs.basics.what_holds_in_each_phase.{excluded, implied_two, if_second, by_test}
use Rattle.osi_machine.proofs.basics.what_a_restart_leaves_of_a_history.{upto_twice, numbered_cut}
use Rattle.osi_machine.proofs.channels.a_unit_is_dropped_bad_or_acted_on.{none_due, restart_due, fit_acts}
use Rattle.osi_machine.proofs.channels.what_every_unit_in_flight_keeps.{lower_second, lower_both}
use Rattle.osi_machine.proofs.channels.a_deaf_side_acts_on_nothing.{AllEmpty, all_empty, empty_fits, empty_end, empty_heard, empty_view}
use Rattle.osi_machine.proofs.channels.a_deaf_side_acts_on_nothing.{restart_kept, restart_next, stood, deaf_end, deaf_heard, not_both}
use Rattle.osi_machine.proofs.channels.a_deaf_side_acts_on_nothing.{yielded}
use Rattle.osi_machine.proofs.channels.a_held_token_keeps_units_out.{none_held}
use Rattle.osi_machine.proofs.invariant.what_holds_of_both_sides.{Meeting, Half, Views, Counts, Pair, Stands}
use Rattle.osi_machine.proofs.invariant.each_step_keeps_one_side.{SessionLaws, taking_kept, stood_below}
use Rattle.osi_machine.proofs.invariant.no_side_is_over.{alive}
use Rattle.osi_machine.proofs.takes.a_unit_that_cuts_nothing.{rest_of, at, stands_at, party_after, none_got, Moves, moves_stands}
use Rattle.osi_machine.proofs.takes.a_unit_that_cuts_nothing.{same_stream, after_take, takes_path, Takes}

-- ---- the taker after it

abbrev answering : State → ℕ → TokenSetting → State
answering s n t = record (without_tokens RestartDue s) { wishes = t; numbers = restarted_at n s.numbers }

abbrev taker : Core → ℕ → TokenSetting → Party
taker w n t = party_after w.own (answering w.own.session n t) (cutat w.own.session.base w.own.view n) w.own.got

pub pool_own : (p : Owner) → is_own (all_to_pool p) ≡ false
pool_own p = grind arith

pub pool_theirs : (p : Owner) → is_own (turned_owner (all_to_pool p)) ≡ false
pool_theirs p = grind arith

-- what it leaves of what was seen is what it leaves of the history
cut_twice : (base n m : ℕ) (h : List Item) → n ≤ m → cutat base (cutat base h m) n ≡ cutat base h n
cut_twice base n m h le = upto_twice (n - base) (m - base) h (omega arith)

none_left : (k : ℕ) (h : List Item) → h ≡ [] → upto k h ≡ []
none_left k h e = grind arith

-- ---- a restart that takes effect is the first in flight

module _ (w : Core) (k : ResyncType) (n : ℕ) (t : TokenSetting) (o : List ℕ) (us : List Meaning) (h : Stands (at w (RS k n t o ∷ us)))
    (wins : stands w.own.session n ≡ true) where
  fit_first : Fits w.own.session (RS k n t o)
  fit_first = search arith

  -- nothing comes after it
  none_behind : AllEmpty us
  none_behind = grind (arith, restart_due, all_empty, none_due)

  end_is : flush w.own.session (RS k n t o ∷ us) ≡ answering w.own.session n t
  end_is = empty_end (next w.own.session (RS k n t o)) us none_behind ∙ restart_next w.own.session k n t o ∙ stood w.own.session n t wins

  heard_is : heard w.own.session (RS k n t o ∷ us) ≡ w.own.session
  heard_is = ap (λ (b : Bool). if b then w.own.session else heard (next w.own.session (RS k n t o)) us) wins

  other_waits : is_restarting (flush w.peer.session w.own.sent).phase ≡ true
  other_waits = search (arith, end_is, implied_two, and_from)

  other_end : flush w.peer.session w.own.sent ≡ w.peer.session
  other_end = deaf_end w.peer.session w.own.sent other_waits h.peer.fits

  asking_now : is_restarting w.peer.session.phase ≡ true
  asking_now = ap (λ (r : State). is_restarting r.phase) (sym other_end) ∙ other_waits

  heard_asking : is_restarting (heard w.peer.session w.own.sent).phase ≡ true
  heard_asking = ap (λ (r : State). is_restarting r.phase) (deaf_heard w.peer.session w.own.sent other_waits h.peer.fits) ∙ asking_now

  -- ---- its number

  same_number : w.peer.session.numbers.next ≡ n
  unfolding restarted_at
  same_number = grind (arith, other_end, other_waits, end_is)

  same_base : w.peer.session.base ≡ w.own.session.base
  same_base = ap (λ (r : State). r.base) (sym other_end) ∙ h.peer.meeting.base ∙ ap (λ (r : State). r.base) end_is

  top : n ≤ w.own.session.numbers.next
  top = grind (arith, fit_first, restart_kept, and_parts, stood_below)

  pub cut_seen : cutat w.own.session.base w.own.view n ≡ cutat w.own.session.base w.history n
  cut_seen = search (arith, heard_is, cut_twice, top)

  -- ---- the two halves

  was_met_there : Meeting (turned_owners w.owner) w.peer.session (flush w.peer.session w.own.sent) (answering w.own.session n t)
      (heard w.peer.session w.own.sent) w.own.session
  was_met_there = search (arith, end_is)

  taker_half : Half (pooled w.owner) (taker w n t) (rest_of w.peer us)
  taker_half = grind (arith, end_is, heard_is, none_behind, empty_fits, empty_end, empty_heard, none_held, pool_own)

  giver_half : Half (turned_owners (pooled w.owner)) (rest_of w.peer us) (taker w n t)
  giver_half = search (arith, was_met_there, none_behind, asking_now, heard_asking, excluded, empty_end, none_held, pool_theirs)

  -- ---- what was seen

  taker_views : Views (cutat w.own.session.base w.history n) (taker w n t) (rest_of w.peer us)
  taker_views =
      search (arith, none_behind, empty_view, cut_seen, empty_heard, heard_asking, same_base, same_number, end_is, empty_end, none_left)

  giver_views : Views (cutat w.own.session.base w.history n) (rest_of w.peer us) (taker w n t)
  giver_views = search (arith, not_both, heard_asking, same_number, cut_twice, same_base, excluded, asking_now, none_left)

  -- ---- the numbers

  taker_counts : Counts (taker w n t) (rest_of w.peer us)
  unfolding restarted_at
  taker_counts =
      let old = rw heard_is at h.own_counts.reach in
      rw (empty_heard (answering w.own.session n t) us none_behind) (record {
        flag = h.own_counts.flag;
        below = λ l. absurd (not_both _ l heard_asking);
        reach = λ f. search (arith, ltb-true, ltb-false, lower_second, lower_second n w.own.session.numbers.confirmed, old f);
      })

  giver_counts : Counts (rest_of w.peer us) (taker w n t)
  unfolding restarted_at
  giver_counts =
      let old = rw heard_is at h.peer_counts.flag in
      rw (empty_heard (answering w.own.session n t) us none_behind) (record {
        flag = old;
        below = grind (arith, deaf_heard, other_waits, same_number);
        reach = λ f. lower_both n w.own.session.numbers.next _ w.own.session.numbers.confirmed top (h.peer_counts.reach f);
      })

  -- ---- both at once

  pair_after : Pair (cutat w.own.session.base w.history n) (taker w n t) (rest_of w.peer us)
  pair_after = grind (arith, end_is, empty_end, none_behind, numbered_cut)

  restart_path : after_take w us (cutat w.own.session.base w.history n) (answering w.own.session n t)
      (cutat w.own.session.base w.own.view n) w.own.got (pooled w.owner) ≡ taking w (RS k n t o ∷ us)
  restart_path =
      let acts = fit_acts w.own.session (RS k n t o) (alive w.owner w.own (rest_of w.peer (RS k n t o ∷ us)) h.own) fit_first
      ∙ ap not (restart_kept w.own.session k n t o) in
      takes_path w (RS k n t o) us _ _ _ _ _ h.own (restart_next w.own.session k n t o ∙ stood w.own.session n t wins)
      (grind arith) (none_got w.own (RS k n t o) refl) (rw (acts, wins) refl) (rw (acts, wins) refl)

  restart_stands : AreConsistent (taking w (RS k n t o ∷ us)) → Stands (taking w (RS k n t o ∷ us))
  restart_stands c =
      let kept = subst AreConsistent (sym restart_path) c in
      subst Stands restart_path
      (assumption (taker_half, giver_half, taker_views, giver_views, taker_counts, giver_counts, pair_after))

-- ---- if it does not take effect, it changes nothing

moves : (w : Core) (k : ResyncType) (n : ℕ) (t : TokenSetting) (o : List ℕ) (us : List Meaning) → stands w.own.session n ≡ false
    → Stands (at w (RS k n t o ∷ us))
    → Moves w (RS k n t o) us w.own.session w.own.view w.own.got w.owner
moves w k n t o us yields h =
    let same = restart_next w.own.session k n t o ∙ yielded w.own.session n t yields in
    grind (arith, if_second, same_stream, none_got w.own (RS k n t o) refl)

pub restart_taken : SessionLaws → (k : ResyncType) (n : ℕ) (t : TokenSetting) (o : List ℕ) → Takes (RS k n t o)
restart_taken laws k n t o w us e d s =
    let h = stands_at w (RS k n t o ∷ us) e s in
    by_test (stands w.own.session n)
    (λ wins. restart_stands w k n t o us h wins (taking_kept laws w (RS k n t o ∷ us) e s.consistent))
    (λ yields. moves_stands laws w (RS k n t o) us w.own.session w.own.view w.own.got w.owner e s (moves w k n t o us yields h))
