-- The call of Restart keeps the invariant: its side discards what is in flight to it, but for a restart that takes effect.
-- For each_step_keeps_both_sides.
use Rattle.osi_machine.proofs.Vocabulary.{and_parts, TokenSetting, ResyncType, State, Meaning, RS, is_restarting, is_restart_due}
use Rattle.osi_machine.proofs.Vocabulary.{passes_restarting, restarted_at, stands, next, Item, Fits, AllFit, flush, stops, heard}
use Rattle.osi_machine.proofs.Vocabulary.{heard_view, le-leb, and_from, not-true, Restarting, may_restart, takes_restart, is_connecting}
use Rattle.osi_machine.proofs.Vocabulary.{without_tokens, points, Core, append-nil, leb-true, available, is_restartable, Restart, IsSound}
use Rattle.osi_machine.proofs.Vocabulary.{cutat, Begins, Owner, turned_owner, turned_owners, is_own, own_to_pool, given_up, Party, ◌≡◌}
use Rattle.osi_machine.proofs.Vocabulary.{refl, ℕ, true, false, ◌||◌, List, [], ◌∷◌, ◌⊎◌, inl, arith, sym, ◌∙◌, ap, subst, ◌+◌, ◌==◌, ◌≤◌}
use Rattle.osi_machine.proofs.Vocabulary.{not, ◌&&◌, nat_le, nat_lt, inr, ◌-◌, ◌++◌, ltb-false, ltb-true}
use Rattle.osi_machine.proofs.basics.what_holds_in_each_phase.{excluded, if_first, by_test, implied, implied_two}
use Rattle.osi_machine.proofs.basics.what_a_restart_leaves_of_a_history.{upto_append}
use Rattle.osi_machine.proofs.channels.a_unit_is_dropped_bad_or_acted_on.{fit_cases, next_dropped, restart_due, and_false}
use Rattle.osi_machine.proofs.channels.what_every_unit_in_flight_keeps.{fit_append, flush_append, due_end, data_append, lower_second}
use Rattle.osi_machine.proofs.channels.what_every_unit_in_flight_keeps.{lower_both, heard_turned, view_append, list_any_append}
use Rattle.osi_machine.proofs.channels.a_deaf_side_acts_on_nothing.{empty_laws, empty_view, crossed, restart_kept, restart_next, yielded}
use Rattle.osi_machine.proofs.channels.a_deaf_side_acts_on_nothing.{stood, deaf_end, heard_restart, yielded_view, after_due}
use Rattle.osi_machine.proofs.channels.a_held_token_keeps_units_out.{becomes_open, is_lively, Lively, becomes_lively, flush_open, none_held}
use Rattle.osi_machine.proofs.channels.a_held_token_keeps_units_out.{Open}
use Rattle.osi_machine.proofs.channels.what_a_side_will_have_seen.{begins_points, listener_count, listener_begins, Grown, heard_grown}
use Rattle.osi_machine.proofs.invariant.what_holds_of_both_sides.{flushed, hearing, matched, Stands, Half, Views, Counts, IsOfProfile, Pair}
use Rattle.osi_machine.proofs.invariant.what_holds_of_both_sides.{phase_there}
use Rattle.osi_machine.proofs.invariant.each_step_keeps_one_side.{Keeps}
use Rattle.osi_machine.proofs.invariant.a_side_that_listens.{Listens, is_open, listens}
use Rattle.osi_machine.proofs.calls.a_call_and_its_unit.{drops_waiting, listening_stands}
use Rattle.osi_spdu.specs.declared.fields.ResyncType.TheVariants as resync

-- One side requests nothing, the other requests a restart; their units and base are the same.
pub record Asks (s r : State) : Type 0 where
  pub lives : Lively s
  pub asked : is_restarting r.phase ≡ true
  pub units : r.units ≡ s.units
  pub base : r.base ≡ s.base

-- what is in flight to the one, and what it is to the other
pub record Flow (s r : State) (us : List Meaning) : Type 0 where
  pub fits : AllFit r us
  pub heard : heard r us ≡ r
  pub view : (v : List Item) → heard_view r us v ≡ v
  pub end : (Lively (flush s us) × (flush r us ≡ r))
      ⊎ ((is_restart_due (flush s us).phase ≡ true) × (flush r us ≡ crossed r (flush s us).numbers.next (flush s us).wishes))

-- ---- what comes before a restart is discarded

before : (s : State) (u : Meaning) → Lively s → Fits s u → stops s u ≡ false → passes_restarting u ≡ false
unfolding stands
before s u h f st = grind (arith, and_false)

next_asks : (s r : State) (u : Meaning) → Asks s r → Fits s u → stops s u ≡ false → Asks (next s u) r
next_asks s r u a f st = search (arith, excluded, fit_cases, becomes_open, becomes_lively)

-- ---- the restart

restart_kept_fits : (s r : State) (k : ResyncType) (n : ℕ) (w : TokenSetting) (o : List ℕ) → Asks s r → Fits s (RS k n w o)
    → Fits r (RS k n w o)
restart_kept_fits s r k n w o a f = search (arith, restart_kept, and_parts)

flow_stop : (s r : State) (u : Meaning) (us : List Meaning) → Asks s r → Fits s u → stops s u ≡ true → AllFit (next s u) us
    → Flow s r (u ∷ us)
unfolding restarted_at
flow_stop s r u us a f st more =
    search (arith, after_due, restart_due, empty_laws, restart_next, stood, restart_kept_fits, empty_view, yielded, restart_kept)

pub restart_flow : (s r : State) (us : List Meaning) → Asks s r → AllFit s us → Flow s r us
restart_flow s r [] a f = record { fits = tt; heard = refl; view = λ v. refl; end = inl (a.lives, refl) }
restart_flow s r (u ∷ us) a f = by_test (stops s u)
    (λ e. flow_stop s r u us a f.0 e f.1)
    (λ e. let more : (stops s u ≡ false → Flow (next s u) r us) = (λ e. restart_flow (next s u) r us (next_asks s r u a f.0 e) f.1) in
    grind (arith, drops_waiting, before, next_dropped, if_first))

-- ---- which of two restarts takes effect

asked_stands : (s : State) (n : ℕ) → is_restarting s.phase ≡ true
    → stands s n ≡ (nat_lt n s.numbers.next || ((n == s.numbers.next) && not s.is_caller))
unfolding stands
asked_stands s n r = rw r refl

-- ---- two sides, one of which waits for the answer that the other owes

pub record Met (a b : State) : Type 0 where
  pub meets : matched a.phase b.phase ≡ true
  pub turned : matched b.phase a.phase ≡ true
  pub restart : is_restarting a.phase ≡ true → (a.numbers.next ≡ b.numbers.next) × (a.wishes ≡ b.wishes)
  pub back : is_restarting b.phase ≡ true → (b.numbers.next ≡ a.numbers.next) × (b.wishes ≡ a.wishes)
  pub connect : is_connecting a.phase ≡ false
  pub other_connect : is_connecting b.phase ≡ false

turn_met : (a b : State) → Met a b → Met b a
turn_met a b m = grind arith

meets_one : (a b : State) (n : ℕ) (w : TokenSetting) → is_restarting a.phase ≡ true → a.numbers.next ≡ n → a.wishes ≡ w → stands b n ≡ true
    → Met a (crossed b n w)
unfolding restarted_at
meets_one a b n w r e f st = subst (Met a) (sym (stood b n w st)) (grind (arith, matched))

meets_both : (a b : State) (n m : ℕ) (w v : TokenSetting) → is_restarting a.phase ≡ true → a.numbers.next ≡ n → a.wishes ≡ w
    → is_restarting b.phase ≡ true → b.numbers.next ≡ m → b.wishes ≡ v → b.is_caller ≡ not a.is_caller → Met (crossed a m v) (crossed b n w)
meets_both a b n m w v r e f t g h c =
    let one : stands a m ≡ not (stands b n) = grind (arith, asked_stands) in
    by_test (stands b n)
    (λ st. subst (λ (q : State). Met q (crossed b n w)) (sym (yielded a m v (one ∙ ap not st))) (meets_one a b n w r e f st))
    (λ st. subst (Met (crossed a m v)) (sym (yielded b n w st)) (turn_met b (crossed a m v) (meets_one b a m v t g h (one ∙ ap not st))))

pub crossed_units : (s : State) (n : ℕ) (w : TokenSetting) → (crossed s n w).units ≡ s.units
crossed_units s n w = by_test (stands s n) (λ e. rw e) (λ e. rw e)

pub crossed_base : (s : State) (n : ℕ) (w : TokenSetting) → (crossed s n w).base ≡ s.base
crossed_base s n w = by_test (stands s n) (λ e. rw e) (λ e. rw e)

-- ---- the side that asks

pub record Restarts (w : Core) (n : ℕ) : Type 0 where
  pub phase : may_restart w.own.session.phase ≡ true
  pub selected : w.own.session.units.resynchronize ≡ true
  pub low : w.own.session.base ≤ n
  pub top : n ≤ w.own.session.numbers.next

abbrev pub asked : State → ℕ → TokenSetting → State
asked s n t = record (without_tokens Restarting s) { wishes = t; numbers = restarted_at n s.numbers }

pub given_theirs : (p : Owner) → is_own (turned_owner p) ≡ is_own (turned_owner (own_to_pool p))
given_theirs p = grind arith

-- what the restart leaves of the history is what it leaves of what was seen
pub same_cut : (base n : ℕ) (v h : List Item) → Begins v h → n ≤ base + points v → cutat base v n ≡ cutat base h n
same_cut base n v h b le = sym (ap (λ (r : List Item). cutat base r n) (sym b.1) ∙ upto_append (n - base) v b.0 (omega arith))

restart_met : (s : State) (n : ℕ) → s.base ≤ n → ((is_restarting s.phase ≡ false) → n ≤ s.numbers.next)
    → (nat_le s.base n && (is_restarting s.phase || nat_le n s.numbers.next)) ≡ true
restart_met s n from to = search (arith, le-leb)

abbrev asker : Party → ℕ → TokenSetting → List ℕ → Party
asker x n t o = record {
  session = asked x.session n t;
  view = cutat x.session.base x.view n;
  said = x.said ++ [];
  got = x.got;
  sent = x.sent ++ RS resync.Restart n t o ∷ [];
}

module _ (w : Core) (n : ℕ) (t : TokenSetting) (o : List ℕ) (q : Restarts w n) (s : Stands w) where
  -- this side and the other, when each has taken all; and this one after the call
  abbrev fx : State
  fx = flushed w.own w.peer

  abbrev fy : State
  fy = flushed w.peer w.own

  abbrev end : State
  end = flush (asked w.own.session n t) w.peer.sent

  abbrev asks : Party
  asks = asker w.own n t o

  side : Listens w.own w.peer
  side = listens w s (implied may_restart is_open refl w.own.session.phase q.phase)

  pub flows : Flow w.own.session (asked w.own.session n t) w.peer.sent
  flows = search (arith, restart_flow, is_lively, implied may_restart is_lively refl w.own.session.phase q.phase)

  -- if no restart arrives at this side, the other takes one; if one arrives, the other has requested it
  pub other_takes : Lively fx → (takes_restart fy.phase ≡ true) × (is_restarting fy.phase ≡ false)
  other_takes l = search (arith, and_from, implied_two, not-true)

  pub other_asked : is_restart_due fx.phase ≡ true → is_restarting fy.phase ≡ true
  other_asked d = phase_there is_restart_due is_restarting refl s.own d

  -- the sides will meet
  pub ends_meet : Met end (crossed fy n t)
  unfolding restarted_at
  ends_meet = elim flows.end [
    | inl e ↦ grind (arith, crossed, meets_one, listening_stands, other_takes)
    | inr e ↦
        let a = other_asked e.0 in
        let same = s.peer.meeting.restart a in
        let caller = ap (λ (r : State). r.is_caller) (deaf_end w.peer.session w.own.sent a s.peer.fits) ∙ s.pair.callers in
        subst (λ (r : State). Met r (crossed fy n t)) (sym e.1)
        (meets_both (asked w.own.session n t) fy n fx.numbers.next t fx.wishes refl refl refl a same.0 same.1 caller)
  ]

  -- ---- the restart fits

  other_top : is_restarting fy.phase ≡ false → n ≤ fy.numbers.next
  other_top l = grind (arith, side.all, listener_count, side.there_base, begins_points, listener_begins, side.heeds)

  pub restart_fits : Fits fy (RS resync.Restart n t o)
  restart_fits = search (arith, flows, other_takes, implied, other_asked, side.there_units, restart_met, side.there_base, other_top)

  -- ---- both sides after the call

  -- the other, when all is taken, and before that restart
  other_end : flush w.peer.session (w.own.sent ++ RS resync.Restart n t o ∷ []) ≡ crossed fy n t
  other_end = flush_append w.peer.session w.own.sent (RS resync.Restart n t o) ∙ restart_next fy resync.Restart n t o

  other_before : heard w.peer.session (w.own.sent ++ RS resync.Restart n t o ∷ []) ≡ hearing w.peer w.own
  other_before = heard_restart w.peer.session w.own.sent resync.Restart n t o s.peer.fits side.owed ∙ sym side.all

  own_open : Open w.own.session.units w.own.session.base end
  own_open = flush_open (asked w.own.session n t) w.peer.sent refl flows.fits

  -- ---- the two halves

  ruleset both_after = (side, flows, crossed, ends_meet, own_open, other_end, crossed_units, crossed_base)

  own_half : Half (given_up w.owner) asks w.peer
  own_half = grind (arith, both_after, none_held, available)

  peer_half : Half (turned_owners (given_up w.owner)) w.peer asks
  peer_half = grind (arith, both_after, fit_append, restart_fits, other_before, given_theirs)

  -- ---- what was seen

  own_views : Views (w.history ++ []) asks w.peer
  unfolding restarted_at
  own_views = grind (arith, flows, same_cut, listener_begins, side.heeds, append-nil, side.units, own_open)

  peer_views : Views (w.history ++ []) w.peer asks
  peer_views =
      search (arith, view_append, yielded_view, side.owed, other_before, append-nil, due_end, crossed_units, other_end, data_append)

  -- ---- the numbers

  grown : Grown w.own.session.numbers.confirmed (hearing w.own w.peer)
  grown =
      heard_grown w.own.session.numbers.confirmed w.own.session w.peer.sent
      (record { phase = side.begun; from = omega arith; to = s.consistent.own.sound.ordered.confirmed_to }) s.own.fits

  own_counts : Counts asks w.peer
  unfolding restarted_at
  own_counts =
      let up = lower_second n w.own.session.numbers.confirmed in
      let grew = grown.from in
      rw (flows.heard, other_before) (record {
        flag = s.own_counts.flag;
        below = λ l k from to. let base = side.heard_base in s.own_counts.below l k (omega arith) (omega arith);
        reach = λ f. grind (arith, ltb-true, ltb-false, lower_second);
      })

  peer_counts : Counts w.peer asks
  unfolding restarted_at
  peer_counts = rw (flows.heard, other_before) (record {
    flag = λ f. by_test (w.own.session.numbers.answers)
        (λ e. let f : (hearing w.own w.peer).numbers.answers ≡ false = (s.peer_counts.flag f) in
        absurd (let k = (heard_turned w.own.session w.peer.sent (record { phase = side.begun; answers = e }) s.own.fits).answers in cc))
        (λ e. e);
    below = λ l. absurd (cc);
    reach = λ f. lower_both n w.own.session.numbers.next _ w.own.session.numbers.confirmed q.top (s.peer_counts.reach f);
  })

  -- ---- both at once

  pair_kept : Pair (w.history ++ []) asks w.peer
  pair_kept =
      grind (arith, asked, append-nil, flows, flush_open, list_any_append, IsOfProfile, side, own_open)

-- ---- the call

ruleset both_kept = (own_half, peer_half, own_views, peer_views, own_counts, peer_counts, pair_kept)

pub in_range : (s : State) (n : ℕ) → IsSound s → is_restartable s n ≡ true → (s.base ≤ n) × (n ≤ s.numbers.next)
in_range s n sound h = grind (arith, and_parts, leb-true)

pub restart_stands : (n : ℕ) (wishes : TokenSetting) (o : List ℕ) → Keeps (Restart n wishes o)
restart_stands n wishes o w p s =
    search (arith, both_kept, in_range w.own.session n s.consistent.own.sound p.needed.1.0)
