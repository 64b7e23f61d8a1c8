-- A DR that a whole calling end takes for a reference that is gone closed nothing at the judge, whatever happens.
-- For the law of that name.
use Rattle.osi_blameless.proofs.transport.Vocabulary.{[], AllByRecursion, arith, arrives, asked_by, asks_with, begins, breaks, calls}
use Rattle.osi_blameless.proofs.transport.Vocabulary.{closes_call as closes, Connect, Connection, connects, Direction, Event, false}
use Rattle.osi_blameless.proofs.transport.Vocabulary.{Happens, Left, List}
use Rattle.osi_blameless.proofs.transport.Vocabulary.{None, packet, packet_begins, passes, passes_rubbish, Passing, proposal, put_by}
use Rattle.osi_blameless.proofs.transport.Vocabulary.{put_for, react, refl}
use Rattle.osi_blameless.proofs.transport.Vocabulary.{request, Right, rubbish, sends, sends_all, subst, sym, takes, Traffic, true}
use Rattle.osi_blameless.proofs.transport.Vocabulary.{unit as passing}
use Rattle.osi_blameless.proofs.transport.Vocabulary.{user as by_user, user_does, UserCall, Value, Whole, ℕ, ◌++◌, ◌+◌, ◌<◌, ◌∙◌, ◌∷◌, ◌≡◌}
use Rattle.osi_blameless.proofs.transport.Vocabulary.{◌≤◌}
use Rattle.osi_carrier.specs.State.{State}
use Rattle.osi_blameless.specs.transport.Wholes.{begins_other, begins_own, passes_other, passes_own}
use Rattle.osi_blameless.proofs.transport.small_facts_that_many_lemmas_use.{none_of}
use Rattle.osi_blameless.proofs.transport.names.a_reference_names_one_connection.{passes_apart}
use Rattle.osi_blameless.proofs.transport.requests.a_request_of_a_whole_end_is_new.{Newer, rise_all, still_newer}
use Rattle.osi_blameless.proofs.transport.requests.references_of_requests_rise.{unit_gives}
use Rattle.osi_blameless.proofs.transport.names.all_are_judged_unless_one_broke.{still_judged}
use Rattle.osi_blameless.proofs.transport.requests.how_a_calling_end_asks.{over_takes}
use Rattle.osi_blameless.proofs.transport.requests.references_of_requests_rise.{Rise, all_gives, closed_gives, ended_gives, not_less}
use Rattle.osi_blameless.proofs.transport.requests.references_of_requests_rise.{sent_gives}
use Rattle.osi_blameless.proofs.transport.requests.class_0_stays_selected.{zero_stays}
use Rattle.osi_blameless.proofs.transport.by_line.what_an_end_still_has.{OffersTwo, SelectsTwo, all_last, call_after, new_live}
use Rattle.osi_blameless.proofs.transport.by_line.what_an_end_still_has.{sent_lasts, source_so}
use Rattle.osi_blameless.proofs.transport.by_line.what_an_end_still_has.{unit_after}
use Rattle.osi_blameless.proofs.transport.names.what_holds_of_one_item.{after_map, each_map}
use Rattle.osi_blameless.proofs.transport.requests.what_lasts_at_the_judge.{lasts_passing}
use Rattle.osi_blameless.proofs.transport.connections.what_stays_of_each_connection.{AreDistinct, IfAsked, IsStarted, left_passes}
use Rattle.osi_blameless.proofs.transport.connections.what_stays_of_each_connection.{lively_stays}
use Rattle.osi_blameless.proofs.transport.connections.what_stays_of_each_connection.{right_passes, started_stays}
use Rattle.osi_blameless.proofs.transport.names.names_stay_apart_though_one_is_lost.{AreNamedApart}
use Rattle.osi_blameless.proofs.transport.connections.what_the_other_side_closes.{Came, IsOngoing, IsPlain, IsSane, dr_none, going_of}
use Rattle.osi_blameless.proofs.transport.connections.what_the_other_side_closes.{is_dr}
use Rattle.osi_blameless.proofs.transport.connections.what_the_other_side_closes.{closes as closes_one, same_closed, stays, what_came}
use Rattle.osi_blameless.proofs.transport.requests.which_requests_are_put.{asked_among, call_asks, unit_asks}
use Rattle.osi_blameless.proofs.transport.connections.what_is_live_at_an_end.{Gives, GivesNone, IsHeld, IsLive, IsLively, Timely}
use Rattle.osi_blameless.proofs.transport.connections.what_is_live_at_an_end.{gives_more, timely_begins}
use Rattle.osi_blameless.proofs.transport.connections.what_is_live_at_an_end.{timely_calls, timely_closes, timely_comes, timely_gives}
use Rattle.osi_blameless.proofs.transport.connections.what_is_live_at_an_end.{timely_puts, timely_takes}
use Rattle.osi_blameless.proofs.transport.requests.units_that_wait_give_references_above_those_that_passed.{given_among}

-- ---- the end takes a unit, and its user makes a call

-- it puts no CR
none_asked : (units : List Value) → asked_among units ≡ [] → AllByRecursion (GivesNone Left) units
none_asked [] e = tt
none_asked (v ∷ units) e = (λ x is. absurd (grind arith), none_asked units (grind arith))

abbrev IsTimely : Whole → Type 0
IsTimely w = Timely Left w.end w.coming w.judge.connections w.put

taking : (w : Whole) (unit : Value) (later : List Value) → w.coming ≡ unit ∷ later → OffersTwo w.end → SelectsTwo w.end unit →
    (react unit w.end).ended ≡ None → IsTimely w →
    IsTimely (record w { end = react unit w.end; put = w.put ++ put_for unit w.end; coming = later })
taking w unit later e o two lasts l =
    let t = react unit w.end in
    timely_puts Left t later w.judge.connections w.put (put_for unit w.end) (none_asked (put_for unit w.end) (unit_asks unit w.end))
    (timely_takes Left w.end t unit later w.judge.connections w.put (unit_gives unit w.end)
    (λ m live other. (unit_after unit w.end o two).live lasts m live other)
    (subst (λ (l : List Value). Timely Left w.end l w.judge.connections w.put) e l))

abbrev pub after_calling : Whole → UserCall → Whole
after_calling w call = record w { end = user_does call w.end; put = w.put ++ put_by call w.end }

module _ (w : Whole) (call : UserCall) (live : (m : ℕ) → IsLive w.end m → IsLive (user_does call w.end) m) (l : IsTimely w) where
  lasting : w.end.given ≤ (user_does call w.end).given → Timely Left (user_does call w.end) w.coming w.judge.connections w.put
  lasting given = timely_calls Left w.end (user_does call w.end) w.coming w.judge.connections w.put given live l

  -- a call that puts no CR
  no_request : asks_with (by_user call) w.end ≡ [] → w.end.given ≤ (user_does call w.end).given → IsTimely (after_calling w call)
  no_request none given =
      timely_puts Left (user_does call w.end) w.coming w.judge.connections w.put (put_by call w.end)
      (none_asked (put_by call w.end) (call_asks call w.end ∙ none)) (lasting given)

calling_by : (call : UserCall) (w : Whole) → ((m : ℕ) → IsLive w.end m → IsLive (user_does call w.end) m) → IsTimely w →
    IsTimely (after_calling w call)
calling_by (connects calling called) w live l =
    let call = connects calling called in
    let x = proposal w.end.local w.end.class calling called (w.end.given + 1) in
    timely_gives Left w.end (user_does call w.end) w.coming w.judge.connections w.put (request x)
    (λ y e. subst (λ (n : ℕ). IsLive (user_does call w.end) n × (w.end.given < n)) (source_so calling called w.end y e)
    (new_live calling called w.end, omega arith)) l.known (lasting w call live l (omega arith))
calling_by (sends r tsdu) w live l = search (arith, no_request, not_less, sent_gives)
calling_by (sends_all r tsdus) w live l = search (arith, no_request, not_less, all_gives)
calling_by (closes r reason) w live l = search (arith, no_request, not_less, closed_gives)
calling_by (breaks reason) w live l = search (arith, no_request, not_less, ended_gives)

-- ---- a unit of the end passes

-- the CR that passes has a reference above those at the judge
above : (w : Whole) (v : Value) (put : List Value) → w.put ≡ v ∷ put → Newer w → (P : Connection → Type 0) →
    ((x : Connect) → v ≡ request x → P (asked_by x)) → IfAsked P w.judge.connections v
above w v put e n P new = grind arith

own : (w : Whole) (v : Value) (put : List Value) → w.put ≡ v ∷ put → Newer w → AreDistinct w.judge.connections → IsTimely w →
    IsTimely (record w { put = put; begun = false; judge = (takes Left v w.judge).state })
own w v put e n distinct l =
    let L = IsHeld Left w.end w.coming in
    let (first, others) = subst (AllByRecursion (Gives Left L)) e l.gives in
    record {
      judges = (left_passes (IsLively Left L) v w.judge (lively_stays L v w.judge)
          (above w v put e n (IsLively Left L) (λ x is judged there. first x is)) l.judges distinct).0;
      gives = others;
      firsts = l.firsts;
      known = l.known;
    }

-- ---- a unit of the other side passes

-- the references of CRs that are to pass are above those at the judge
all_above : (n last : ℕ) (units : List Value) → n ≤ last → Rise last (given_among Left units) →
    AllByRecursion (Gives Left (λ m. m ≡ n → ⊥)) units
all_above n last units h r =
    gives_more Left (λ m. last < m) (λ m. m ≡ n → ⊥) units (λ m up same. absurd (omega arith)) (rise_all last units r)

abbrev after_other : Whole → Value → Whole
after_other w v = record w { judge = (takes Right v w.judge).state; coming = w.coming ++ v ∷ [] }

came : (w : Whole) (v : Value) → Newer w → IsTimely w → Came (IsHeld Left w.end w.coming) v w.judge (takes Right v w.judge).state →
    IsTimely (after_other w v)
came w v n l (stays e judge) =
    timely_comes Left w.end w.coming w.judge.connections (takes Right v w.judge).state.connections w.put v e (dr_none v e) judge l
came w v n l (closes_one q e p c at is dr judge) =
    let below = n.below p c at in
    let last = n.above.given in
    timely_closes Left w.end w.coming w.judge.connections (takes Right v w.judge).state.connections w.put v q e
    (λ m k. subst (IsHeld Left w.end w.coming) (same_closed v q m e k) (dr (is_dr v m k))) (omega arith) judge
    (all_above q n.last w.put (omega arith) n.above.rise) l

-- ---- all that holds

pub record Holds (w : Whole) : Type 0 where
  pub newer : Newer w
  pub sane : IsSane w.judge
  pub offers : IsOngoing w.judge.course → OffersTwo w.end
  pub timely : IsPlain w.judge.course → w.end.ended ≡ None → IsTimely w

-- what is known besides: the references of right are apart, the next unit selects class 2 if it is a CC that the end awaits, and the end
-- has broken no rule
pub record Known (w : Whole) : Type 0 where
  pub peers : IsOngoing w.judge.course → AreNamedApart Right w.judge.connections
  pub selects : IsOngoing w.judge.course → (u : Value) (later : List Value) → w.coming ≡ u ∷ later → SelectsTwo w.end u
  pub fine : IsOngoing w.judge.course → w.judge.course.left_erred ≡ false

begun_started : (d : Direction) (c : Connection) → IsStarted c → IsStarted (begins d c)
begun_started d c h = grind arith

sane_begins : (d : Direction) (s : Traffic) → IsSane s → IsSane (packet_begins d s)
sane_begins d s h =
    search (arith, each_map, begun_started, after_map, passes_apart (packet d) s h.apart, still_judged (packet d) s h.judged)

sane_right : (v : Value) (s : Traffic) → IsSane s → IsSane (takes Right v s).state
sane_right v s h =
    let (started, distinct) = right_passes IsStarted v s (started_stays Right v s) h.started h.distinct in
    grind (arith, passes_apart (passing Right v) s h.apart, still_judged (passing Right v) s h.judged)

sane_left : (v : Value) (s : Traffic) → IfAsked IsStarted s.connections v → IsSane s → IsSane (takes Left v s).state
sane_left v s new h =
    let (started, distinct) = left_passes IsStarted v s (started_stays Left v s) new h.started h.distinct in
    grind (arith, passes_apart (passing Left v) s h.apart, still_judged (passing Left v) s h.judged)

before_passing : (p : Passing) (s : Traffic) → IsPlain (passes p s).course → IsPlain s.course
before_passing p s h = grind (arith, zero_stays, lasts_passing p s)

-- both sides were judged, and class 0 was not selected
pub before_going : (p : Passing) (s : Traffic) → IsOngoing (passes p s).course → IsOngoing s.course
before_going p s h = grind (arith, zero_stays, lasts_passing p s)

not_over : (call : UserCall) (s : State) → (user_does call s).ended ≡ None → s.ended ≡ None
not_over call s h = grind (arith, sent_lasts, all_last)

abbrev pub after_arriving : Whole → Value → List Value → Whole
after_arriving w unit later = record w { end = react unit w.end; put = w.put ++ put_for unit w.end; coming = later }

holds_taking : (w : Whole) (unit : Value) (later : List Value) → w.coming ≡ unit ∷ later → Known w → Holds w →
    Newer (record w { end = react unit w.end; put = w.put ++ put_for unit w.end; coming = later }) →
    Holds (record w { end = react unit w.end; put = w.put ++ put_for unit w.end; coming = later })
holds_taking w unit later e k h n = record {
  newer = n;
  offers = λ going. (unit_after unit w.end (h.offers going) (k.selects going unit later e)).offers;
  sane = h.sane;
  timely = λ plain lasts.
      let going = going_of w.judge.course plain in
      taking w unit later e (h.offers going) (k.selects going unit later e) lasts
      (h.timely plain (grind (arith, none_of, over_takes)));
}

holds_calling : (w : Whole) (call : UserCall) → Holds w → Newer (after_calling w call) → Holds (after_calling w call)
holds_calling w call h n = record {
  newer = n;
  sane = h.sane;
  offers = λ going. (call_after call w.end (h.offers going)).offers;
  timely = λ plain lasts.
      calling_by call w ((call_after call w.end (h.offers (going_of w.judge.course plain))).live lasts)
      (h.timely plain (not_over call w.end lasts));
}

pub next_holds : (event : Event) (w new : Whole) → Happens Left event w new → Known w → Holds w → Holds new
next_holds arrives w new (unit, coming, is) k h =
    subst Holds (sym is) (holds_taking w unit new.coming coming k h
    (still_newer arrives w (after_arriving w unit new.coming) (unit, coming, refl) h.newer))
next_holds (calls call) w new (may, is) k h =
    subst Holds (sym is) (holds_calling w call h (still_newer (calls call) w (after_calling w call) (may, refl) h.newer))
next_holds begins_own w new (some, not_begun, is) k h =
    let after = record w { begun = true; judge = packet_begins Left w.judge } in
    subst Holds (sym is) (record {
      newer = still_newer begins_own w after (some, not_begun, refl) h.newer;
      offers = λ going. h.offers (before_going (packet Left) w.judge going);
      sane = sane_begins Left w.judge h.sane;
      timely = λ plain lasts. timely_begins Left Left w.end w.coming w.judge.connections w.put
          (h.timely (before_passing (packet Left) w.judge plain) lasts);
    })
next_holds passes_own w new (v, (put, begun, is)) k h =
    let after = record w { put = new.put; begun = false; judge = (takes Left v w.judge).state } in
    subst Holds (sym is) (record {
      newer = still_newer passes_own w after (v, (put, begun, refl)) h.newer;
      offers = λ going. h.offers (before_going (passing Left v) w.judge going);
      sane = sane_left v w.judge (above w v new.put put h.newer IsStarted (grind arith)) h.sane;
      timely = λ plain lasts. own w v new.put put h.newer h.sane.distinct (h.timely (before_passing (passing Left v) w.judge plain) lasts);
    })
next_holds begins_other w new is k h =
    let after = record w { judge = packet_begins Right w.judge } in
    subst Holds (sym is) (record {
      newer = still_newer begins_other w after refl h.newer;
      offers = λ going. h.offers (before_going (packet Right) w.judge going);
      sane = sane_begins Right w.judge h.sane;
      timely = λ plain lasts. timely_begins Left Right w.end w.coming w.judge.connections w.put
          (h.timely (before_passing (packet Right) w.judge plain) lasts);
    })
next_holds (passes_other v) w new (ranges, is) k h =
    subst Holds (sym is) (record {
      newer = still_newer (passes_other v) w (after_other w v) (ranges, refl) h.newer;
      offers = λ going. h.offers (before_going (passing Right v) w.judge going);
      sane = sane_right v w.judge h.sane;
      timely = λ plain lasts.
          let before = before_passing (passing Right v) w.judge plain in
          let l = h.timely before lasts in
          let going = going_of w.judge.course before in
          came w v h.newer l (what_came (IsHeld Left w.end w.coming) w.judge h.sane (k.peers going) l.judges before (k.fine going) v plain);
    })
next_holds passes_rubbish w new is k h =
    let after = record w { judge = passes (rubbish Right) w.judge } in
    subst Holds (sym is) (record {
      newer = still_newer passes_rubbish w after refl h.newer;
      offers = λ going. h.offers (before_going (rubbish Right) w.judge going);
      sane = grind (arith, passes_apart, still_judged);
      timely = grind (arith, before_passing);
    })
