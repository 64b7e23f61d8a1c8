-- What has come for a connection of a calling end that has not opened: its CC has passed, or no DT and no AK for it has. So it is at the
-- beginning, and each step keeps it so, as long as both sides are judged. For the session of each connection of a calling end.
use Rattle.osi_blameless.proofs.Vocabulary.{◌≡◌, ◌∙◌, ◌⊎◌, inl, inr, refl, sym, ap, subst, ℕ, ◌<◌, Bool, true, false, List, [], ◌∷◌, ◌++◌}
use Rattle.osi_blameless.proofs.Vocabulary.{Option, Some, None, length, map, append_assoc, arith, ◌||◌, slice_get, AllByRecursion, eqb-true}
use Rattle.osi_blameless.proofs.Vocabulary.{le-leb, lt-ltb, append-nil, slice_get-map, units_of, Connect, HasFieldsInRange, Value}
use Rattle.osi_blameless.proofs.Vocabulary.{acknowledge, confirm, data0, data2, destination_of, disconnect, disconnected, error, request}
use Rattle.osi_blameless.proofs.Vocabulary.{Fits, units_fit, units_found, Local, value_at, Left, Right, Connection, Reach, Half, Phase}
use Rattle.osi_blameless.proofs.Vocabulary.{is_applied, begins, is_closed, is_closing, is_open, is_refused, is_silent, State, asked_by}
use Rattle.osi_blameless.proofs.Vocabulary.{connection_after, found, found_on, judged_on, takes, uses_source, Whole, next_joined}
use Rattle.osi_blameless.proofs.Vocabulary.{before_going, applied_judged, each_sound, Followed, IsAnswer, Tracked, all_so, is_tracked, both}
use Rattle.osi_blameless.proofs.Vocabulary.{left_open, IsIdle, comes_for, HoldsOfEach, after_add, after_map, after_set, Sound, left_then}
use Rattle.osi_blameless.proofs.Vocabulary.{own_stays, right_passes, IsOngoing, is_name, each_picked, names, picked_join, picked_other}
use Rattle.osi_blameless.proofs.Vocabulary.{those, those_join, Deeds, units_in, units_by, Turn, early, past, stage_at, asked_so, has_given}
use Rattle.osi_blameless.proofs.Vocabulary.{Holding, Joined, Sessions, Course, unit_passes, units_pass, Joint, Steps, TakesTurn, begin}
use Rattle.osi_blameless.proofs.Vocabulary.{begins_other, begins_own, passes_other, passes_own, HaveSamePlaces, IsOneOf, named_by, ◌≤◌}
use Rattle.osi_carrier.specs.State.{State as Carrier, asked}
use Rattle.osi_rules.specs.declared.directions.Direction.{Direction as Way}
use Rattle.osi_rules.specs.declared.directions.Direction.TheVariants as way
use Rattle.osi_blameless.specs.transport.Naming.{unit as passing}
use Rattle.osi_blameless.specs.transport.Wholes as wholes
use Rattle.osi_blameless.proofs.transport.by_line.an_end_is_fair_in_class_2.{Joined as Follows}
use Rattle.osi_blameless.proofs.transport.connections.no_two_open_connections_have_one_peer.{differ}
use Rattle.osi_blameless.proofs.transport.connections.what_becomes_of_a_connection.{Told}
use Rattle.osi_blameless.proofs.keeping.a_carrier_does_events.{none_of}
use Rattle.osi_blameless.proofs.keeping.steps_are_events.{whole_of, IsFollowed}
use Rattle.osi_blameless.proofs.in_class_2.no_unit_waits_for_the_reference_that_a_cc_gives.{one_plain}
use Rattle.osi_blameless.proofs.in_class_2.an_end_hears_what_breaks_no_rule.{AreFine, IsHeardOn}
use Rattle.osi_blameless.proofs.putting.a_whole_end_runs_along.{first, joined_by_line}
use Rattle.osi_blameless.proofs.in_class_2.an_end_of_class_2_goes_on.{OwnInTwo}
use Rattle.osi_blameless.proofs.coming.a_calling_end_takes_nothing_before_its_cc.{HasCc, has_cc}
use Rattle.osi_blameless.proofs.small_facts_that_many_lemmas_use.{early_lasts}
use Rattle.osi_blameless.proofs.putting.a_turn_does_what_its_deeds_say.{turn_leaves}
use Rattle.osi_blameless.proofs.standing.a_unit_after_a_dr_is_for_a_closing_connection.{not_over}
use Rattle.osi_blameless.proofs.shown.a_unit_is_joined_where_it_is_named.{named_there, names_there}
use Rattle.osi_blameless.proofs.shown.connections_have_the_same_places.{unit_knows}
use Rattle.osi_blameless.proofs.putting.nothing_is_done_before_a_cr_passes.{IsNoZero}
use Rattle.osi_blameless.proofs.putting.what_a_turn_puts_goes_to_its_peer.{one_of}
use Rattle.osi_blameless.proofs.small_facts_that_many_lemmas_use.{all_front, same_one}
use Rattle.osi_blameless.proofs.standing.what_a_unit_does_at_its_place.{Does, asks_again, asks_more, nowhere, somewhere, unit_does}
use Rattle.osi_blameless.proofs.standing.what_passes_leaves_all_standing.{AllGoesOn}
use Rattle.osi_blameless.proofs.standing.what_stands_of_a_connection.{is_for, waiting_for}
use Rattle.osi_blameless.proofs.steps.what_the_turns_among_steps_do.{TurnDoes}
use Rattle.osi_blameless.proofs.transport.small_facts_that_many_lemmas_use.{units_join}
use Rattle.osi_blameless.proofs.transport.connections.what_stays_of_each_connection.{left_judged as own_judged}

-- ---- what is so

-- the end may open the connection with this reference
abbrev pub MayOpen : Carrier → ℕ → Type 0
MayOpen end r = (0 < r) × (stage_at r end ≡ early)

-- if the end has closed this connection at the judge, it can't open there any more
abbrev pub IsPast : Carrier → Half → Type 0
IsPast end half = is_open half.phase ≡ false → MayOpen end half.reference → ⊥

pub record IsQuiet (end : Carrier) (coming : List Value) (s : State) : Type 0 where
  -- of a connection that may open the CC has passed, or nothing that has come is for it
  pub before : (r : ℕ) → MayOpen end r → Tracked s.connections r ⊎ (waiting_for (Some r) coming ≡ [])
  pub closed : HoldsOfEach (λ (c : Connection). IsPast end c.left) s.connections

-- with another end and other units, as long as the connection may open
quiet_as : (a b : Carrier) (xs ys : List Value) (s t : State) → t ≡ s → ((r : ℕ) → MayOpen b r → MayOpen a r × (ys ≡ xs)) →
    IsQuiet a xs s → IsQuiet b ys t
quiet_as a b xs ys s t same alike q = grind (arith, waiting_for)

-- ---- a connection whose CC has come stays open at the judge

abbrev is_answered : Whole → Value → Type 0
is_answered w v = IsAnswer w.judge.course.loose w.judge.connections w.end v

answer_of : (local : Local) (w next : Whole) (more : List Value) → Followed local next → next.coming ≡ w.coming ++ more → (r : ℕ) →
    next.end.ended ≡ None → value_at r next.end.live ≡ Some asked → HasCc r w.coming → Tracked next.judge.connections r
answer_of local w next more f is r lasts waits a =
    let all : AllByRecursion (is_answered next) (those r (w.coming ++ more)) = grind (arith, each_picked, names, all_so) in
    grind (arith, all_front, those, those_join, one_of)

given_there : (local : Local) (w : Whole) (r : ℕ) → Follows local w → 0 < r → Tracked w.judge.connections r → has_given r w.end ≡ true
given_there local w r j some (p, c, at, tracked, same) =
    let below = j.kept.newer.below p c at in
    let last = j.kept.newer.above.given in
    let up : r ≤ w.end.given = omega (arith, below, last, same) in
    grind (arith, lt-ltb, le-leb)

-- as the judge knows more of the same end
still_tracked : (local : Local) (w next : Whole) (more : List Value) → Follows local w → Follows local next → IsOngoing w.judge.course →
    IsOngoing next.judge.course → next.end ≡ w.end → next.coming ≡ w.coming ++ more → (r : ℕ) → MayOpen w.end r →
    Tracked w.judge.connections r → Tracked next.judge.connections r
still_tracked local w next more j then_j clear then_clear same is r may tracked =
    let lasts = early_lasts r w.end may.1 in
    let given = given_there local w r j may.0 tracked in
    answer_of local w next more (then_j.followed then_clear) is r (ap (λ (c : Carrier). c.ended) same ∙ lasts)
    (ap (λ (c : Carrier). value_at r c.live) same ∙ (asked_so r w.end given may.1).1) (has_cc local w r j clear tracked given may.1 lasts)

-- ---- a unit of the end passes

-- right has sent a CC, and has not answered a DR of left
there_by : (c : Connection) (n : ℕ) (p : Phase) → Sound c → is_open c.left.phase ≡ true → c.right.phase ≡ p →
    named_by p c.right.reference ≡ Some n → (is_open p || is_closing p) ≡ true
there_by c n p sound opened e named = grind arith

-- a unit by which left closes a connection names it
module _ (c : Connection) (sound : Sound c) (opened : is_open c.left.phase ≡ true) (v : Value)
    (named : (n : ℕ) → destination_of v ≡ Some n → named_by c.right.phase c.right.reference ≡ Some n) where
  abbrev IsThere : Type 0
  IsThere = is_tracked c ≡ true

  named_so : (n : ℕ) → destination_of v ≡ Some n → IsThere
  named_so n e = grind (arith, both, there_by)

still_open : {A : Type 0} (c e : Connection) → e.left ≡ c.left → is_open c.left.phase ≡ true → is_open e.left.phase ≡ false → A
still_open c e same opened shut = differ (is_open c.left.phase) opened (ap (λ (h : Half). is_open h.phase) (sym same) ∙ shut)

closed_there : (b : Bool) (r : Reach) (c : Connection) → Sound c → is_open c.left.phase ≡ true → (v : Value) →
    ((n : ℕ) → destination_of v ≡ Some n → named_by c.right.phase c.right.reference ≡ Some n) →
    is_open (connection_after way.Left v b r c).left.phase ≡ false → is_tracked c ≡ true
closed_there false r c sound opened v named shut = still_open c (judged_on r c) (own_judged r c) opened shut
closed_there true r c sound opened (request x) named shut = grind (arith, still_open, own_judged)
closed_there true r c sound opened (confirm n x) named shut = named_so c sound opened (confirm n x) named n refl
closed_there true r c sound opened (disconnect n source reason user) named shut =
    named_so c sound opened (disconnect n source reason user) named n refl
closed_there true r c sound opened (disconnected n source) named shut = named_so c sound opened (disconnected n source) named n refl
closed_there true r c sound opened (data0 end user) named shut = grind (arith, differ, own_judged)
closed_there true r c sound opened (data2 n number end user) named shut = named_so c sound opened (data2 n number end user) named n refl
closed_there true r c sound opened (acknowledge credit n number) named shut = grind (arith, named_so)
closed_there true r c sound opened (error n cause) named shut = named_so c sound opened (error n cause) named n refl

module _ (local : Local) (v : Value) (w : Whole) (rest : List Value) (put : w.put ≡ v ∷ rest) (begun : w.begun ≡ true) (t : Sessions)
    (places : HaveSamePlaces w.judge.connections t.live) (j : Follows local w)
    (then_clear : IsOngoing (takes way.Left v w.judge).state.course) (q : IsQuiet w.end w.coming w.judge) where
  abbrev own_after : Whole
  own_after = record w { put = rest; begun = false; judge = (takes way.Left v w.judge).state }

  own_joined : Follows local own_after
  own_joined = next_joined local wholes.passes_own w own_after (v, (put, begun, refl)) j

  own_clear : IsOngoing w.judge.course
  own_clear = before_going (passing way.Left v) w.judge then_clear

  own_still : (r : ℕ) → MayOpen w.end r → Tracked w.judge.connections r → Tracked own_after.judge.connections r
  own_still = still_tracked local w own_after [] j own_joined own_clear then_clear refl (sym (append-nil w.coming))

  -- one that was open, and that this unit closes
  own_shut : (i : ℕ) (c e : Connection) → slice_get w.judge.connections i ≡ Some c → slice_get own_after.judge.connections i ≡ Some e →
      e.left.reference ≡ c.left.reference → is_tracked c ≡ true → is_open e.left.phase ≡ false → MayOpen w.end c.left.reference → ⊥
  own_shut i c e at there same tracked shut may =
      let (p, x, here, then_tracked, is) = own_still c.left.reference may (i, c, at, tracked, refl) in
      let one : i ≡ p = own_joined.kept.sane.distinct i p e x there here (same ∙ sym is) in
      grind (arith, differ, same_one, left_open)

  own_by : (i : ℕ) (c : Connection) (k : Joined) (b opened : Bool) (r : Reach) → is_open c.left.phase ≡ opened →
      slice_get w.judge.connections i ≡ Some c → IsOneOf c k → (takes way.Left v w.judge).told.place ≡ Some i →
      is_applied (found_on way.Left w.judge c v) ≡ b →
      slice_get own_after.judge.connections i ≡ Some (connection_after way.Left v b r c) →
      IsPast w.end (connection_after way.Left v b r c).left
  own_by i c k b false r e at one place is there shut may = grind (arith, own_stays)
  own_by i c k false true r e at one place is there shut may = grind (arith, still_open, own_judged)
  own_by i c k true true r e at one place is there shut may =
      let same = (own_stays true w.judge v r c is).reference in
      let judged = applied_judged c.is_judged (found way.Left w.judge.course (uses_source way.Left w.judge.connections v) c v) is in
      let tracked = closed_there true r c (j.kept.sane.apart.sound i c at judged) e v
      (λ n named. sym one.called ∙ named_there Left n c k one judged (names_there way.Left v w.judge n i c at named place)) shut in
      own_shut i c (connection_after way.Left v true r c) at there same tracked shut (subst (MayOpen w.end) same may)

  asked_open : {A : Type 0} (x : Connection) (y : Connect) → x ≡ asked_by y → is_open x.left.phase ≡ false → A
  asked_open x y is shut = differ true refl (ap (λ (c : Connection). is_open c.left.phase) (sym is) ∙ shut)

  own_closed : (d : Does Left 0 v w.judge t (takes way.Left v w.judge)) → HoldsOfEach (λ (c : Connection). IsPast w.end c.left)
      own_after.judge.connections
  own_closed (nowhere place cs ts) p x at = q.closed p x (ap (λ (l : List Connection). slice_get l p) (sym cs) ∙ at)
  own_closed (somewhere i c k b r place there here one finding is far cs ts) p x at =
      by (after_set w.judge.connections i p (connection_after way.Left v b r c) x
      (ap (λ (l : List Connection). slice_get l p) (sym cs) ∙ at))
    where
      by : ((p ≡ i) × (x ≡ connection_after way.Left v b r c)) ⊎ (slice_get w.judge.connections p ≡ Some x) → IsPast w.end x.left
      by (inr was) = q.closed p x was
      by (inl (same, new)) =
          subst (λ (e : Connection). IsPast w.end e.left) (sym new)
          (own_by i c k b (is_open c.left.phase) r refl there one place is
          (ap (slice_get own_after.judge.connections) (sym same) ∙ at ∙ ap (λ (e : Connection). Some e) new))
  own_closed (asks_more y is number cs ts) p x at =
      by (after_add w.judge.connections p (asked_by y) x (ap (λ (l : List Connection). slice_get l p) (sym cs) ∙ at))
    where
      by : ((p ≡ length w.judge.connections) × (x ≡ asked_by y)) ⊎ (slice_get w.judge.connections p ≡ Some x) → IsPast w.end x.left
      by (inr was) = q.closed p x was
      by (inl (same, new)) = λ shut may. asked_open x y new shut
  own_closed (asks_again y is number i k here free cs ts) p x at =
      by (after_set w.judge.connections i p (asked_by y) x (ap (λ (l : List Connection). slice_get l p) (sym cs) ∙ at))
    where
      by : ((p ≡ i) × (x ≡ asked_by y)) ⊎ (slice_get w.judge.connections p ≡ Some x) → IsPast w.end x.left
      by (inr was) = q.closed p x was
      by (inl (same, new)) = λ shut may. asked_open x y new shut

  own_before : (r : ℕ) → MayOpen w.end r → Tracked w.judge.connections r ⊎ (waiting_for (Some r) w.coming ≡ []) →
      Tracked own_after.judge.connections r ⊎ (waiting_for (Some r) w.coming ≡ [])
  own_before r may h = grind (arith, own_still)

  own_quiet : IsQuiet w.end w.coming (takes way.Left v w.judge).state
  own_quiet = record {
    before = λ r may. own_before r may (q.before r may);
    closed = own_closed (unit_does Left 0 v w.judge t places);
  }

-- ---- a unit of the other side passes

-- a DT or an AK for this reference
pub data IsForOne (r : ℕ) (v : Value) : Type 0 where
  a_dt : (number : ℕ) (end : Bool) (user : List ℕ) → v ≡ data2 r number end user → IsForOne r v
  an_ak : (credit number : ℕ) → v ≡ acknowledge credit r number → IsForOne r v

for_one : (r : ℕ) (v : Value) → IsNoZero v → is_for (Some r) v ≡ true → IsForOne r v
for_one r (data2 n number end user) zero h = a_dt number end user (ap (λ (m : ℕ). data2 m number end user) (eqb-true n r h))
for_one r (acknowledge credit n number) zero h = an_ak credit number (ap (λ (m : ℕ). acknowledge credit m number) (eqb-true n r h))
for_one r (data0 end user) zero h = absurd zero
for_one r (request x) zero h = absurd (cc h)
for_one r (confirm n x) zero h = absurd (cc h)
for_one r (disconnect n source reason user) zero h = absurd (cc h)
for_one r (disconnected n source) zero h = absurd (cc h)
for_one r (error n cause) zero h = absurd (cc h)

-- right has answered the CR by a CC, and left's DR not
answered_so : (p : Phase) → is_silent p ≡ false → is_refused p ≡ false → is_closed p ≡ false → (is_open p || is_closing p) ≡ true
answered_so p a b c = grind arith

destination_is : (r : ℕ) (v : Value) → IsForOne r v → destination_of v ≡ Some r
destination_is r v h = grind arith

same_name : (o : Option ℕ) (n m : ℕ) → o ≡ Some n → o ≡ Some m → n ≡ m
same_name o n m e h = let same : Some n ≡ Some m = sym e ∙ h in cc

no_dc : {A : Type 0} (r m source : ℕ) (v : Value) → IsForOne r v → v ≡ disconnected m source → A
no_dc r m source v h e = grind arith

module _ (local : Local) (v : Value) (w : Whole) (j : Follows local w) (on : AllGoesOn v Left w.judge) (clear : IsOngoing w.judge.course)
    (then_clear : IsOngoing (takes way.Right v w.judge).state.course) (q : IsQuiet w.end w.coming w.judge) where
  -- the connection that a DT or an AK names has its CC
  named_there_by : (r : ℕ) → MayOpen w.end r → (t : Told v w.judge (takes way.Right v w.judge)) → (opened : Bool) →
      is_open t.c.left.phase ≡ opened → t.c.left.reference ≡ r → (is_open t.c.right.phase || is_closing t.c.right.phase) ≡ true →
      Tracked w.judge.connections r
  named_there_by r may t true e same right =
      (t.q, t.c, t.at, both (is_open t.c.left.phase) (is_open t.c.right.phase || is_closing t.c.right.phase) e right, same)
  named_there_by r may t false e same right = absurd (q.closed t.q t.c t.at e (subst (MayOpen w.end) (sym same) may))

  tracked_of : (r : ℕ) → MayOpen w.end r → IsForOne r v →
      Told v w.judge (takes way.Right v w.judge) ⊎ IsIdle way.Right v w.judge (takes way.Right v w.judge) → Tracked w.judge.connections r
  tracked_of r may one (inr idle) = no_dc r idle.m idle.source v one idle.dc
  tracked_of r may one (inl t) =
      let sound = each_sound way.Right w.judge.connections j.kept.sane.apart (j.peers clear) t.q t.c t.at in
      let same : t.c.left.reference ≡ r =
      is_name t.c t.n sound t.named ∙ same_name (destination_of v) t.n r t.dest (destination_is r v one) in
      named_there_by r may t (is_open t.c.left.phase) refl same (grind (arith, not_over, answered_so))

  tracked_now : (r : ℕ) → MayOpen w.end r → IsForOne r v → Tracked w.judge.connections r
  tracked_now r may one =
      tracked_of r may one (comes_for w.judge (j.fine clear) v clear.sure.left clear.sure.right (j.followed clear).zero
      then_clear.sure)

module _ (local : Local) (v : Value) (ranges : HasFieldsInRange v) (w : Whole) (j : Follows local w) (zero : IsNoZero v)
    (clear : IsOngoing w.judge.course) (then_clear : IsOngoing (takes way.Right v w.judge).state.course)
    (q : IsQuiet w.end w.coming w.judge)
    (now : (r : ℕ) → MayOpen w.end r → IsForOne r v → Tracked w.judge.connections r) where
  abbrev other_after : Whole
  other_after = record w { judge = (takes way.Right v w.judge).state; coming = w.coming ++ v ∷ [] }

  other_joined : Follows local other_after
  other_joined = next_joined local (wholes.passes_other v) w other_after (ranges, refl) j

  other_still : (r : ℕ) → MayOpen w.end r → Tracked w.judge.connections r → Tracked other_after.judge.connections r
  other_still = still_tracked local w other_after (v ∷ []) j other_joined clear then_clear refl refl

  other_before : (r : ℕ) → MayOpen w.end r → Tracked w.judge.connections r ⊎ (waiting_for (Some r) w.coming ≡ []) →
      Tracked other_after.judge.connections r ⊎ (waiting_for (Some r) (w.coming ++ v ∷ []) ≡ [])
  other_before r may (inl tracked) = inl (other_still r may tracked)
  other_before r may (inr waits) = by (is_for (Some r) v) refl
    where
      by : (b : Bool) → is_for (Some r) v ≡ b →
          Tracked other_after.judge.connections r ⊎ (waiting_for (Some r) (w.coming ++ v ∷ []) ≡ [])
      by false e = inr (picked_other (is_for (Some r)) w.coming v e ∙ waits)
      by true e = inl (other_still r may (now r may (for_one r v zero e)))

  other_quiet : IsQuiet w.end (w.coming ++ v ∷ []) (takes way.Right v w.judge).state
  other_quiet = record {
    before = λ r may. other_before r may (q.before r may);
    closed = (right_passes (λ (c : Connection). IsPast w.end c.left) v w.judge
        (λ c h r. subst (IsPast w.end) (sym (left_then v (is_applied (found_on way.Right w.judge c v)) r c)) h) q.closed
        j.kept.sane.distinct).0;
  }

-- ---- the units of a packet of the other side

ongoing_first : (at : ℕ) (vs : List Value) (c : Course) → AreFine Left at vs c → IsOngoing (units_pass Right at vs c).traffic.course →
    IsOngoing c.traffic.course
ongoing_first at [] c fine clear = clear
ongoing_first at (v ∷ vs) c (one, more) then_clear = one.lasts

-- a DT or an AK that may be for a connection which has not opened is for one whose CC has passed
fine_tracked : (local : Local) (v : Value) (w : Whole) (c : Course) → IsHeardOn Left v c →
    IsOngoing (takes way.Right v w.judge).state.course → Follows local w → w.judge ≡ c.traffic →
    IsQuiet w.end w.coming w.judge → (r : ℕ) → MayOpen w.end r → IsForOne r v → Tracked w.judge.connections r
fine_tracked local v w c one then_clear j same q r may for_it =
    tracked_now local v w j (subst (AllGoesOn v Left) (sym same) one.on)
    (subst (λ (s : State). IsOngoing s.course) (sym same) one.lasts) then_clear q r may for_it

units_quiet : (local : Local) (at : ℕ) (vs : List Value) (w : Whole) (c : Course) → AreFine Left at vs c →
    IsOngoing (units_pass Right at vs c).traffic.course → AllByRecursion HasFieldsInRange vs → Follows local w → w.judge ≡ c.traffic →
    IsQuiet w.end w.coming w.judge → IsQuiet w.end (w.coming ++ vs) (units_pass Right at vs c).traffic
units_quiet local at [] w c fine clear ranges j same q = grind (arith, append-nil)
units_quiet local at (v ∷ vs) w c (one, more) then_clear ranges j same q =
    let next : Whole = record w { judge = (takes way.Right v w.judge).state; coming = w.coming ++ v ∷ [] } in
    let knows : next.judge ≡ (unit_passes Right at v c).traffic =
    ap (λ (s : State). (takes way.Right v s).state) same ∙ sym (unit_knows Right at v c) in
    let next_clear = subst (λ (s : State). IsOngoing s.course) (sym knows)
    (ongoing_first at vs (unit_passes Right at v c) more then_clear) in
    let now_clear = subst (λ (s : State). IsOngoing s.course) (sym same) one.lasts in
    let then_quiet = other_quiet local v ranges.0 w j (one_plain 0 v c one).0 now_clear next_clear q
    (fine_tracked local v w c one next_clear j same q) in
    subst (λ (l : List Value). IsQuiet w.end l (units_pass Right at (v ∷ vs) c).traffic) (append_assoc w.coming (v ∷ []) vs)
    (units_quiet local at vs next (unit_passes Right at v c) more then_clear ranges.1
    (next_joined local (wholes.passes_other v) w next (ranges.0, refl) j) knows then_quiet)

-- ---- a turn of the end

none_later : (r : ℕ) (xs ys : List Value) → waiting_for (Some r) (xs ++ ys) ≡ [] → waiting_for (Some r) ys ≡ []
none_later r xs ys none = last (waiting_for (Some r) xs) (waiting_for (Some r) ys) (sym (picked_join (is_for (Some r)) xs ys) ∙ none)
  where
    last : (us vs : List Value) → us ++ vs ≡ [] → vs ≡ []
    last [] vs e = e
    last (u ∷ us) vs e = absurd (cc e)

-- ---- an end and a judge

abbrev pub AreQuietNow : Joint → Type 0
AreQuietNow j = IsQuiet j.end.end.carrier (units_in j.coming) j.judge.traffic

-- as long as both sides are judged, and class 0 is not selected
abbrev pub AreQuiet : Joint → Type 0
AreQuiet j = IsOngoing j.judge.traffic.course → AreQuietNow j

pub begin_quiet : (holding : Holding) → AreQuiet (begin holding)
begin_quiet end = λ clear. record { before = λ r may. inr refl; closed = λ p c at. absurd (cc at) }

-- a packet begins
begun_left : (d : Way) (c : Connection) → (begins d c).left ≡ c.left
begun_left d c = grind arith

begun_tracked : (d : Way) (cs : List Connection) (r : ℕ) → Tracked cs r → Tracked (map (begins d) cs) r
begun_tracked d cs r (p, c, at, tracked, same) = grind (arith, slice_get-map (begins d) cs p, begun_left d c)

pub begins_own_quiet : (old new : Joint) → Steps Left begins_own old new → AreQuiet old → AreQuiet new
begins_own_quiet old new (some, none, is) q =
    subst AreQuiet (sym is) (λ clear.
    search (arith, after_map, begun_left, waiting_for, begun_tracked, before_going))

pub begins_other_quiet : (old new : Joint) → Steps Left begins_other old new → AreQuiet old → AreQuiet new
begins_other_quiet old new is q =
    subst AreQuiet (sym is) (search (arith, after_map, begun_left, waiting_for, begun_tracked, before_going))

module _ (local : Local) (two : local.class2 ≡ true) where
  joint_alike : (j : Joint) (f : IsFollowed Left (first local two) j) (r : ℕ) → MayOpen j.end.end.carrier r →
      MayOpen f.end r × (f.come ≡ units_in j.coming)
  joint_alike j f r may = grind (arith, early_lasts, stage_at, none_of)

  to_whole : (j : Joint) (f : IsFollowed Left (first local two) j) → AreQuietNow j → IsQuiet f.end f.come j.judge.traffic
  to_whole j f q = grind (arith, quiet_as, early_lasts, stage_at, none_of)

  pub passes_own_quiet : (deeds : ℕ → Deeds) (at : ℕ) (unit : Value) (old new : Joint) → Steps Left (passes_own at unit) old new →
      OwnInTwo Left local deeds old → HaveSamePlaces old.judge.traffic.connections old.judge.sessions.live → AreQuiet old →
      AreQuiet new
  passes_own_quiet deeds at unit old new (read, octets, (put, begun, is)) h places q =
      let f = h.ahead.followed in
      let knows : (takes way.Left unit old.judge.traffic).state ≡ (unit_passes Left at unit old.judge).traffic =
      sym (unit_knows Left at unit old.judge) in
      subst AreQuiet (sym is) (λ clear.
      quiet_as f.end old.end.end.carrier f.come (units_in old.coming) (takes way.Left unit old.judge.traffic).state
      (unit_passes Left at unit old.judge).traffic (sym knows) (λ r may. let (m, same) = joint_alike old f r may in (m, sym same))
      (own_quiet local unit (whole_of f) new.put put begun old.judge.sessions places (joined_by_line local two old f)
      (subst (λ (t : State). IsOngoing t.course) (sym knows) clear)
      (to_whole old f (q (before_going (passing way.Left unit) old.judge.traffic
      (subst (λ (t : State). IsOngoing t.course) (sym knows) clear))))))

  pub passes_other_quiet : (deeds : ℕ → Deeds) (at : ℕ) (bytes : List ℕ) (units : List Value) (old new : Joint) →
      Steps Left (passes_other at bytes units) old new → OwnInTwo Left local deeds old →
      AreFine Left at units old.judge → AreQuiet old → AreQuiet new
  passes_other_quiet deeds at bytes units old new (octets, read, is) h fine q =
      let f = h.ahead.followed in
      let one : units_in (bytes ∷ []) ≡ units = append-nil (units_by (units_of bytes)) ∙ ap units_by read in
      let all : units_in (old.coming ++ bytes ∷ []) ≡ units_in old.coming ++ units =
      units_join old.coming (bytes ∷ []) ∙ ap (λ (l : List Value). units_in old.coming ++ l) one in
      let ranges = all_so Fits HasFieldsInRange units (λ v h. h.in_range)
      (units_fit units bytes (units_found bytes units octets read)) in
      let after = (units_pass Right at units old.judge).traffic in
      subst AreQuiet (sym is) (λ clear.
      quiet_as f.end old.end.end.carrier (f.come ++ units) (units_in (old.coming ++ bytes ∷ [])) after after refl
      (λ r may. let (m, same) = joint_alike old f r may in (m, all ∙ ap (λ (l : List Value). l ++ units) (sym same)))
      (units_quiet local at units (whole_of f) old.judge fine clear ranges (joined_by_line local two old f) refl
      (to_whole old f (q (ongoing_first at units old.judge fine clear)))))

pub turns_quiet : (turn : Turn) (old new : Joint) (t : TakesTurn turn old new) (deeds : ℕ → Deeds) →
    TurnDoes true deeds turn old new t → AreQuiet old → AreQuiet new
turns_quiet turn old new t deeds does q clear =
    let now = q (subst (λ (c : Course). IsOngoing c.traffic.course) t.course clear) in
    subst (λ (c : Course). IsQuiet new.end.end.carrier (units_in new.coming) c.traffic) (sym t.course) (record {
      before = λ r may. by r (now.before r (was r may));
      closed = λ p c at shut may. now.closed p c at shut (was c.left.reference may);
    })
  where
    was : (r : ℕ) → MayOpen new.end.end.carrier r → MayOpen old.end.end.carrier r
    was r may = (
      may.0,
      grind (arith, past, early),
    )

    by : (r : ℕ) → Tracked old.judge.traffic.connections r ⊎ (waiting_for (Some r) (units_in old.coming) ≡ []) →
        Tracked old.judge.traffic.connections r ⊎ (waiting_for (Some r) (units_in new.coming) ≡ [])
    by r (inl tracked) = inl tracked
    by r (inr none) =
        inr (none_later r (units_in t.used) (units_in new.coming) (ap (waiting_for (Some r)) (sym (turn_leaves turn old new t)) ∙ none))
