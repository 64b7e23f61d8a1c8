-- A turn of an end of class 2 leaves all its connections standing at a judge: each unit that it puts has its mark, and what it takes at a
-- connection is the first of what is left over for it.
-- For the session of each connection of an end.
use Rattle.osi_blameless.proofs.Vocabulary.{AllByRecursion, Connection, Continues, Course, Deeds, Direction, HaveSamePlaces}
use Rattle.osi_blameless.proofs.Vocabulary.{IsOngoing, Joined, Joint, Left, Life, List, Local, Right, Some, TakesTurn, Time, Tracked}
use Rattle.osi_blameless.proofs.Vocabulary.{Turn, Value, [], ap, arith, calls_from, early, false, inl, inr, is_closing, is_some}
use Rattle.osi_blameless.proofs.Vocabulary.{none_of, number_is, other, reference_of, slice_get, stage_at, subst, sym}
use Rattle.osi_blameless.proofs.Vocabulary.{then_did, true, units_in, ℕ, ◌++◌, ◌<◌, ◌∙◌, ◌≡◌, ◌≢◌, ◌≤◌, ◌⊎◌, own, way_of}
use Rattle.osi_judge.specs.Courses.{Course as Passed}
use Rattle.osi_blameless.proofs.in_class_2.an_end_is_ready_for_each_cc_that_passes as ccs
use Rattle.osi_blameless.proofs.in_class_2.an_end_is_ready_for_each_cr_that_passes as crs
use Rattle.osi_blameless.proofs.putting.a_whole_end_runs_along.{has_lines}
use Rattle.osi_blameless.proofs.coming.a_calling_end_takes_nothing_before_its_cc.{AwaitsCc, TrackedJudged, awaits_cc, calm_turn}
use Rattle.osi_blameless.proofs.putting.a_turn_does_what_its_deeds_say.{turn_uses}
use Rattle.osi_blameless.proofs.standing.a_turn_leaves_all_standing.{IsOfOne, Turns, of_done, of_live}
use Rattle.osi_blameless.proofs.standing.all_connections_stand.{one_at}
use Rattle.osi_blameless.proofs.in_class_2.an_end_is_ready_for_each_cc_that_passes.{early_above, turn_homed}
use Rattle.osi_blameless.proofs.putting.a_whole_end_runs_along.{whole_followed, joined_by_line}
use Rattle.osi_blameless.proofs.in_class_2.an_end_of_class_2_goes_on.{OwnInTwo}
use Rattle.osi_blameless.proofs.in_class_2.an_end_stands_as_units_pass.{MayGetTwo, StandsInTwo, known_at, used_apart}
use Rattle.osi_blameless.proofs.coming.an_end_takes_what_is_left_for_it.{IsClean, dr_stays, either_takes, was_live}
use Rattle.osi_blameless.proofs.shown.connections_have_the_same_places.{at_same}
use Rattle.osi_blameless.proofs.putting.each_unit_of_a_turn_has_one_connection.{IsMarked, puts_wait}
use Rattle.osi_blameless.proofs.coming.nothing_comes_before_a_cc_passes.{none_waits}
use Rattle.osi_blameless.proofs.putting.nothing_is_done_before_a_cr_passes.{IsNoZero, may_take}
use Rattle.osi_blameless.proofs.putting.references_of_an_end_are_distinct.{AreDistinct}
use Rattle.osi_blameless.proofs.standing.steps_leave_all_standing.{step_turns}
use Rattle.osi_blameless.proofs.coming.the_dr_of_the_other_side_is_in_flight.{AreShut, turn_shut}
use Rattle.osi_blameless.proofs.putting.ccs_among_units.{AnswersTwo}
use Rattle.osi_blameless.proofs.coming.what_an_end_takes_at_each_stage.{AreReady}
use Rattle.osi_blameless.proofs.standing.what_stands_of_a_connection.{waiting_for}
use Rattle.osi_blameless.proofs.small_facts_that_many_lemmas_use.{early_lasts}
use Rattle.osi_blameless.proofs.steps.what_the_turns_among_steps_do.{TurnDoes}
use Rattle.osi_blameless.proofs.small_facts_that_many_lemmas_use.{given_so}
use Rattle.osi_blameless.proofs.keeping.steps_are_events.{whole_of}

first_so : {A B C : Type 0} → (A → C) → A ⊎ B → C ⊎ B
first_so f (inl a) = inl (f a)
first_so f (inr b) = inr b

-- A turn of which each unit has its mark. A connection that may open is ready in it, or nothing of what has come is for it; and it is ready
-- if the other side has closed it.
module _ (d : Direction) (local : Local) (two : MayGetTwo d local) (deeds : ℕ → Deeds) (turn : Turn) (old new : Joint)
    (t : TakesTurn turn old new) (does : TurnDoes (calls_from d) deeds turn old new t)
    (marked : AllByRecursion (IsMarked d old.judge.traffic old.judge.sessions) does.on.put)
    (ready : (r : ℕ) → 0 < r → IsOfOne d r old.judge.traffic old.judge.sessions → stage_at r old.end.end.carrier ≡ early →
    AreReady (calls_from d) r (IsClean r) (stage_at r new.end.end.carrier) does.on.took
    ⊎ (waiting_for (Some r) (units_in old.coming) ≡ []))
    (ready_closed : (i : ℕ) (c : Connection) (j : Joined) (r : ℕ) → slice_get old.judge.traffic.connections i ≡ Some c →
    slice_get old.judge.sessions.live i ≡ Some j → c.is_judged ≡ true → is_closing (own (way_of (other d)) c).phase ≡ true →
    reference_of d j ≡ Some r → 0 < r → stage_at r old.end.end.carrier ≡ early →
    AreReady (calls_from d) r (IsClean r) (stage_at r new.end.end.carrier) does.on.took)
    (some : old.begun ≡ true → old.put ≢ []) (clear : IsOngoing old.judge.traffic.course) (h : StandsInTwo d local deeds old) where
  turns : Turns d does.on.more (known_at old) (known_at new) t.units old.judge.traffic old.judge.sessions
  turns = record {
    puts = λ i c j r there here mine live.
        let up : 0 < r = (h.own.ahead.below.live i j r here mine).0 in
        puts_wait d deeds (known_at old) old.put old.begun old.judge.traffic old.judge.sessions h.standing.all
        (used_apart d local two deeds old clear h) h.distinct i c j r
        there here mine live up does.on.put marked (does.on.more r).put (does.on.own r up)
        ∙ ap (waiting_for (reference_of (other d) j)) (sym does.units);
    takes = λ r one later sure.
        let x = either_takes (calls_from d) turn old new t deeds does.on r sure.0 (does.life r sure.0) (ready r sure.0 one) later sure.1 in
        record { rest = x.rest; first = x.first; sure = (sure.0, x.sure) };
  }

  shut : AreShut d (may_take new.end.end.carrier) (units_in new.coming) old.judge.traffic old.judge.sessions
  shut =
      turn_shut d (may_take old.end.end.carrier) (may_take new.end.end.carrier) (units_in old.coming) (units_in new.coming)
      old.judge.traffic old.judge.sessions
      (λ i c j r there here judged closing named live.
      let up = (h.own.ahead.below.live i j r here named).0 in (
        was_live (calls_from d) turn old new t deeds does.on r up (does.life r up) live,
        dr_stays (calls_from d) turn old new t deeds does.on r up (does.life r up)
            (λ may. ready_closed i c j r there here judged closing named up may) live,
      )) h.shut

  turns_with : OwnInTwo d local (λ r. then_did (deeds r) (does.on.more r)) new → StandsInTwo d local
      (λ r. then_did (deeds r) (does.on.more r)) new
  turns_with own = record {
    own = own;
    standing = step_turns d deeds (known_at old) turn does.on.more (known_at new) old new t some turns h.standing;
    distinct = subst (λ (c : Passed). AreDistinct d c.sessions) (sym t.course) h.distinct;
    shut = subst (λ (c : Passed). AreShut d (may_take new.end.end.carrier) (units_in new.coming) c.traffic c.sessions) (sym t.course)
        shut;
  }

-- ---- a turn of an end that calls

module _ (local : Local) (two : local.class2 ≡ true) where
  -- at a connection whose CC has passed and that has not opened, what has come awaits the CC
  joint_awaits : (deeds : ℕ → Deeds) (j : Joint) → OwnInTwo Left local deeds j → IsOngoing j.judge.traffic.course →
      HaveSamePlaces j.judge.traffic.connections j.judge.sessions.live → (r : ℕ) → 0 < r →
      TrackedJudged j.judge.traffic.connections r → stage_at r j.end.end.carrier ≡ early → AwaitsCc r (units_in j.coming)
  joint_awaits deeds j h clear places r some tracked may =
      let f = h.ahead.followed in
      let lasts = early_lasts r j.end.end.carrier may in
      let whole_lasts = none_of f.end.ended (sym f.like.over ∙ ap is_some lasts) in
      let alike : stage_at r f.end ≡ stage_at r j.end.end.carrier = ap (stage_at r) (f.like.lasts whole_lasts) in
      let (p, c, at, is, same, judged) = tracked in
      let (k, here, one) = at_same j.judge.traffic.connections j.judge.sessions.live p c places at in
      let low : r ≤ h.ahead.bound = (h.ahead.below.live p k r here (ap (λ (m : ℕ). Some m) (one.calling ∙ same))).1 in
      let up = h.ahead.above.given in
      subst (AwaitsCc r) (f.coming lasts)
      (awaits_cc local (whole_of f) r (joined_by_line local two j f) clear tracked (given_so r f.end some (omega (arith, low, up)))
      (alike ∙ may)
      whole_lasts)

  module _ (turn : Turn) (old new : Joint) (t : TakesTurn turn old new) (deeds : ℕ → Deeds)
      (on : Continues true deeds old.end turn new.end) (h : OwnInTwo Left local deeds old)
      (then_h : OwnInTwo Left local (λ r. then_did (deeds r) (on.more r)) new) (clear : IsOngoing old.judge.traffic.course)
      (places : HaveSamePlaces old.judge.traffic.connections old.judge.sessions.live) (r : ℕ) (some : 0 < r)
      (life : Life true r (stage_at r old.end.end.carrier) on.took on.put (stage_at r new.end.end.carrier)) where
    abbrev stage : Time
    stage = stage_at r old.end.end.carrier

    -- a connection whose CC has passed
    tracked_ready : TrackedJudged old.judge.traffic.connections r → stage ≡ early →
        AreReady true r (IsClean r) (stage_at r new.end.end.carrier) on.took
    tracked_ready tracked may =
        let s = turn_uses turn old new t true deeds on (early_lasts r old.end.end.carrier may) in
        calm_turn r (stage_at r new.end.end.carrier) on.took (s.left ++ units_in new.coming)
        (subst (AwaitsCc r) s.coming (joint_awaits deeds old h clear places r some tracked may))
        (λ still. subst (λ (l : List Value). AwaitsCc r (l ++ units_in new.coming))
        (sym (s.all (early_lasts r new.end.end.carrier still)))
        (joint_awaits (λ q. then_did (deeds q) (on.more q)) new then_h
        (subst (λ (c : Course). IsOngoing c.traffic.course) (sym t.course) clear)
        (subst (λ (c : Course). HaveSamePlaces c.traffic.connections c.sessions.live) (sym t.course) places) r some
        (subst (λ (c : Course). TrackedJudged c.traffic.connections r) (sym t.course) tracked) still))
        (subst (AllByRecursion IsNoZero) s.coming h.holds.zero)

  -- no two connections have one reference
  judged_tracked : (deeds : ℕ → Deeds) (j : Joint) → StandsInTwo Left local deeds j → (r i : ℕ) (c : Connection) (k : Joined) →
      slice_get j.judge.traffic.connections i ≡ Some c → slice_get j.judge.sessions.live i ≡ Some k → c.is_judged ≡ true →
      reference_of Left k ≡ Some r → Tracked j.judge.traffic.connections r → TrackedJudged j.judge.traffic.connections r
  judged_tracked deeds j h r i c k there here judged named (p, e, at, tracked, same) =
      let cs = j.judge.traffic.connections in
      let (l, here_too, one) = at_same cs j.judge.sessions.live p e h.standing.all.places at in
      let place : i ≡ p = h.distinct.live i p k l r here here_too named (ap (λ (m : ℕ). Some m) (one.calling ∙ same)) in
      grind arith

  judged_or : (deeds : ℕ → Deeds) (j : Joint) → StandsInTwo Left local deeds j → (r : ℕ) →
      IsOfOne Left r j.judge.traffic j.judge.sessions →
      Tracked j.judge.traffic.connections r ⊎ (waiting_for (Some r) (units_in j.coming) ≡ []) →
      TrackedJudged j.judge.traffic.connections r ⊎ (waiting_for (Some r) (units_in j.coming) ≡ [])
  judged_or deeds j h r one (inr none) = inr none
  judged_or deeds j h r (of_live i c k there here judged named) (inl tracked) =
      inl (judged_tracked deeds j h r i c k there here judged named tracked)
  judged_or deeds j h r (of_done i k here named) (inl (p, e, at, tracked, same)) =
      let (l, here_too, one) = at_same j.judge.traffic.connections j.judge.sessions.live p e h.standing.all.places at in
      absurd (h.distinct.done p i l k r here_too here (ap (λ (m : ℕ). Some m) (one.calling ∙ same)) named)

  -- If at each connection that may open the CC has passed, or nothing of what has come is for it; and if it has passed at each that the
  -- other side has closed.
  pub asks_turn : (turn : Turn) (old new : Joint) (t : TakesTurn turn old new) (deeds : ℕ → Deeds)
      (does : TurnDoes true deeds turn old new t) →
      AllByRecursion (IsMarked Left old.judge.traffic old.judge.sessions) does.on.put →
      ((r : ℕ) → 0 < r → stage_at r old.end.end.carrier ≡ early →
      Tracked old.judge.traffic.connections r ⊎ (waiting_for (Some r) (units_in old.coming) ≡ [])) →
      ((i : ℕ) (c : Connection) → slice_get old.judge.traffic.connections i ≡ Some c → is_closing c.right.phase ≡ true →
      0 < c.left.reference → stage_at c.left.reference old.end.end.carrier ≡ early →
      Tracked old.judge.traffic.connections c.left.reference) → IsOngoing old.judge.traffic.course → StandsInTwo Left local deeds old →
      StandsInTwo Left local (λ r. then_did (deeds r) (does.on.more r)) new
  asks_turn turn old new t deeds does marked quiet tracked clear h =
      let places = h.standing.all.places in
      let own = crs.turns_own local two turn old new t deeds does places clear h.own in
      let f = h.own.ahead.followed in
      turns_with Left local two deeds turn old new t does marked
      (λ r some one may.
      first_so (λ is. tracked_ready turn old new t deeds does.on h.own own clear places r some (does.life r some) is may)
      (judged_or deeds old h r one (quiet r some may)))
      (λ i c j r there here judged closing named some may.
      let one = one_at old.judge.traffic.connections old.judge.sessions.live i c j places there here in
      let same : c.left.reference ≡ r = number_is c.left.reference r (ap (λ (n : ℕ). Some n) (sym one.calling) ∙ named) in
      tracked_ready turn old new t deeds does.on h.own own clear places r some (does.life r some)
      (judged_tracked deeds old h r i c j there here judged named
      (subst (λ (n : ℕ). 0 < n → stage_at n old.end.end.carrier ≡ early → Tracked old.judge.traffic.connections n) same
      (tracked i c there closing) some may)) may)
      (λ begun none. (whole_followed local two old f clear).some begun none) clear h own

-- ---- a turn of an end that is called

-- If none of the CCs that wait then selects class 0: nothing is for a connection that the end has not answered.
pub answers_turn : (local : Local) → (turn : Turn) (old new : Joint) (t : TakesTurn turn old new) (deeds : ℕ → Deeds)
    (does : TurnDoes false deeds turn old new t) → AllByRecursion AnswersTwo new.put →
    IsOngoing old.judge.traffic.course → StandsInTwo Right local deeds old →
    StandsInTwo Right local (λ r. then_did (deeds r) (does.on.more r)) new
answers_turn local turn old new t deeds does two clear h =
    let a = h.standing.all in
    let f = h.own.ahead.followed in
    let b = h.own.ahead.bound in
    let lines = has_lines local old f clear h.own.holds.two in
    let marked = turn_homed local turn old new t deeds does a.places clear h.own two in
    turns_with Right local tt deeds turn old new t does marked
    (λ r some one may. inr (none_waits b r (units_in old.coming) (early_above local deeds old h.own clear r some may) h.own.holds.below))
    (λ i c j r there here judged closing named some may.
    let over = early_above local deeds old h.own clear r some may in
    let low = (h.own.ahead.below.live i j r here named).1 in absurd (omega (arith, low, over)))
    (λ begun none. lines.called.some begun (sym lines.called.put ∙ none)) clear h
    (ccs.turns_own local turn old new t deeds does a.places clear h.own two)
