-- A whole called end is fair as long as both sides are judged: by induction over what happens.
-- For the law of that name.
use Rattle.osi_blameless.proofs.transport.Vocabulary.{[], all_passed, ap, arith, arrives, begin, calls, Class, Connection, Event, false}
use Rattle.osi_blameless.proofs.transport.Vocabulary.{fresh}
use Rattle.osi_blameless.proofs.transport.Vocabulary.{HappenAlong, Happens, HasFieldsInRange, HoldsOfOne, inl, inr, is_live, is_stopped}
use Rattle.osi_blameless.proofs.transport.Vocabulary.{knows_disconnect}
use Rattle.osi_blameless.proofs.transport.Vocabulary.{Left, List, Local, MayCall, None, Option, orderly_fresh, packet, packet_begins}
use Rattle.osi_blameless.proofs.transport.Vocabulary.{passes}
use Rattle.osi_blameless.proofs.transport.Vocabulary.{passes_rubbish, Passing, put_by, put_for, react, refl, Right, rubbish, slice_get}
use Rattle.osi_blameless.proofs.transport.Vocabulary.{Some, subst, sym}
use Rattle.osi_blameless.proofs.transport.Vocabulary.{takes, Traffic, true, Two, unit as passing, user_does, UserCall, Value, Whole, ℕ}
use Rattle.osi_blameless.proofs.transport.Vocabulary.{◌++◌, ◌∙◌, ◌∷◌}
use Rattle.osi_blameless.proofs.transport.Vocabulary.{◌≡◌, ◌≢◌, ◌⊎◌}
use Rattle.osi_blameless.specs.transport.Wholes.{begins_other, begins_own, passes_other, passes_own}
use Rattle.osi_blameless.proofs.transport.class_0.an_end_selects_class_zero.{Selecting, selecting_begins, selecting_calls}
use Rattle.osi_blameless.proofs.transport.class_0.an_end_selects_class_zero.{selecting_passes}
use Rattle.osi_blameless.proofs.transport.class_0.an_end_selects_class_zero.{selecting_takes}
use Rattle.osi_blameless.proofs.transport.class_0.an_end_goes_on_in_class_zero.{IsZeroed, zeroed_begins, zeroed_calls, zeroed_elsewhere}
use Rattle.osi_blameless.proofs.transport.class_0.an_end_goes_on_in_class_zero.{zeroed_passes}
use Rattle.osi_blameless.proofs.transport.class_0.an_end_goes_on_in_class_zero.{zeroed_takes}
use Rattle.osi_blameless.proofs.transport.class_0.what_comes_to_an_end_of_class_zero.{selected_comes, selecting_comes}
use Rattle.osi_blameless.proofs.transport.by_place.an_end_takes_a_unit.{SelectsZero, class_none, selects_zero, takes_so}
use Rattle.osi_blameless.proofs.transport.requests.one_request_waits.{one_waits}
use Rattle.osi_blameless.proofs.transport.by_line.the_end_is_judged_as_the_other_side_is.{IsMild, other_judged, own_judged}
use Rattle.osi_blameless.proofs.transport.by_place.an_end_makes_a_call.{makes_so}
use Rattle.osi_blameless.proofs.transport.by_place.what_becomes_of_an_end.{IsCalled}
use Rattle.osi_blameless.proofs.transport.by_line.a_dc_follows_a_dr.{Informed, dc_known, first_informed, next_informed}
use Rattle.osi_blameless.proofs.transport.by_place.a_dc_for_what_is_gone_passes.{stray_passes}
use Rattle.osi_blameless.proofs.transport.names.a_reference_names_one_connection.{fresh_apart, no_item, passes_apart}
use Rattle.osi_blameless.proofs.transport.by_place.a_unit_of_the_end_passes.{IsFineAt, one_passes}
use Rattle.osi_blameless.proofs.transport.names.names_stay_apart_though_one_is_lost.{AreNamedApart, end_begins, side_begins}
use Rattle.osi_blameless.proofs.transport.requests.a_connection_is_lost_in_class_2_alone.{IsOfTwo, firm_unless_two, still_two}
use Rattle.osi_blameless.proofs.transport.by_place.how_a_unit_of_right_passes.{head_of, no_list}
use Rattle.osi_blameless.proofs.transport.names.all_are_judged_unless_one_broke.{AreJudged, IsJudged, still_judged}
use Rattle.osi_blameless.proofs.transport.by_place.each_connection_has_its_place.{Called, other_begins as lines_begin}
use Rattle.osi_blameless.proofs.transport.by_place.each_connection_has_its_place.{own_begins as line_begins}
use Rattle.osi_blameless.proofs.transport.connections.units_by_their_place.{Placed, at_first, units_at, values}
use Rattle.osi_blameless.proofs.transport.by_place.what_comes_to_an_end.{comes_so}
use Rattle.osi_blameless.proofs.transport.names.what_holds_of_one_item.{HoldsOfEach}
use Rattle.osi_blameless.proofs.transport.names.what_keeps_names_apart.{AreApart}
use Rattle.osi_blameless.proofs.transport.requests.what_lasts_at_the_judge.{lasts_passing}
use Rattle.osi_blameless.proofs.transport.connections.which_unit_of_the_other_side_passes.{IsCalm, by_reach, calm_before}
use Rattle.osi_blameless.proofs.transport.connections.which_units_are_for_a_connection.{is_dc}
use Rattle.osi_blameless.proofs.transport.requests.an_end_has_broken_no_rule.{mild_not, other_fine, own_fine, rubbish_fine}
use Rattle.osi_blameless.proofs.transport.what_each_thing_keeps_all_of_them_keep.{along_keeps}

-- ---- a unit of the end

module _ (local : Local) (w : Whole) (f : Called local w) (apart : AreApart w.judge.connections)
    (named : AreNamedApart Left w.judge.connections) (judged : AreJudged w.judge) (right : w.judge.course.right_stopped ≡ false) (v : Value)
    (rest : List Value) (begun : w.begun ≡ true) (knows : is_dc v ≡ true → knows_disconnect Right w.judge.course.disconnects ≡ true) where
  abbrev Passed : Type 0
  Passed = IsFineAt v w.judge × Called local (record w { put = rest; begun = false; judge = (takes Right v w.judge).state })
      × AreNamedApart Left (takes Right v w.judge).state.connections

  at_place : (p : ℕ) (later : List Placed) → f.tagged ≡ (Some p, v) ∷ later → rest ≡ values later → (o : Option Connection) →
      slice_get w.judge.connections p ≡ o → Passed
  at_place p later tagged rest_are None e = grind (arith, no_list, units_at, at_first)
  at_place p later tagged rest_are (Some c) e =
      one_passes local w f apart named judged right v rest begun p later tagged rest_are c e (f.stands p c e)

  by_tag : (o : Option ℕ) (later : List Placed) → f.tagged ≡ (o, v) ∷ later → rest ≡ values later → Passed
  by_tag None later tagged rest_are = grind (arith, stray_passes local w f right v rest later tagged rest_are knows)
  by_tag (Some p) later tagged rest_are = at_place p later tagged rest_are (slice_get w.judge.connections p) refl

  own_passes : w.put ≡ v ∷ rest → Passed
  own_passes e = let h = head_of v rest f.tagged (sym e ∙ f.put) in by_tag h.o h.later h.is h.values_are

pub mild : (w : Whole) (v : Value) → IsFineAt v w.judge → IsMild (takes Right v w.judge).told.finding
mild w v h = grind arith

-- ---- all that holds

-- no class is selected, or class 2; class 0 is selected, and the CC is to pass, or has passed
pub data Stage (local : Local) (w : Whole) : Type 0 where
  lines : Called local w → IsCalled local w.end → AreNamedApart Left w.judge.connections → Stage local w
  selecting : Selecting local w → Stage local w
  selected : IsZeroed Right w.end w.put w.begun w.judge → Stage local w

-- of the judge, whatever passes
pub record IsSound (s : Traffic) : Type 0 where
  pub apart : AreApart s.connections
  pub judged : AreJudged s
  pub passings : List Passing
  pub is : s ≡ all_passed passings fresh
  pub two : IsOfTwo s.course

pub record Joined (local : Local) (w : Whole) : Type 0 where
  pub sound : IsSound w.judge
  pub stage : IsCalm w.judge.course → Stage local w
  -- as long as the other side is judged, this one is
  pub right : w.judge.course.left_stopped ≡ false → w.judge.course.right_stopped ≡ false
  -- and it has broken no rule
  pub fine : w.judge.course.left_stopped ≡ false → w.judge.course.right_erred ≡ false
  -- the judge knows of each DC that it puts
  pub informed : Informed Right w

calm_was : (p : Passing) (w : Whole) → IsCalm (passes p w.judge).course → IsCalm w.judge.course
calm_was p w h = calm_before w.judge.course (passes p w.judge).course (lasts_passing p w.judge) h

one_more : (ps : List Passing) (p : Passing) (s : Traffic) → all_passed (ps ++ p ∷ []) s ≡ passes p (all_passed ps s)
one_more [] p s = refl
one_more (q ∷ ps) p s = one_more ps p (passes q s)

sound_passing : (p : Passing) (s : Traffic) → IsSound s → IsSound (passes p s)
sound_passing p s h = record {
  apart = passes_apart p s h.apart;
  judged = still_judged p s h.judged;
  passings = h.passings ++ p ∷ [];
  is = ap (passes p) h.is ∙ sym (one_more h.passings p fresh);
  two = still_two p s h.two;
}

-- while no class is selected one CR waits
one_so : (local : Local) (w : Whole) (j : Joined local w) → w.judge.course.class ≡ None → HoldsOfOne (is_live Left) w.judge.connections
one_so local w j none = grind (arith, one_waits)

module _ (local : Local) (w : Whole) (j : Joined local w) where
  -- a connection is lost in class 2 alone
  firm_in : (k : Option Class) → w.judge.course.class ≡ k → (k ≡ Some Two → ⊥) → HoldsOfEach IsJudged w.judge.connections
  firm_in k is none = j.sound.judged (firm_unless_two w.judge.course j.sound.two (λ e. none (sym is ∙ e)))

  taken_by : (u : Value) (later : List Value) (f : Called local w) (c : IsCalled local w.end) (come : w.coming ≡ u ∷ later) →
      AreNamedApart Left w.judge.connections →
      (Called local (record w { end = react u w.end; put = w.put ++ put_for u w.end; coming = later })
      × IsCalled local (react u w.end)) ⊎ SelectsZero local w f c u later come →
      Stage local (record w { end = react u w.end; put = w.put ++ put_for u w.end; coming = later })
  taken_by u later f c come named (inl (a, b)) = lines a b named
  taken_by u later f c come named (inr z) =
      selecting (selects_zero local w f c u later come z (one_so local w j)
      (firm_in None (class_none local w f c u later come z) (λ e. cc e)))

  takes_stage : (u : Value) (later : List Value) → w.coming ≡ u ∷ later → IsCalm w.judge.course → Stage local w →
      Stage local (record w { end = react u w.end; put = w.put ++ put_for u w.end; coming = later })
  takes_stage u later come calm (lines f c named) = taken_by u later f c come named (takes_so local w f c u later come)
  takes_stage u later come calm (selecting f) = selecting (selecting_takes local w u later f)
  takes_stage u later come calm (selected f) = selected (zeroed_takes Right w.end w.put w.begun w.judge f u)

  calls_stage : (call : UserCall) → MayCall call w.end → Stage local w →
      Stage local (record w { end = user_does call w.end; put = w.put ++ put_by call w.end })
  calls_stage call may (lines f c named) = let (a, b) = makes_so local w f c call may in lines a b named
  calls_stage call may (selecting f) = selecting (selecting_calls local w call may f)
  calls_stage call may (selected f) = selected (zeroed_calls Right w.end w.put w.begun w.judge f call may)

  own_stage : w.begun ≡ false → w.put ≢ [] → Stage local w → Stage local (record w { begun = true; judge = packet_begins Right w.judge })
  own_stage e some (lines f c named) = lines (line_begins local w f e some) c (end_begins Left w.judge.connections j.sound.apart named)
  own_stage e some (selecting f) = selecting (selecting_begins local Right w true (λ c h k. refl) f)
  own_stage e some (selected f) = selected (zeroed_begins Right w.end w.put w.begun w.judge f)

  other_stage : Stage local w → Stage local (record w { judge = packet_begins Left w.judge })
  other_stage (lines f c named) = lines (lines_begin local w f) c (side_begins Left w.judge.connections j.sound.apart named)
  other_stage (selecting f) = selecting (selecting_begins local Left w w.begun (λ c h k. h k) f)
  other_stage (selected f) = selected (zeroed_elsewhere Right w.end w.put w.begun w.judge f)

  abbrev pub Passes : Value → List Value → Type 0
  Passes v rest = IsFineAt v w.judge × Stage local (record w { put = rest; begun = false; judge = (takes Right v w.judge).state })

  pub passes_stage : (v : Value) (rest : List Value) → w.put ≡ v ∷ rest → w.begun ≡ true → IsCalm w.judge.course → Stage local w →
      Passes v rest
  passes_stage v rest e begun calm (lines f c named) =
      let knows = dc_known Right w v rest j.informed calm.left begun e in
      grind (arith, own_passes local w f j.sound.apart named j.sound.judged calm.right v rest begun knows e)
  passes_stage v rest e begun calm (selecting f) =
      let all = firm_in None f.class (λ no. cc no) in
      let (fine, after) = selecting_passes local w j.sound.apart all calm.right v rest begun e f in (inl fine, selected after)
  passes_stage v rest e begun calm (selected f) =
      let (fine, after) = zeroed_passes Right w.end w.put w.begun w.judge v rest calm.right e begun f in (inl fine, selected after)

  comes_stage : (v : Value) → HasFieldsInRange v → IsCalm w.judge.course → IsCalm (takes Left v w.judge).state.course → Stage local w →
      Stage local (record w { judge = (takes Left v w.judge).state; coming = w.coming ++ v ∷ [] })
  comes_stage v ranges calm calm_after (lines f c named) = grind (arith, comes_so)
  comes_stage v ranges calm calm_after (selecting f) =
      selecting (selecting_comes w v local f (j.fine calm.left) calm_after)
  comes_stage v ranges calm calm_after (selected f) = selected (selected_comes w.end w.put w.begun w.judge f j.sound.apart v)

pub next_joined : (local : Local) (event : Event) (w new : Whole) → Happens Right event w new → Joined local w → Joined local new
next_joined local arrives w new (u, coming, is) j = subst (Joined local) (sym is) (record {
  sound = j.sound;
  stage = λ calm. takes_stage local w j u new.coming coming calm (j.stage calm);
  right = j.right;
  fine = j.fine;
  informed = next_informed Right arrives w _ (u, coming, refl) j.informed;
})
next_joined local (calls call) w new (may, is) j = subst (Joined local) (sym is) (record {
  sound = j.sound;
  stage = λ calm. calls_stage local w j call may (j.stage calm);
  right = j.right;
  fine = j.fine;
  informed = next_informed Right (calls call) w _ (may, refl) j.informed;
})
next_joined local begins_own w new (some, not_begun, is) j = subst (Joined local) (sym is) (record {
  sound = sound_passing (packet Right) w.judge j.sound;
  stage = λ calm. own_stage local w j not_begun some (j.stage (calm_was (packet Right) w calm));
  right = j.right;
  fine = j.fine;
  informed = next_informed Right begins_own w _ (some, not_begun, refl) j.informed;
})
next_joined local passes_own w new (v, (put, begun, is)) j = subst (Joined local) (sym is) (record {
  sound = sound_passing (passing Right v) w.judge j.sound;
  stage = λ calm.
      let before = calm_was (passing Right v) w calm in
      (passes_stage local w j v new.put put begun before (j.stage before)).1;
  right = λ left.
      let l = lasts_passing (passing Right v) w.judge in
      let before : IsCalm w.judge.course = record { left = l.left left; right = j.right (l.left left) } in
      own_judged Right v w.judge (mild w v (passes_stage local w j v new.put put begun before (j.stage before)).0) before.right left;
  fine = λ left.
      let l = lasts_passing (passing Right v) w.judge in
      let before : IsCalm w.judge.course = record { left = l.left left; right = j.right (l.left left) } in
      own_fine Right v w.judge (mild_not (takes Right v w.judge).told.finding
      (mild w v (passes_stage local w j v new.put put begun before (j.stage before)).0)) (j.fine (l.left left));
  informed = next_informed Right passes_own w _ (v, (put, begun, refl)) j.informed;
})
next_joined local begins_other w new is j = subst (Joined local) (sym is) (record {
  sound = sound_passing (packet Left) w.judge j.sound;
  stage = λ calm. other_stage local w j (j.stage (calm_was (packet Left) w calm));
  right = j.right;
  fine = j.fine;
  informed = next_informed Right begins_other w _ refl j.informed;
})
next_joined local (passes_other v) w new (ranges, is) j = subst (Joined local) (sym is) (record {
  sound = sound_passing (passing Left v) w.judge j.sound;
  stage = λ calm.
      let before = calm_was (passing Left v) w calm in comes_stage local w j v ranges before calm (j.stage before);
  right = λ left.
      other_judged Right v w.judge (j.right ((lasts_passing (passing Left v) w.judge).left left)) left;
  fine = λ left.
      let l = lasts_passing (passing Left v) w.judge in other_fine Right v w.judge (j.fine (l.left left));
  informed = next_informed Right (passes_other v) w _ (ranges, refl) j.informed;
})
next_joined local passes_rubbish w new is j = subst (Joined local) (sym is) (record {
  sound = sound_passing (rubbish Left) w.judge j.sound;
  stage = λ calm. by_reach Left w.judge.course.class_seen w.judge.course calm;
  right = grind (arith, lasts_passing);
  fine = grind (arith, lasts_passing, rubbish_fine);
  informed = next_informed Right passes_rubbish w _ refl j.informed;
})

pub all_joined : (local : Local) (events : List Event) (w new : Whole) → HappenAlong Right w events new → Joined local w →
    Joined local new
all_joined local = along_keeps (Happens Right) (Joined local) (next_joined local)

pub first_joined : (local : Local) → Joined local (begin false local)
first_joined local = record {
  sound = record {
    apart = fresh_apart;
    judged = λ firm i c at. no_item i c at;
    passings = [];
    is = refl;
    two = record { lost = λ e. absurd (cc e); seen = λ e. absurd (cc e) };
  };
  right = λ left. refl;
  fine = λ left. refl;
  informed = first_informed Right false local;
  stage = λ calm. lines (record {
    tagged = [];
    put = refl;
    came = [];
    come = refl;
    refs = λ p. None;
    home = λ r. 0;
    shut = λ r. false;
    stands = λ i c at. no_item i c at;
    beyond = λ i none. (refl, refl, λ r e. absurd (cc e));
    homes = λ i r e. absurd (cc e);
    positive = λ i r e. absurd (cc e);
    linked_at = λ last r peer l e. absurd (cc e);
    shut_given = λ r e. absurd (cc e);
    strays = tt;
    last = 0;
    tops = λ i c at. no_item i c at;
    above = omega arith;
    class = inl refl;
    two = λ i c at. no_item i c at;
    class_seen = inl refl;
    past_two = λ h. absurd (cc h);
    seen_two = λ h. absurd (cc h);
    some = λ h. absurd (cc h);
    few = tt;
    untagged = tt;
    timely = λ strays last. record { judges = λ i c at. no_item i c at; gives = tt; firsts = tt; known = tt };
  }) (grind (arith, orderly_fresh))
      (record { lost = λ i c at. no_item i c at; used = λ n i k c e at. no_item i c at; known = λ n i k c e at. no_item i c at });
}

pub end_is_fair : (local : Local) (events : List Event) (w : Whole) (v : Value) (rest : List Value) →
    HappenAlong Right (begin false local) events w → w.begun ≡ true → w.put ≡ v ∷ rest →
    is_stopped Left w.judge.course ≡ false → IsFineAt v w.judge
end_is_fair local events w v rest along begun e left =
    let j = all_joined local events (begin false local) w along (first_joined local) in
    let calm : IsCalm w.judge.course = record { left = left; right = j.right left } in
    (passes_stage local w j v rest e begun calm (j.stage calm)).0
