-- The stages of a whole calling end: no connection is asked for, a CR waits to pass, or for its answer, then class 0 or class 2.
-- For the laws on requests and on whole calling ends.
use Rattle.osi_blameless.proofs.transport.Vocabulary.{[], AllByRecursion, ap, append_assoc, arith, arrives, begins, begins_other}
use Rattle.osi_blameless.proofs.transport.Vocabulary.{begins_own, Bool, calls}
use Rattle.osi_blameless.proofs.transport.Vocabulary.{confirm, Connect, Connection, Disconnects, disconnects_begin, Event, false}
use Rattle.osi_blameless.proofs.transport.Vocabulary.{first_failed, Happens}
use Rattle.osi_blameless.proofs.transport.Vocabulary.{HasFieldsInRange, inl, inr, is_inside, is_offered, is_some, IsConnect, Left, List}
use Rattle.osi_blameless.proofs.transport.Vocabulary.{Live, Local, map}
use Rattle.osi_blameless.proofs.transport.Vocabulary.{MayCall, None, not, Offer, offer_of, packet, packet_begins, passes_rubbish, put_by}
use Rattle.osi_blameless.proofs.transport.Vocabulary.{put_for, react}
use Rattle.osi_blameless.proofs.transport.Vocabulary.{refl, refused as not_read, request, request_tests, Right, Rows, Some, State, subst}
use Rattle.osi_blameless.proofs.transport.Vocabulary.{sym, takes}
use Rattle.osi_blameless.proofs.transport.Vocabulary.{Traffic, true, Two, unit as passing, user_does, UserCall, Value, Whole, ℕ, ◌++◌, ◌==◌}
use Rattle.osi_blameless.proofs.transport.Vocabulary.{◌||◌, ◌∙◌}
use Rattle.osi_blameless.proofs.transport.Vocabulary.{◌∷◌, ◌≡◌, ◌≢◌, ◌⊎◌}
use Rattle.osi_blameless.specs.transport.Wholes.{passes_other, passes_own}
use Rattle.osi_blameless.proofs.transport.small_facts_that_many_lemmas_use.{differ}
use Rattle.osi_blameless.proofs.transport.requests.a_new_reference_is_not_in_use.{Passed}
use Rattle.osi_blameless.proofs.transport.requests.a_refused_request_waits_no_more.{all_from}
use Rattle.osi_blameless.proofs.transport.requests.a_request_of_a_whole_end_is_new.{IsUnused, Newer, next_unused}
use Rattle.osi_blameless.proofs.transport.class_0.an_end_takes_a_cc_of_class_zero.{confirmed_so}
use Rattle.osi_blameless.proofs.transport.class_0.an_end_goes_on_in_class_zero.{IsZeroed, zeroed_begins, zeroed_calls, zeroed_comes}
use Rattle.osi_blameless.proofs.transport.class_0.an_end_goes_on_in_class_zero.{zeroed_elsewhere, zeroed_passes, zeroed_refused}
use Rattle.osi_blameless.proofs.transport.class_0.an_end_goes_on_in_class_zero.{zeroed_takes}
use Rattle.osi_blameless.proofs.transport.requests.how_a_calling_end_asks.{Calls, Idle, IsCalling, IsOver, Offers, asks_one, broke, dc_ends}
use Rattle.osi_blameless.proofs.transport.requests.how_a_calling_end_asks.{idles, none_calls, one}
use Rattle.osi_blameless.proofs.transport.requests.how_a_calling_end_asks.{one_calls, over_calls, over_takes, refusal_takes, same}
use Rattle.osi_blameless.proofs.transport.names.what_holds_of_one_item.{HoldsOfEach}
use Rattle.osi_blameless.proofs.transport.requests.what_lasts_at_the_judge.{lasts_passing}
use Rattle.osi_blameless.proofs.transport.requests.while_no_class_is_selected.{AllOver, Answer, Asked, GoesOn, IsDc, IsDone, IsRefusal}
use Rattle.osi_blameless.proofs.transport.requests.while_no_class_is_selected.{Waits, asks_passed}
use Rattle.osi_blameless.proofs.transport.requests.while_no_class_is_selected.{calm_judge, confirmed_judge, confirms, done_begins}
use Rattle.osi_blameless.proofs.transport.requests.while_no_class_is_selected.{done_takes, over_begins}
use Rattle.osi_blameless.proofs.transport.requests.while_no_class_is_selected.{over_still, refuses, says_nothing, waits_begins, waits_takes}
use Rattle.osi_blameless.proofs.transport.by_line.a_dr_for_what_is_gone.{after_arriving, after_calling}

abbrev AreDcs : List Value → Type 0
AreDcs units = AllByRecursion IsDc units

-- the end calls, with these connections
abbrev pub Calling : Local → Rows Live → State → Type 0
Calling local rows s = IsCalling rows s × (s.local ≡ local)

-- the end is over, or it calls with one connection that is asked for
abbrev CallsOrOver : Local → ℕ → State → Type 0
CallsOrOver local r s = IsOver s ⊎ Calling local (one r) s

-- the end has class 0, or no other
abbrev pub HasZero : Local → Type 0
HasZero local = (local.class0 || not local.class2) ≡ true

pub data Stage (local : Local) (w : Whole) : Type 0 where
  -- the end is over, and nothing is to pass
  ended : w.put ≡ [] → IsOver w.end → Stage local w
  -- no connection is asked for, and all that were are refused
  quiet : Calling local [] w.end → w.put ≡ [] → w.begun ≡ false → (cs : List Connection) (drs : Disconnects) → w.judge ≡ calm_judge cs drs →
      HoldsOfEach IsDone cs → AreDcs w.coming → Stage local w
  -- a CR is to pass
  asks : (x : Connect) → w.put ≡ request x ∷ [] → CallsOrOver local x.source w.end → Offers local (offer_of x) →
      (cs : List Connection) (drs : Disconnects) → w.judge ≡ calm_judge cs drs → HoldsOfEach IsDone cs → AreDcs w.coming →
      (w.begun ≡ true → AllOver cs) → Stage local w
  -- it has passed, and its answer has not
  waits : (r : ℕ) → Calling local (one r) w.end → w.put ≡ [] → w.begun ≡ false → (cs : List Connection) (drs : Disconnects) →
      w.judge ≡ calm_judge cs drs → (p : ℕ) (o : Offer) → Offers local o → Waits r p o cs → AreDcs w.coming → Stage local w
  -- its answer has passed, and the end has not taken it: a refusal, or a CC for class 0; `after` is the end as it will have taken that
  refused : (r : ℕ) → Calling local (one r) w.end → w.put ≡ [] → w.begun ≡ false → (cs : List Connection) (drs : Disconnects) →
      w.judge ≡ calm_judge cs drs → HoldsOfEach IsDone cs → (dcs : List Value) (v : Value) (more : List Value) →
      w.coming ≡ dcs ++ v ∷ more → AreDcs dcs → IsRefusal r v → AreDcs more → Stage local w
  answered : (r : ℕ) → Calling local (one r) w.end → w.put ≡ [] → w.begun ≡ false → (dcs : List Value) (n : ℕ) (x : Connect)
      (more : List Value) → w.coming ≡ dcs ++ confirm n x ∷ more → AreDcs dcs → (x.class == 2) ≡ false → HasZero local → (after : State) →
      react (confirm n x) w.end ≡ after → IsZeroed Left after [] false w.judge → Stage local w
  -- class 0 is selected, and the end has taken the CC
  zero : HasZero local → IsZeroed Left w.end w.put w.begun w.judge → Stage local w
  -- class 2 is selected, and has passed
  known : w.judge.course.class ≡ Some Two → (w.begun ≡ true → w.judge.course.class_seen ≡ Some Two) → local.class2 ≡ true → Stage local w

-- ---- the end takes a unit

none_more : (put more units : List Value) → put ≡ units → more ≡ [] → put ++ more ≡ units ++ []
none_more put more units a b = ap (λ (l : List Value). l ++ more) a ∙ ap (λ (l : List Value). units ++ l) b

first_of : (u v : Value) (xs ys : List Value) → u ∷ xs ≡ v ∷ ys → (v ≡ u) × (ys ≡ xs)
first_of u v xs ys e = (cc, cc)

ended_taking : (local : Local) (w : Whole) (unit : Value) (later : List Value) → w.put ≡ [] → put_for unit w.end ≡ [] →
    IsOver (react unit w.end) → Stage local (after_arriving w unit later)
ended_taking local w unit later put none h = ended (none_more w.put (put_for unit w.end) [] put none) h

asks_taking : (local : Local) (w : Whole) (unit : Value) (later : List Value) (x : Connect) (cs : List Connection) (drs : Disconnects) →
    w.put ≡ request x ∷ [] → CallsOrOver local x.source w.end → Offers local (offer_of x) → w.judge ≡ calm_judge cs drs →
    HoldsOfEach IsDone cs → IsDc unit → AreDcs later → (w.begun ≡ true → AllOver cs) → Stage local (after_arriving w unit later)
asks_taking local w unit later x cs drs put (inl h) offers judge done dc dcs begun =
    let (e, none) = over_takes unit w.end h in
    asks x (none_more w.put (put_for unit w.end) (request x ∷ []) put none) (inl (ap (λ (s : State). is_some s.ended) e ∙ h)) offers cs
    drs judge done dcs begun
asks_taking local w unit later x cs drs put (inr is) offers judge done dc dcs begun =
    let p = dc_ends (one x.source) unit w.end dc is.0 in
    asks x (none_more w.put (put_for unit w.end) (request x ∷ []) put p.put) (inl p.after) offers cs drs judge done dcs begun

answered_taking : (local : Local) (w : Whole) (unit : Value) (later : List Value) (r : ℕ) (dcs : List Value) (n : ℕ) (x : Connect)
    (more : List Value) (after : State) → Calling local (one r) w.end → w.put ≡ [] → w.begun ≡ false →
    unit ∷ later ≡ dcs ++ confirm n x ∷ more → AreDcs dcs → (x.class == 2) ≡ false → HasZero local →
    react (confirm n x) w.end ≡ after → IsZeroed Left after [] false w.judge → Stage local (after_arriving w unit later)
answered_taking local w unit later r [] n x more after is none not_begun e dcs class has so z = grind (arith, first_of, after_arriving)
answered_taking local w unit later r (d ∷ dcs) n x more after is none not_begun e (dc, others) class has so z =
    let (same_unit, rest) = first_of unit d later (dcs ++ confirm n x ∷ more) e in
    grind (arith, ended_taking, dc_ends (one r) unit w.end (subst IsDc same_unit dc) is.0)

refusal_taking : (local : Local) (w : Whole) (v : Value) (more : List Value) (r : ℕ) (cs : List Connection) (drs : Disconnects) →
    Calling local (one r) w.end → w.put ≡ [] → w.begun ≡ false → w.judge ≡ calm_judge cs drs → HoldsOfEach IsDone cs → IsRefusal r v →
    AreDcs more → Stage local (after_arriving w v more)
refusal_taking local w v more r cs drs is none not_begun judge done refusal dcs =
    let p = refusal_takes r v w.end refusal is.0 in
    quiet (p.after.0, p.after.1 ∙ is.1) (none_more w.put (put_for v w.end) [] none p.put) not_begun cs drs judge done dcs

refused_taking : (local : Local) (w : Whole) (unit : Value) (later : List Value) (r : ℕ) (cs : List Connection) (drs : Disconnects)
    (dcs : List Value) (v : Value) (more : List Value) → Calling local (one r) w.end → w.put ≡ [] → w.begun ≡ false →
    w.judge ≡ calm_judge cs drs → HoldsOfEach IsDone cs → unit ∷ later ≡ dcs ++ v ∷ more → AreDcs dcs → IsRefusal r v → AreDcs more →
    Stage local (after_arriving w unit later)
refused_taking local w unit later r cs drs [] v more is none not_begun judge done e dcs refusal dcs_too =
    let (same_unit, others) = first_of unit v later more e in
    subst (λ (u : Value). Stage local (after_arriving w u later)) same_unit
    (refusal_taking local w v later r cs drs is none not_begun judge done refusal (subst AreDcs others dcs_too))
refused_taking local w unit later r cs drs (d ∷ dcs) v more is none not_begun judge done e (dc, others) refusal dcs_too =
    let (same_unit, rest) = first_of unit d later (dcs ++ v ∷ more) e in
    grind (arith, ended_taking, dc_ends (one r) unit w.end (subst IsDc same_unit dc) is.0)

taking : (local : Local) (w : Whole) (unit : Value) (later : List Value) → w.coming ≡ unit ∷ later → Stage local w →
    Stage local (after_arriving w unit later)
taking local w unit later e (ended none h) = grind (arith, over_takes, ended_taking)
taking local w unit later e (quiet is none not_begun cs drs judge done dcs) =
    let (dc, more) = subst AreDcs e dcs in grind (arith, ended_taking, dc_ends [] unit w.end dc is.0)
taking local w unit later e (asks x put is offers cs drs judge done dcs begun) =
    let (dc, more) = subst AreDcs e dcs in asks_taking local w unit later x cs drs put is offers judge done dc more begun
taking local w unit later e (waits r is none not_begun cs drs judge p o offers waiting dcs) =
    let (dc, more) = subst AreDcs e dcs in grind (arith, ended_taking, dc_ends (one r) unit w.end dc is.0)
taking local w unit later e (refused r is none not_begun cs drs judge done dcs v more coming are refusal too) =
    refused_taking local w unit later r cs drs dcs v more is none not_begun judge done (sym e ∙ coming) are refusal too
taking local w unit later e (answered r is none not_begun dcs n x more coming are class has after so z) =
    answered_taking local w unit later r dcs n x more after is none not_begun (sym e ∙ coming) are class has so z
taking local w unit later e (zero has z) = zero has (zeroed_takes Left w.end w.put w.begun w.judge z unit)
taking local w unit later e (known two seen has) = known two seen has

-- ---- its user makes a call

-- a call that has no effect, or ends the carrier
one_calling : (local : Local) (w : Whole) (call : UserCall) → w.put ≡ [] → Idle call w.end →
    (user_does call w.end ≡ w.end → w.put ++ put_by call w.end ≡ [] → Stage local (after_calling w call)) →
    Stage local (after_calling w call)
one_calling local w call none (same e put asks_none) k = k e (none_more w.put (put_by call w.end) [] none put)
one_calling local w call none (broke h put asks_none) k = grind (arith, none_more)

over_calling : (local : Local) (w : Whole) (call : UserCall) → w.put ≡ [] → IsOver w.end → Idle call w.end →
    Stage local (after_calling w call)
over_calling local w call none h idle = grind (arith, one_calling)

asks_calling : (local : Local) (w : Whole) (call : UserCall) (x : Connect) (cs : List Connection) (drs : Disconnects) →
    w.put ≡ request x ∷ [] → CallsOrOver local x.source w.end → Offers local (offer_of x) → Idle call w.end →
    w.judge ≡ calm_judge cs drs → HoldsOfEach IsDone cs → AreDcs w.coming → (w.begun ≡ true → AllOver cs) →
    Stage local (after_calling w call)
asks_calling local w call x cs drs put is offers (same e none asks_none) judge done dcs begun =
    asks x (none_more w.put (put_by call w.end) (request x ∷ []) put none) (subst (CallsOrOver local x.source) (sym e) is) offers cs drs
    judge done dcs begun
asks_calling local w call x cs drs put is offers (broke h none asks_none) judge done dcs begun =
    asks x (none_more w.put (put_by call w.end) (request x ∷ []) put none) (inl h) offers cs drs judge done dcs begun

asking_idle : (local : Local) (r : ℕ) (call : UserCall) (s : State) → CallsOrOver local r s → MayCall call s → Idle call s
asking_idle local r call s h may = grind (arith, over_calls, one_calls)

quiet_calling : (local : Local) (w : Whole) (call : UserCall) (cs : List Connection) (drs : Disconnects) → Calls call w.end →
    Calling local [] w.end → w.put ≡ [] → w.begun ≡ false → w.judge ≡ calm_judge cs drs → HoldsOfEach IsDone cs → AreDcs w.coming →
    Stage local (after_calling w call)
quiet_calling local w call cs drs (idles i) is none not_begun judge done dcs =
    one_calling local w call none i
    (λ e put. quiet (subst (Calling local []) (sym e) is) put not_begun cs drs judge done dcs)
quiet_calling local w call cs drs (asks_one x put now here offers) is none not_begun judge done dcs =
    asks x (ap (λ (l : List Value). l ++ put_by call w.end) none ∙ put) (inr (now, here ∙ is.1))
    (subst (λ (l : Local). Offers l (offer_of x)) is.1 offers) cs drs judge done dcs (λ h. differ w.begun h not_begun)

calling : (local : Local) (w : Whole) (call : UserCall) → MayCall call w.end → Stage local w → Stage local (after_calling w call)
calling local w call may (ended none h) = over_calling local w call none h (over_calls call w.end h may)
calling local w call may (quiet is none not_begun cs drs judge done dcs) = search (arith, quiet_calling, none_calls)
calling local w call may (asks x put is offers cs drs judge done dcs begun) = search (arith, asks_calling, asking_idle)
calling local w call may (waits r is none not_begun cs drs judge p o offers waiting dcs) =
    one_calling local w call none (one_calls r call w.end is.0 may)
    (λ e put. waits r (subst (Calling local (one r)) (sym e) is) put not_begun cs drs judge p o offers waiting dcs)
calling local w call may (refused r is none not_begun cs drs judge done dcs v more coming are refusal too) =
    one_calling local w call none (one_calls r call w.end is.0 may)
    (λ e put. refused r (subst (Calling local (one r)) (sym e) is) put not_begun cs drs judge done dcs v more coming are refusal too)
calling local w call may (answered r is none not_begun dcs n x more coming are class has after so z) =
    one_calling local w call none (one_calls r call w.end is.0 may)
    (λ e put. answered r (subst (Calling local (one r)) (sym e) is) put not_begun dcs n x more coming are class has after
    (ap (λ (s : State). react (confirm n x) s) e ∙ so) z)
calling local w call may (zero has z) = zero has (zeroed_calls Left w.end w.put w.begun w.judge z call may)
calling local w call may (known two seen has) = known two seen has

-- ---- a unit of the end begins to pass, and passes

abbrev begun_own : Whole → Whole
begun_own w = record w { begun = true; judge = packet_begins Left w.judge }

beginning : (local : Local) (w : Whole) → w.put ≢ [] → Stage local w → Stage local (begun_own w)
beginning local w some (ended none h) = absurd (some none)
beginning local w some (quiet is none not_begun cs drs judge done dcs) = absurd (some none)
beginning local w some (asks x put is offers cs drs judge done dcs begun) =
    asks x put is offers (map (begins Left) cs) (disconnects_begin Left drs) (ap (λ (t : Traffic). packet_begins Left t) judge)
    (done_begins Left cs done) dcs
    (λ h. over_begins cs done)
beginning local w some (waits r is none not_begun cs drs judge p o offers waiting dcs) = absurd (some none)
beginning local w some (refused r is none not_begun cs drs judge done dcs v more coming are refusal too) = absurd (some none)
beginning local w some (answered r is none not_begun dcs n x more coming are class has after so z) = absurd (some none)
beginning local w some (zero has z) = zero has (zeroed_begins Left w.end w.put w.begun w.judge z)
beginning local w some (known two seen has) = known ((lasts_passing (packet Left) w.judge).two two) (λ h. two) has

abbrev after_own : Whole → Value → List Value → Whole
after_own w v put = record w { put = put; begun = false; judge = (takes Left v w.judge).state }

some_put : {A : Type 0} (w : Whole) (v : Value) (put : List Value) → w.put ≡ v ∷ put → w.put ≡ [] → A
some_put w v put e none = absurd (cc (sym e ∙ none))

pub calm_passes : (x : Connect) (cs : List Connection) (drs : Disconnects) → AllOver cs → IsUnused x.source (calm_judge cs drs) →
    Passed (first_failed (request_tests (calm_judge cs drs) x))
calm_passes x cs drs all unused = grind (arith, all_from)

asked_stage : (local : Local) (w : Whole) (x : Connect) (drs : Disconnects) → Calling local (one x.source) w.end →
    Offers local (offer_of x) → AreDcs w.coming → Asked x drs (takes Left (request x) w.judge).state →
    Stage local (after_own w (request x) [])
asked_stage local w x drs is offers dcs a =
    waits x.source is refl refl a.after drs a.is a.place (offer_of x) offers a.waits dcs

asks_own : (local : Local) (w : Whole) (x : Connect) (cs : List Connection) (drs : Disconnects) → CallsOrOver local x.source w.end →
    Offers local (offer_of x) → w.judge ≡ calm_judge cs drs → HoldsOfEach IsDone cs → AreDcs w.coming → AllOver cs →
    IsUnused x.source w.judge → GoesOn (takes Left (request x) w.judge).state → Stage local (after_own w (request x) [])
asks_own local w x cs drs (inl h) offers judge done dcs all unused goes = ended refl h
asks_own local w x cs drs (inr is) offers judge done dcs all unused goes =
    let tests = first_failed (request_tests (calm_judge cs drs) x) in
    let right = calm_passes x cs drs all (subst (IsUnused x.source) judge unused) in
    let so = subst (λ (t : Traffic). GoesOn (takes Left (request x) t).state) judge goes in
    let asked_there = asks_passed x cs drs tests right done so in
    asked_stage local w x drs is offers dcs
    (subst (λ (t : Traffic). Asked x drs (takes Left (request x) t).state) (sym judge) asked_there)

own : (local : Local) (w : Whole) (v : Value) (put : List Value) → w.put ≡ v ∷ put → w.begun ≡ true → Newer w →
    GoesOn (takes Left v w.judge).state → Stage local w → Stage local (after_own w v put)
own local w v put e begun newer goes (ended none h) = some_put w v put e none
own local w v put e begun newer goes (quiet is none not_begun cs drs judge done dcs) = some_put w v put e none
own local w v put e begun newer goes (asks x one_put is offers cs drs judge done dcs all) =
    let (same_unit, others) = first_of v (request x) put [] (sym e ∙ one_put) in
    let unused = next_unused x [] w one_put newer in
    subst (λ (u : Value). Stage local (after_own w u put)) same_unit
    (subst (λ (l : List Value). Stage local (after_own w (request x) l)) others
    (asks_own local w x cs drs is offers judge done dcs (all begun) unused
    (subst (λ (u : Value). GoesOn (takes Left u w.judge).state) (sym same_unit) goes)))
own local w v put e begun newer goes (waits r is none not_begun cs drs judge p o offers waiting dcs) = some_put w v put e none
own local w v put e begun newer goes (refused r is none not_begun cs drs judge done dcs u more coming are refusal too) =
    some_put w v put e none
own local w v put e begun newer goes (answered r is none not_begun dcs n x more coming are class has after so z) = some_put w v put e none
own local w v put e begun newer goes (zero has z) =
    zero has (zeroed_passes Left w.end w.put w.begun w.judge v put ((lasts_passing (passing Left v) w.judge).left goes) e begun z).1
own local w v put e begun newer goes (known two seen has) = grind (arith, differ, lasts_passing (passing Left v) w.judge)

-- ---- the other side

abbrev begun_other : Whole → Whole
begun_other w = record w { judge = packet_begins Right w.judge }

begun_elsewhere : (local : Local) (w : Whole) → Stage local w → Stage local (begun_other w)
begun_elsewhere local w (ended none h) = ended none h
begun_elsewhere local w (quiet is none not_begun cs drs judge done dcs) =
    quiet is none not_begun (map (begins Right) cs) (disconnects_begin Right drs) (ap (λ (t : Traffic). packet_begins Right t) judge)
    (done_begins Right cs done) dcs
begun_elsewhere local w (asks x put is offers cs drs judge done dcs begun) =
    asks x put is offers (map (begins Right) cs) (disconnects_begin Right drs) (ap (λ (t : Traffic). packet_begins Right t) judge)
    (done_begins Right cs done) dcs
    (λ h. over_still cs (begun h))
begun_elsewhere local w (waits r is none not_begun cs drs judge p o offers waiting dcs) =
    waits r is none not_begun (map (begins Right) cs) (disconnects_begin Right drs) (ap (λ (t : Traffic). packet_begins Right t) judge) p o
    offers
    (waits_begins Right r p o cs waiting) dcs
begun_elsewhere local w (refused r is none not_begun cs drs judge done dcs v more coming are refusal too) =
    refused r is none not_begun (map (begins Right) cs) (disconnects_begin Right drs) (ap (λ (t : Traffic). packet_begins Right t) judge)
    (done_begins Right cs done)
    dcs v more coming are refusal too
begun_elsewhere local w (answered r is none not_begun dcs n x more coming are class has after so z) =
    answered r is none not_begun dcs n x more coming are class has after so (zeroed_elsewhere Left after [] false w.judge z)
begun_elsewhere local w (zero has z) = zero has (zeroed_elsewhere Left w.end w.put w.begun w.judge z)
begun_elsewhere local w (known two seen has) = grind (arith, lasts_passing)

abbrev after_other : Whole → Value → Whole
after_other w v = record w { judge = (takes Right v w.judge).state; coming = w.coming ++ v ∷ [] }

one_more : (units : List Value) (v : Value) → AreDcs units → IsDc v → AreDcs (units ++ v ∷ [])
one_more [] v h dc = (dc, tt)
one_more (u ∷ units) v (one_dc, h) dc = (one_dc, one_more units v h dc)

-- at the judge as it is
taken_at : (w : Whole) (v : Value) (cs : List Connection) (drs : Disconnects) → w.judge ≡ calm_judge cs drs →
    GoesOn (takes Right v w.judge).state → HoldsOfEach IsDone cs → IsDc v × ((takes Right v w.judge).state ≡ calm_judge cs drs)
taken_at w v cs drs judge goes done = grind (arith, done_takes)

is_two : (o : Offer) (x : Connect) → (x.class == 2) ≡ true → is_offered o None x ≡ true → o.class2 ≡ true
is_two o x h e = grind arith

confirm_answer : (local : Local) (w : Whole) (v : Value) (r p : ℕ) (o : Offer) (cs : List Connection) (drs : Disconnects) (erred : Bool) →
    Calling local (one r) w.end → w.put ≡ [] → w.begun ≡ false → Offers local o → (waiting : Waits r p o cs) → AreDcs w.coming →
    (n : ℕ) (x : Connect) → v ≡ confirm n x → IsConnect x → (takes Right v w.judge).state ≡ confirmed_judge p n x waiting.c cs drs erred →
    is_offered o None x ≡ true → is_inside x ≡ true → (b : Bool) → (x.class == 2) ≡ b → Stage local (after_other w v)
confirm_answer local w v r p o cs drs erred is none not_begun offers waiting dcs n x same_unit range so offered inside true class =
    grind (arith, differ, is_two)
confirm_answer local w v r p o cs drs erred is none not_begun offers waiting dcs n x same_unit range so offered inside false class =
    answered r is none not_begun w.coming n x [] (ap (λ (u : Value). w.coming ++ u ∷ []) same_unit) dcs class
    (offers.zero (grind arith)) (react (confirm n x) w.end) refl
    (grind (arith, confirmed_so n r p o x cs drs erred w.end waiting range is.0 class))

waits_answer : (local : Local) (w : Whole) (v : Value) (r p : ℕ) (o : Offer) (cs : List Connection) (drs : Disconnects) →
    HasFieldsInRange v →
    Calling local (one r) w.end → w.put ≡ [] → w.begun ≡ false → Offers local o → Waits r p o cs → AreDcs w.coming →
    Answer r p o cs drs v (takes Right v w.judge).state → Stage local (after_other w v)
waits_answer local w v r p o cs drs ranges is none not_begun offers waiting dcs (confirms n x same_unit c at erred so offered inside) =
    let range = (subst HasFieldsInRange same_unit ranges).1 in
    let here : c ≡ waiting.c = grind arith in
    confirm_answer local w v r p o cs drs erred is none not_begun offers waiting dcs n x same_unit range
    (so ∙ ap (λ (y : Connection). confirmed_judge p n x y cs drs erred) here) offered inside (x.class == 2) refl
waits_answer local w v r p o cs drs ranges is none not_begun offers waiting dcs (refuses refusal after more judge done) =
    refused r is none not_begun after more judge done w.coming v [] refl dcs refusal tt
waits_answer local w v r p o cs drs ranges is none not_begun offers waiting dcs (says_nothing (dc, judge)) =
    waits r is none not_begun cs drs judge p o offers waiting (one_more w.coming v dcs dc)

other_passes : (local : Local) (w : Whole) (v : Value) → HasFieldsInRange v → GoesOn (takes Right v w.judge).state → Stage local w →
    Stage local (after_other w v)
other_passes local w v ranges goes (ended none h) = ended none h
other_passes local w v ranges goes (quiet is none not_begun cs drs judge done dcs) =
    let (dc, after) = taken_at w v cs drs judge goes done in quiet is none not_begun cs drs after done (one_more w.coming v dcs dc)
other_passes local w v ranges goes (asks x put is offers cs drs judge done dcs begun) =
    let (dc, after) = taken_at w v cs drs judge goes done in
    asks x put is offers cs drs after done (one_more w.coming v dcs dc) begun
other_passes local w v ranges goes (waits r is none not_begun cs drs judge p o offers waiting dcs) =
    let so = waits_takes r p o cs drs waiting v (subst (λ (t : Traffic). GoesOn (takes Right v t).state) judge goes) in
    waits_answer local w v r p o cs drs ranges is none not_begun offers waiting dcs
    (subst (λ (t : Traffic). Answer r p o cs drs v (takes Right v t).state) (sym judge) so)
other_passes local w v ranges goes (refused r is none not_begun cs drs judge done dcs u more coming are refusal too) =
    let (dc, after) = taken_at w v cs drs judge goes done in
    refused r is none not_begun cs drs after done dcs u (more ++ v ∷ [])
    (ap (λ (l : List Value). l ++ v ∷ []) coming ∙ append_assoc dcs (u ∷ more) (v ∷ [])) are refusal (one_more more v too dc)
other_passes local w v ranges goes (answered r is none not_begun dcs n x more coming are class has after so z) =
    answered r is none not_begun dcs n x (more ++ v ∷ [])
    (ap (λ (l : List Value). l ++ v ∷ []) coming ∙ append_assoc dcs (confirm n x ∷ more) (v ∷ [])) are class has after so
    (zeroed_comes Left after [] false w.judge z v z.judge.class)
other_passes local w v ranges goes (zero has z) = zero has (zeroed_comes Left w.end w.put w.begun w.judge z v z.judge.class)
other_passes local w v ranges goes (known two seen has) = search (arith, lasts_passing (passing Right v) w.judge)

abbrev after_rubbish : Whole → Whole
after_rubbish w = record w { judge = not_read Right w.judge }

rubbish_passes : (local : Local) (w : Whole) → GoesOn (not_read Right w.judge) → Stage local w → Stage local (after_rubbish w)
rubbish_passes local w goes (ended none h) = ended none h
rubbish_passes local w goes (quiet is none not_begun cs drs judge done dcs) = grind arith
rubbish_passes local w goes (asks x put is offers cs drs judge done dcs begun) = grind arith
rubbish_passes local w goes (waits r is none not_begun cs drs judge p o offers waiting dcs) = grind arith
rubbish_passes local w goes (refused r is none not_begun cs drs judge done dcs v more coming are refusal too) = grind arith
rubbish_passes local w goes (answered r is none not_begun dcs n x more coming are class has after so z) =
    answered r is none not_begun dcs n x more coming are class has after so (zeroed_refused Left after [] false w.judge z)
rubbish_passes local w goes (zero has z) = zero has (zeroed_refused Left w.end w.put w.begun w.judge z)
rubbish_passes local w goes (known two seen has) = grind (arith, lasts_passing)

-- ---- what happens

pub still_staged : (local : Local) (event : Event) (w new : Whole) → Happens Left event w new → GoesOn new.judge → Newer w →
    Stage local w → Stage local new
still_staged local arrives w new (unit, coming, is) goes newer st = grind (arith, taking local w unit new.coming coming st)
still_staged local (calls call) w new (may, is) goes newer st = subst (Stage local) (sym is) (calling local w call may st)
still_staged local begins_own w new (some, not_begun, is) goes newer st = subst (Stage local) (sym is) (beginning local w some st)
still_staged local passes_own w new (v, (put, begun, is)) goes newer st =
    subst (Stage local) (sym is) (own local w v new.put put begun newer (subst (λ (x : Whole). GoesOn x.judge) is goes) st)
still_staged local begins_other w new is goes newer st = subst (Stage local) (sym is) (begun_elsewhere local w st)
still_staged local (passes_other v) w new (ranges, is) goes newer st =
    subst (Stage local) (sym is) (other_passes local w v ranges (subst (λ (x : Whole). GoesOn x.judge) is goes) st)
still_staged local passes_rubbish w new is goes newer st =
    subst (Stage local) (sym is) (rubbish_passes local w (subst (λ (x : Whole). GoesOn x.judge) is goes) st)
