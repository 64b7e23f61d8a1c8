-- The events of a packet are handled: what becomes of the course of one connection, and that what its session sends is handed in.
-- For the course of a connection.
use Rattle.osi_blameless.proofs.ends.Vocabulary.{[], ap, Bool, false, inl, inr, is_some, length, List, nat_le, nat_lt, ◌&&◌, has_given}
use Rattle.osi_blameless.proofs.ends.Vocabulary.{None}
use Rattle.osi_blameless.proofs.ends.Vocabulary.{Option, refl, Some, subst, suc, sym, true, zero, ℕ, ◌++◌, ◌+◌, ◌==◌, ◌∙◌, ◌∷◌, ◌≡◌, ◌≢◌}
use Rattle.osi_blameless.proofs.ends.Vocabulary.{eq-eqb}
use Rattle.osi_blameless.proofs.ends.Vocabulary.{eqb-true, append-nil, MovesAlong, tsdus_out, push_here, open_link, Happening}
use Rattle.osi_blameless.proofs.ends.Vocabulary.{told_opened as opened, value_at, EndReason, after_input, broken, came, Input, Listener}
use Rattle.osi_blameless.proofs.ends.Vocabulary.{linked_up}
use Rattle.osi_blameless.proofs.ends.Vocabulary.{session_react as react, awaits, times_quiet, first_is, rest_is, used_live, hears_keep}
use Rattle.osi_blameless.proofs.ends.Vocabulary.{calls_with}
use Rattle.osi_blameless.proofs.ends.Vocabulary.{terms_error, hears, hears_next, hears_times, opens_line as opens, with_events, kept_at}
use Rattle.osi_blameless.proofs.ends.Vocabulary.{to_session}
use Rattle.osi_blameless.proofs.ends.Vocabulary.{End, joins, Line, session_in, Request as Connect, sends, Course, Deeds, Gone, IsNew}
use Rattle.osi_blameless.proofs.ends.Vocabulary.{IsShut}
use Rattle.osi_blameless.proofs.ends.Vocabulary.{said_in, is_gone, is_open, closed, History, Said, said_after, State as Carrier, attends}
use Rattle.osi_blameless.proofs.ends.Vocabulary.{concludes}
use Rattle.osi_blameless.proofs.ends.Vocabulary.{hears_all, concluded_carrier, concludes_lasting, never, arith, over, Makes, refused}
use Rattle.std.proofs.Common.{length-append}
use Rattle.osi_carrier.specs.Happenings as told
use Rattle.osi_carrier.specs.Orderly.{told_of}
use Rattle.osi_blameless.specs.ends.Doing as doing
use Rattle.osi_blameless.specs.ends.Talking as history
use Rattle.osi_blameless.proofs.ends.at_any_time.what_a_session_sends_fits.{still_begun, AllProper}
use Rattle.osi_blameless.proofs.ends.at_any_time.an_end_that_is_over_does_nothing.{never_lasts}
use Rattle.osi_blameless.proofs.ends.courses.a_connection_without_a_unit.{event_life}
use Rattle.osi_blameless.proofs.ends.courses.steps_of_a_course.{HasNone, HoldEach, StepAt, States, Steps, same_rest, step_each, step_idle}
use Rattle.osi_blameless.proofs.ends.courses.steps_of_a_course.{step_none, step_on, step_since, step_then, step_as}
use Rattle.osi_blameless.proofs.ends.links.the_first_cc_opens_a_connection.{event_given, first_of}
use Rattle.osi_blameless.proofs.ends.links.units_of_each_connection.{unequal}
use Rattle.osi_blameless.proofs.ends.links.what_a_link_takes_and_is_handed.{link_shut}
use Rattle.osi_blameless.proofs.ends.courses.what_a_session_puts.{IsGivenIfOpen, event_accounted, event_others, event_puts, event_unlinked}
use Rattle.osi_blameless.proofs.ends.courses.what_a_session_puts.{event_made, opening_puts, session_puts}
use Rattle.osi_blameless.proofs.ends.links.what_a_unit_does_to_a_connection.{NoneOf}
use Rattle.osi_blameless.proofs.ends.links.what_another_connection_leaves.{Beside, gone_beside, gone_over, gone_same, joins_beside}
use Rattle.osi_blameless.proofs.ends.links.what_another_connection_leaves.{session_beside, shut_session, course_over}
use Rattle.osi_blameless.proofs.ends.links.what_calls_of_a_link_say.{fresh_of, none_said, out_more, said_more}
use Rattle.osi_blameless.proofs.ends.courses.what_its_own_session_does.{CanSpeak, session_speaks}
use Rattle.osi_blameless.proofs.ends.courses.what_units_do_to_a_course.{NowAll, request_new, unsaid}
use Rattle.osi_blameless.proofs.ends.courses.what_waits_to_be_heard.{HasCome, JustOpened, Waits, waits_as, waits_beside, waits_over}
use Rattle.osi_blameless.proofs.ends.courses.what_waits_to_be_heard.{waits_none}
use Rattle.osi_blameless.proofs.ends.courses.what_waits_to_be_heard.Waits.{answered, away, called, came as has_come, still}
use Rattle.osi_blameless.proofs.ends.at_any_time.the_cn_of_a_request_fits.{CanBegin}
use Rattle.osi_blameless.proofs.ends.links.how_long_a_connection_is_open.{stage_at}

-- ---- an event of another connection

abbrev LeavesIt : ℕ → End → End → Type 0
LeavesIt r old new = new.carrier.ended ≡ None → Beside r old new

session_leaves_it : (q r : ℕ) (input : Input) (e : End) → r ≢ q → LeavesIt r e (to_session q input e)
session_leaves_it q r input e ne = λ lasts. session_beside q r ne input e lasts

opened_leaves_it : (q r : ℕ) (o : Option Line) (e : End) → r ≢ q → LeavesIt r e (opens q o e)
opened_leaves_it q r None e ne = λ lasts. joins_beside q r awaits e ne
opened_leaves_it q r (Some line) e ne = session_leaves_it q r linked_up e ne

hears_elsewhere : (r : ℕ) (x : Happening) (e : End) → r ≢ told_of x → LeavesIt r e (hears x e)
hears_elsewhere r (told.opened q) e ne = opened_leaves_it q r (value_at q e.lines) e ne
hears_elsewhere r (told.refused q reason) e ne = session_leaves_it q r (refused reason) e ne
hears_elsewhere r (told.tsdu q octets) e ne = session_leaves_it q r (came octets) e ne
hears_elsewhere r (told.closed q reason) e ne = session_leaves_it q r broken e ne
hears_elsewhere r (told.faulted q fault) e ne = session_leaves_it q r broken e ne

-- ---- a connection that is gone hears nothing that matters

hears_same : (x : Happening) (e : End) → IsShut (value_at (told_of x) e.carrier.live) → (hears x e).carrier ≡ e.carrier
hears_same x e shut = grind (arith, shut_session)

module _ (is_caller : Bool) (r : ℕ) (moves : Deeds) (x : Happening) (e : End) where
  shut_hears : (b : Bool) → (r == told_of x) ≡ b → (hears x e).carrier.ended ≡ None → (closed_so : Bool) (session : Listener) →
      Gone is_caller r moves e → IsShut (value_at r e.carrier.live) → Gone is_caller r moves (hears x e)
  shut_hears true is lasts closed_so session g shut =
      gone_same is_caller r moves e (hears x e)
      (hears_same x e (subst (λ (n : ℕ). IsShut (value_at n e.carrier.live)) (eqb-true r (told_of x) is) shut)) g
  shut_hears false is lasts closed_so session g shut =
      gone_beside is_caller r moves e (hears x e)
      ((hears_elsewhere r x e (λ same. let both : true ≡ false = sym (eq-eqb r (told_of x) same) ∙ is in absurd (cc))) lasts) g

  gone_hears_by : (o : Option EndReason) → (hears x e).carrier.ended ≡ o → Gone is_caller r moves e → Gone is_caller r moves (hears x e)
  gone_hears_by (Some reason) ended g = gone_over is_caller r moves e (hears x e) g (ap is_some ended)
  gone_hears_by None lasts (closed at calls is session speaks given shut) =
      shut_hears (r == told_of x) refl lasts is session (closed at calls is session speaks given shut) shut
  gone_hears_by None lasts (over at calls heard unheard is session speaks parts none ended) = grind (arith, never_lasts, hears_keep)
  gone_hears_by None lasts (never none ended) = absurd (never_lasts e.carrier.ended ended ((hears_keep x e).leaves.lasts lasts))

  gone_hears : Gone is_caller r moves e → Gone is_caller r moves (hears x e)
  gone_hears g = gone_hears_by (hears x e).carrier.ended refl g

-- ---- an event of this connection

-- it was opened at a called end: a session begins
called_hears : (is_caller : Bool) (r : ℕ) (moves : Deeds) (e : End) → is_caller ≡ false → value_at r e.lines ≡ None →
    JustOpened r moves e → Course is_caller r moves (joins r awaits e)
called_hears is_caller r moves e side none just =
    is_open just.given (record {
      peer = just.peer;
      calls = grind (arith, fresh_of);
      session = awaits;
      lasts = just.lasts;
      here = just.here;
      kept = grind (arith, used_live, push_here);
      speaks = unsaid is_caller moves awaits just.none (subst (λ (b : Bool). IsNew b awaits) (sym side) refl);
      begun = refl;
    })

-- it was opened at a calling end: its session sends its CN
answered_speaks : (is_caller : Bool) (r : ℕ) (moves : Deeds) (e : End) (c : Connect) → is_caller ≡ true → terms_error c ≡ None →
    CanBegin (calls_with c) → kept_at r e.lines ≡ Some (calls_with c) → JustOpened r moves e →
    CanSpeak is_caller r moves (calls_with c) linked_up e
answered_speaks is_caller r moves e c side terms can kept just = record {
  peer = just.peer;
  first = just.first;
  link = just.first;
  lasts = just.lasts;
  given = just.given;
  here = just.here;
  fresh = just.fresh;
  along = subst (λ (d : Deeds). MovesAlong just.first d.calls just.first) (sym just.none) refl;
  handed = (fresh_of just.first just.fresh).2;
  put = grind arith;
  kept = kept;
  proper = can.proper;
  begun = can.then_begun;
  begin = calls_with c;
  new = request_new is_caller c side terms;
  history = subst (λ (d : Deeds). History (calls_with c) (tsdus_out d.calls)
      (said_in 0 d.calls ++ said_after (length (tsdus_out d.calls)) (sends (calls_with c) linked_up))
      (react (calls_with c) linked_up).closes
      (after_input (calls_with c) linked_up)) (sym just.none)
      (subst (λ (b : Bool). History (calls_with c) [] (said_after 0 (sends (calls_with c) linked_up)) b
      (after_input (calls_with c) linked_up))
      (sym can.stays) (history.connects [] [] (calls_with c) history.begins));
}

-- its link handed out a TSDU: its session takes it
come_speaks : AllProper → (is_caller : Bool) (r : ℕ) (octets : List ℕ) (moves : Deeds) (e : End) →
    (h : HasCome is_caller r octets moves e) → CanSpeak is_caller r moves h.session (came octets) e
come_speaks proper is_caller r octets moves e h =
    let outs : tsdus_out moves.calls ≡ tsdus_out h.before ++ octets ∷ [] =
    ap tsdus_out h.parts ∙ out_more h.before h.now ∙ ap (λ (l : List (List ℕ)). tsdus_out h.before ++ l) h.out in
    let said : said_in 0 moves.calls ≡ said_in 0 h.before = grind (arith, said_more, none_said, append-nil) in
    let count : length (tsdus_out moves.calls) ≡ length (tsdus_out h.before) + 1 =
    ap length outs ∙ length-append (tsdus_out h.before) (octets ∷ []) in
    let all : said_in 0 moves.calls ++ said_after (length (tsdus_out moves.calls)) (sends h.session (came octets))
    ≡ said_in 0 h.before ++ said_after (length (tsdus_out h.before) + 1) (sends h.session (came octets)) = grind arith in
    record {
      peer = h.peer;
      first = h.first;
      link = h.link;
      lasts = h.lasts;
      given = h.given;
      here = h.here;
      fresh = h.fresh;
      along = h.along;
      handed = h.handed;
      put = h.put;
      kept = h.kept;
      proper = proper h.session octets;
      begun = still_begun h.session (came octets) h.begun;
      begin = h.speaks.begin;
      new = h.speaks.new;
      history = subst (λ (l : List (List ℕ)). History h.speaks.begin l
          (said_in 0 moves.calls ++ said_after (length (tsdus_out moves.calls)) (sends h.session (came octets)))
          (react h.session (came octets)).closes
          (after_input h.session (came octets))) (sym outs)
          (subst (λ (l : List Said). History h.speaks.begin (tsdus_out h.before ++ octets ∷ []) l (react h.session (came octets)).closes
          (after_input h.session (came octets))) (sym all)
          (history.takes (tsdus_out h.before) (said_in 0 h.before) h.session octets h.speaks.history h.begun));
    }

-- ---- one event after the other

-- all that is known of sessions
pub record Known : Type 0 where
  pub proper : AllProper
  pub can : (c : Connect) → terms_error c ≡ None → CanBegin (calls_with c)

opened_of : (r : ℕ) (o : Option Line) (session : Listener) (e : End) → session_in o ≡ Some session → opens r o e ≡ to_session r linked_up e
opened_of r o session e h = grind arith

opened_new : (r : ℕ) (e : End) → value_at r e.lines ≡ None → hears (opened r) e ≡ joins r awaits e
opened_new r e none = ap (λ (o : Option Line). opens r o e) none

-- a connection that is gone is not open
gone_unlinked : (is_caller : Bool) (r : ℕ) (moves : Deeds) (e : End) → Gone is_caller r moves e → open_link r e.carrier ≡ None
gone_unlinked is_caller r moves e h = grind (arith, link_shut)

module _ (known : Known) (is_caller : Bool) (r : ℕ) where
  abbrev HeardAt : Happening → List Happening → Deeds → End → Type 0
  HeardAt x rest moves e = StepAt r (event_puts x e) [] (Waits is_caller r rest) moves (hears x e)

  -- nothing is done at this connection
  idle_heard : (x : Happening) (rest : List Happening) (moves : Deeds) (e : End) → HasNone r (event_puts x e) →
      Waits is_caller r rest moves (hears x e) → HeardAt x rest moves e
  idle_heard x rest moves e none w = step_idle r (event_puts x e) [] (Waits is_caller r rest) moves (hears x e) none (λ some. refl) w

  -- one event of this connection that was due; no other is
  own_heard : (x : Happening) (rest : List Happening) (moves : Deeds) (e : End) →
      StepAt r (event_puts x e) [] (Course is_caller r) moves (hears x e) → NoneOf r rest → HeardAt x rest moves e
  own_heard x rest moves e s none = search (arith, step_on, event_puts, still)

  elsewhere_by : (x : Happening) (rest : List Happening) (moves : Deeds) (e : End) (o : Option EndReason) → r ≢ told_of x →
      (hears x e).carrier.ended ≡ o → Waits is_caller r (x ∷ rest) moves e → HeardAt x rest moves e
  elsewhere_by x rest moves e (Some reason) ne ended w =
      idle_heard x rest moves e (event_others r x e ne)
      (away (waits_over is_caller r moves e (hears x e) (x ∷ rest) w (ap is_some ended)))
  elsewhere_by x rest moves e None ne lasts w =
      idle_heard x rest moves e (event_others r x e ne)
      (waits_beside is_caller r moves e (hears x e) x rest (λ same. ne (sym same)) (hears_elsewhere r x e ne lasts) w)

  elsewhere : (x : Happening) (rest : List Happening) (moves : Deeds) (e : End) → told_of x ≢ r →
      Waits is_caller r (x ∷ rest) moves e → HeardAt x rest moves e
  elsewhere x rest moves e ne w = elsewhere_by x rest moves e (hears x e).carrier.ended (λ same. ne (sym same)) refl w

  -- a connection that is gone puts nothing
  gone_none : (x : Happening) (moves : Deeds) (e : End) (b : Bool) → (r == told_of x) ≡ b → Gone is_caller r moves e →
      HasNone r (event_puts x e)
  gone_none x moves e b is g = grind (arith, event_others, unequal, eqb-true, gone_unlinked, event_unlinked)

  -- what its session does then
  spoke : (x : Happening) (input : Input) (moves : Deeds) (e : End) → hears x e ≡ to_session r input e →
      event_puts x e ≡ session_puts r input e →
      StepAt r (session_puts r input e) [] (Course is_caller r) moves (to_session r input e) →
      StepAt r (event_puts x e) [] (Course is_caller r) moves (hears x e)
  spoke x input moves e is puts s = grind (arith, session_puts)

  one_heard : (x : Happening) (rest : List Happening) (moves : Deeds) (e : End) → Waits is_caller r (x ∷ rest) moves e →
      HeardAt x rest moves e
  one_heard x rest moves e (still none course) = elsewhere x rest moves e none.0 (still none course)
  one_heard x rest moves e (away g) =
      idle_heard x rest moves e (gone_none x moves e (r == told_of x) refl g) (away (gone_hears is_caller r moves x e g))
  one_heard x rest moves e (called (inl due) side none just) = elsewhere x rest moves e due.0 (called (inl due) side none just)
  one_heard x rest moves e (called (inr due) side none just) =
      search (arith, opened_new, event_puts, opening_puts, idle_heard, still, called_hears)
  one_heard x rest moves e (answered (inl due) side c terms kept just) =
      elsewhere x rest moves e due.0 (answered (inl due) side c terms kept just)
  one_heard x rest moves e (answered (inr due) side c terms kept just) =
      own_heard x rest moves e
      (spoke x linked_up moves e
      (ap (λ (y : Happening). hears y e) due.0 ∙ opened_of r (value_at r e.lines) (calls_with c) e kept)
      (ap (λ (y : Happening). event_puts y e) due.0 ∙ (grind arith))
      (session_speaks is_caller r moves (calls_with c) linked_up e
      (answered_speaks is_caller r moves e c side terms (known.can c terms) kept just))) due.1
  one_heard x rest moves e (has_come octets (inl due) h) = elsewhere x rest moves e due.0 (has_come octets (inl due) h)
  one_heard x rest moves e (has_come octets (inr due) h) =
      own_heard x rest moves e
      (spoke x (came octets) moves e (ap (λ (y : Happening). hears y e) due.0) (ap (λ (y : Happening). event_puts y e) due.0)
      (session_speaks is_caller r moves h.session (came octets) e (come_speaks known.proper is_caller r octets moves e h))) due.1

  untold_beside : (events : List Happening) (e : End) → Beside r e (with_events events e)
  untold_beside events e = grind arith

  -- and if the carrier has ended, all sessions are lost
  concluded_by : (o : Option EndReason) (moves : Deeds) (e : End) → e.carrier.ended ≡ o → Course is_caller r moves e →
      Course is_caller r moves (concludes e)
  concluded_by None moves e lasts course = subst (Course is_caller r moves) (sym (concludes_lasting e.carrier.ended e lasts)) course
  concluded_by (Some reason) moves e ended course =
      is_gone (gone_same is_caller r moves e (concludes e) (concluded_carrier e)
      (course_over is_caller r moves e e course (ap is_some ended)))

-- ---- at all connections

pub course_given : (is_caller : Bool) (r : ℕ) (moves : Deeds) (e : End) → Course is_caller r moves e → IsGivenIfOpen r e.carrier
course_given is_caller r moves e h = grind (arith, link_shut, gone_unlinked)

waits_given : (is_caller : Bool) (r : ℕ) (events : List Happening) (moves : Deeds) (e : End) → Waits is_caller r events moves e →
    IsGivenIfOpen r e.carrier
waits_given is_caller r events moves e h = grind (arith, course_given, gone_unlinked)

abbrev pub CourseAll : Bool → States
CourseAll is_caller r moves e = Course is_caller r moves e

module _ (known : Known) (is_caller : Bool) where
  abbrev WaitAll : List Happening → States
  WaitAll events r moves e = Waits is_caller r events moves e

  event_heard : (x : Happening) (rest : List Happening) (moves : ℕ → Deeds) (e : End) → HoldEach (WaitAll (x ∷ rest)) moves e →
      Steps is_caller (WaitAll rest) moves e.carrier (hears x e)
  event_heard x rest moves e w =
      step_each is_caller [] (WaitAll rest) moves e.carrier (hears x e) (event_puts x e) [] (event_made x e)
      (event_accounted x e (waits_given is_caller (told_of x) (x ∷ rest) (moves (told_of x)) e (w (told_of x)))) refl
      (λ r some. event_life is_caller r some x e)
      (λ r some. first_of is_caller r e.carrier (hears x e).carrier [] (event_puts x e) tt (event_life is_caller r some x e)
      (λ has was now. (tt, ap (λ (n : ℕ). nat_lt 0 r && nat_le r n) (event_given x e) ∙ has)))
      (λ r. one_heard known is_caller r x rest (moves r) e (w r))

  -- so many of the events
  pub times_heard : (n : ℕ) (events : List Happening) (moves : ℕ → Deeds) (e : End) → e.carrier.events ≡ events →
      HoldEach (WaitAll events) moves e → Steps is_caller (NowAll is_caller) moves e.carrier (hears_times n e)
  times_heard zero events moves e is w =
      step_none is_caller (NowAll is_caller) moves e.carrier e (doing.rests e.carrier) (same_rest e.carrier)
      (λ r. subst (λ (l : List Happening). Waits is_caller r l (moves r) e) (sym is) (w r))
  times_heard (suc n) [] moves e is w =
      subst (Steps is_caller (NowAll is_caller) moves e.carrier) (sym (times_quiet (suc n) e is))
      (step_none is_caller (NowAll is_caller) moves e.carrier e (doing.rests e.carrier) (same_rest e.carrier)
      (λ r. subst (λ (l : List Happening). Waits is_caller r l (moves r) e) (sym is) (w r)))
  times_heard (suc n) (x ∷ rest) moves e is w =
      let mid = hears_next e in
      let one : Steps is_caller (WaitAll rest) moves e.carrier mid =
      subst (Steps is_caller (WaitAll rest) moves e.carrier) (sym (first_is x rest e is))
      (step_since is_caller [] (WaitAll rest) moves e.carrier (with_events rest e).carrier (hears x (with_events rest e))
      (doing.hears rest e.carrier)
      (λ r. (refl, refl))
      (event_heard x rest moves (with_events rest e)
      (λ r. waits_as is_caller r (moves r) e (with_events rest e) (x ∷ rest) (untold_beside known is_caller r rest e) (w r)))) in
      step_then is_caller [] [] (WaitAll rest) (NowAll is_caller) moves e.carrier mid (hears_times n mid) one
      (λ after v. times_heard n rest after mid (rest_is x rest e is) v)

  none_left : (events : List Happening) (e : End) → e.carrier.events ≡ events → (hears_times (length events) e).carrier.events ≡ []
  none_left [] e is = is
  none_left (x ∷ rest) e is = none_left rest (hears_next e) (rest_is x rest e is)

  all_heard : (moves : ℕ → Deeds) (e : End) → HoldEach (NowAll is_caller) moves e →
      Steps is_caller (CourseAll is_caller) moves e.carrier (hears_all e)
  all_heard moves e w =
      step_as is_caller [] (NowAll is_caller) (CourseAll is_caller) moves e.carrier (hears_all e) (hears_all e)
      (times_heard (length e.carrier.events) e.carrier.events moves e refl w) (doing.rests (hears_all e).carrier)
      (same_rest (hears_all e).carrier)
      (λ r after v. waits_none is_caller r after (hears_all e)
      (subst (λ (l : List Happening). Waits is_caller r l after (hears_all e)) (none_left e.carrier.events e refl) v))

  pub attended : (moves : ℕ → Deeds) (e : End) → HoldEach (NowAll is_caller) moves e →
      Steps is_caller (CourseAll is_caller) moves e.carrier (attends e)
  attended moves e w =
      step_as is_caller [] (CourseAll is_caller) (CourseAll is_caller) moves e.carrier (hears_all e) (attends e) (all_heard moves e w)
      (subst (λ (c : Carrier). Makes (hears_all e).carrier [] [] c) (sym (concluded_carrier (hears_all e)))
      (doing.rests (hears_all e).carrier))
      (λ r. (inl (ap (stage_at r) (concluded_carrier (hears_all e))), λ now has. ap (has_given r) (concluded_carrier (hears_all e)) ∙ has))
      (λ r after course. concluded_by known is_caller r (hears_all e).carrier.ended after (hears_all e) refl course)
