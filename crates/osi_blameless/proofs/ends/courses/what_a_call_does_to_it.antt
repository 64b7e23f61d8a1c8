-- A call of the user: what becomes of the course of one connection, whichever connection the call is for.
-- For the course of a connection.
use Rattle.osi_blameless.proofs.ends.Vocabulary.{[], ap, arith, Bool, false, if◌then◌else◌, is_some, length, List, nat_le, nat_lt, None}
use Rattle.osi_blameless.proofs.ends.Vocabulary.{Option}
use Rattle.osi_blameless.proofs.ends.Vocabulary.{option_map, refl, Some, subst, sym, true, ℕ, ◌&&◌, ◌++◌, ◌+◌, ◌<◌, ◌==◌, ◌∙◌, ◌∷◌, ◌≡◌}
use Rattle.osi_blameless.proofs.ends.Vocabulary.{◌≢◌}
use Rattle.osi_blameless.proofs.ends.Vocabulary.{eqb-true, tsap_octets, request, Value, Standing, tsdus_out, push_other, push_here}
use Rattle.osi_blameless.proofs.ends.Vocabulary.{closed_on}
use Rattle.osi_blameless.proofs.ends.Vocabulary.{may_connect, open_link, proposal, IsOrderly, value_at, asked, State as Carrier, EndReason}
use Rattle.osi_blameless.proofs.ends.Vocabulary.{Broken}
use Rattle.osi_blameless.proofs.ends.Vocabulary.{SessionCall as Call, HasSerial, after_input, called, Listener, both, says_is, used_live}
use Rattle.osi_blameless.proofs.ends.Vocabulary.{disconnect_carrier, disconnect_is, given_other, closed_given, open_none, call_error}
use Rattle.osi_blameless.proofs.ends.Vocabulary.{calls_with}
use Rattle.osi_blameless.proofs.ends.Vocabulary.{connect_error, connects, has_given, terms_error, disconnect_error, disconnects, ends}
use Rattle.osi_blameless.proofs.ends.Vocabulary.{IsAccepted}
use Rattle.osi_blameless.proofs.ends.Vocabulary.{IsGranted, kept_at, to_session, user_does, UserCall, breaking, calling, connecting}
use Rattle.osi_blameless.proofs.ends.Vocabulary.{disconnecting}
use Rattle.osi_blameless.proofs.ends.Vocabulary.{End, fresh_line, session_in, Request as Connect, sends, Course, Deeds, Gone, IsOpen}
use Rattle.osi_blameless.proofs.ends.Vocabulary.{IsShut}
use Rattle.osi_blameless.proofs.ends.Vocabulary.{said_in, awaited, is_gone, is_open, unknown, closed, Marked, History, said_after}
use Rattle.osi_blameless.proofs.ends.Vocabulary.{HasSerialIn}
use Rattle.osi_blameless.proofs.ends.Vocabulary.{never, over, put_closing}
use Rattle.osi_stack.specs.Calls.{breaks}
use Rattle.osi_blameless.specs.ends.Doing as doing
use Rattle.osi_blameless.specs.ends.Talking as history
use Rattle.osi_blameless.proofs.ends.at_any_time.what_a_session_sends_fits.{still_begun, granted_proper}
use Rattle.osi_blameless.proofs.ends.at_any_time.an_end_that_is_over_does_nothing.{never_lasts}
use Rattle.osi_blameless.proofs.ends.courses.a_connection_without_a_unit.{connect_rests, given_up_rests, session_life}
use Rattle.osi_blameless.proofs.ends.courses.steps_of_a_course.{HasNone, HoldEach, StepAt, Steps, step_each, step_idle}
use Rattle.osi_blameless.proofs.ends.links.the_first_cc_opens_a_connection.{StaysGiven, first_of, given_more, session_given}
use Rattle.osi_blameless.proofs.ends.links.units_of_each_connection.{AreAccounted, marked, none_marked, nowhere, unequal}
use Rattle.osi_blameless.proofs.ends.courses.what_a_session_puts.{Puts, closing_accounted, closing_puts, session_accounted}
use Rattle.osi_blameless.proofs.ends.courses.what_a_session_puts.{session_others, session_puts, session_made}
use Rattle.osi_blameless.proofs.ends.courses.what_sessions_hear_of_it.{CourseAll, course_given}
use Rattle.osi_blameless.proofs.ends.links.what_a_link_takes_and_is_handed.{closed_leaves, closed_shut, link_shut}
use Rattle.osi_blameless.proofs.ends.links.what_a_unit_does_to_a_connection.{given_next, next_ungiven}
use Rattle.osi_blameless.proofs.ends.links.what_another_connection_leaves.{Beside, course_beside, course_over, gone_same, session_beside}
use Rattle.osi_blameless.proofs.ends.links.what_another_connection_leaves.{used_none}
use Rattle.osi_blameless.proofs.ends.links.how_long_a_connection_is_open.{Life, life_rests, rests_over, stage_at}
use Rattle.osi_blameless.proofs.ends.courses.what_its_own_session_does.{CanSpeak, session_speaks}
use Rattle.osi_blameless.proofs.ends.reading.a_cr_and_a_cc_can_be_written.{cr_by}

-- the CR of a request
abbrev request_put : Connect → End → List Value
request_put c e =
    request (proposal e.carrier.local e.carrier.class (option_map tsap_octets c.calling_tsap) (option_map tsap_octets c.called_tsap)
    (e.carrier.given + 1)) ∷ []

module _ (is_caller : Bool) (r : ℕ) (moves : Deeds) (e : End) (lasts : e.carrier.ended ≡ None) where
  abbrev Then : List Marked → End → Type 0
  Then put new = StepAt r put [] (Course is_caller r) moves new

  -- nothing is done at this connection
  idle : (put : List Marked) (new : End) → HasNone r put → Course is_caller r moves new → Then put new
  idle put new none course = step_idle r put [] (Course is_caller r) moves new none (λ some. refl) course

  -- a call for another connection
  others_by : (put : List Marked) (new : End) (o : Option EndReason) → new.carrier.ended ≡ o → HasNone r put →
      (new.carrier.ended ≡ None → Beside r e new) → Course is_caller r moves e → Then put new
  others_by put new None is none b course = idle put new none (course_beside is_caller r moves e new (b is) course)
  others_by put new (Some reason) is none b course =
      idle put new none (is_gone (course_over is_caller r moves e new course (ap is_some is)))

  others : (put : List Marked) (new : End) → HasNone r put → (new.carrier.ended ≡ None → Beside r e new) →
      Course is_caller r moves e → Then put new
  others put new none b course = others_by put new new.carrier.ended refl none b course

  -- ---- a request

  -- a connection with the next reference is awaited
  connects_next : (c : Connect) → connect_error c e ≡ None → r ≡ e.carrier.given + 1 → Course is_caller r moves e →
      Course is_caller r moves (connects c e)
  connects_next c allowed next (unknown none side free live lines) =
      let may = open_none (may_connect e.carrier) (terms_error c) allowed in
      let here : value_at r (connects c e).carrier.live ≡ Some asked =
      ap (λ (n : ℕ). value_at r (e.carrier.live ++ (n, asked) ∷ [])) (sym next) ∙ push_here r asked e.carrier.live live in
      let line : value_at r (e.lines ++ (e.carrier.given + 1, fresh_line (calls_with c)) ∷ []) ≡ Some (fresh_line (calls_with c)) =
      grind (arith, push_here) in
      awaited none c (grind arith)
      (sym side ∙ (grind arith)) lasts
      (ap (λ (n : ℕ). nat_lt 0 n && nat_le n (e.carrier.given + 1)) next ∙ given_next e.carrier.given) here
      (grind (arith, used_live))
  connects_next c allowed next (awaited none d terms side was given here kept) = grind (arith, both, next_ungiven)
  connects_next c allowed next (is_open given o) = grind (arith, both, next_ungiven)
  connects_next c allowed next (is_gone (closed at calls is session speaks given shut)) = grind (arith, both, next_ungiven)
  connects_next c allowed next (is_gone (over at calls heard unheard is session speaks parts none ended)) = grind (arith, never_lasts)
  connects_next c allowed next (is_gone (never none ended)) = absurd (never_lasts e.carrier.ended ended lasts)

  connects_other : (c : Connect) → r ≢ e.carrier.given + 1 → Beside r e (connects c e)
  connects_other c ne = grind (arith, push_other, used_none, used_live)

  connect_steps : (c : Connect) (b : Bool) → (r == e.carrier.given + 1) ≡ b → connect_error c e ≡ None → Course is_caller r moves e →
      Then (marked 0 (request_put c e)) (connects c e)
  connect_steps c true is allowed course = search (arith, idle, nowhere, connects_next, eqb-true)
  connect_steps c false is allowed course = search (arith, others, nowhere, connects_other, unequal)

  -- ---- a call of the session

  open_speaks : (call : Call) (o : IsOpen is_caller r moves e) → has_given r e.carrier ≡ true → HasSerial call →
      IsGranted r call o.session e.carrier → CanSpeak is_caller r moves o.session (called call) e
  open_speaks call o given serial g = record {
    peer = o.peer;
    first = o.calls.first;
    link = o.calls.link;
    lasts = o.lasts;
    given = given;
    here = o.here;
    fresh = o.calls.fresh;
    along = o.calls.along;
    handed = o.calls.handed;
    put = o.calls.put;
    kept = o.kept;
    proper = granted_proper r call o.session e.carrier g;
    begun = still_begun o.session (called call) o.begun;
    begin = o.speaks.begin;
    new = o.speaks.new;
    history = subst (λ (b : Bool). History o.speaks.begin (tsdus_out moves.calls)
        (said_in 0 moves.calls ++ said_after (length (tsdus_out moves.calls)) (sends o.session (called call))) b
        (after_input o.session (called call)))
        (sym g.closes) (history.calls (tsdus_out moves.calls) (said_in 0 moves.calls) false o.session call o.speaks.history serial);
  }

  own_call : (call : Call) → call_error r call e ≡ None → HasSerial call → Course is_caller r moves e →
      Then (session_puts r (called call) e) (to_session r (called call) e)
  own_call call allowed serial (unknown none side free live lines) = grind (arith, never_lasts, says_is)
  own_call call allowed serial (awaited none c terms side was given here kept) = grind (arith, never_lasts, says_is r call e allowed)
  own_call call allowed serial (is_gone (closed at calls is session speaks given shut)) =
      absurd (never_lasts (open_link r e.carrier) (says_is r call e allowed).granted.opened (link_shut r e.carrier shut))
  own_call call allowed serial (is_gone (over at calls heard unheard is session speaks parts none ended)) = grind (arith, never_lasts)
  own_call call allowed serial (is_gone (never none ended)) = absurd (never_lasts e.carrier.ended ended lasts)
  own_call call allowed serial (is_open given o) =
      let says = says_is r call e allowed in
      let there : kept_at r e.lines ≡ Some says.acts.session = ap session_in says.acts.here ∙ says.acts.is in
      let same : says.acts.session ≡ o.session = cc in
      session_speaks is_caller r moves o.session (called call) e
      (open_speaks call o given serial (subst (λ (s : Listener). IsGranted r call s e.carrier) same says.granted))

  call_steps : (q : ℕ) (call : Call) (b : Bool) → (r == q) ≡ b → call_error q call e ≡ None → HasSerial call →
      Course is_caller r moves e → Then (session_puts q (called call) e) (to_session q (called call) e)
  call_steps q call true is allowed serial course =
      let same = eqb-true r q is in
      subst (λ (n : ℕ). Then (session_puts n (called call) e) (to_session n (called call) e)) same
      (own_call call (ap (λ (n : ℕ). call_error n call e) same ∙ allowed) serial course)
  call_steps q call false is allowed serial course = search (arith, others, session_others, unequal, session_beside)

  -- ---- a connection is given up

  abbrev closed_puts : ℕ → List Value
  closed_puts q = put_closing q 128 (open_link q e.carrier) e.carrier.class

  gone_given : Gone is_caller r moves e → Course is_caller r moves (disconnects r e)
  gone_given (closed at calls is session speaks given shut) =
      is_gone (gone_same is_caller r moves e (disconnects r e)
      (disconnect_carrier r e ∙ ap (λ (o : Option (ℕ × Standing)). closed_on r 128 o e.carrier) (link_shut r e.carrier shut))
      (closed at calls is session speaks given shut))
  gone_given (over at calls heard unheard is session speaks parts none ended) = absurd (never_lasts e.carrier.ended ended lasts)
  gone_given (never none ended) = absurd (never_lasts e.carrier.ended ended lasts)

  own_given : (o : Option EndReason) → (disconnects r e).carrier.ended ≡ o → disconnect_error r e ≡ None → Course is_caller r moves e →
      Course is_caller r moves (disconnects r e)
  own_given (Some reason) ended allowed course = is_gone (course_over is_caller r moves e (disconnects r e) course (ap is_some ended))
  own_given None still allowed (unknown none side free live lines) = grind (arith, both)
  own_given None still allowed (awaited none c terms side was given here kept) = grind (arith, both)
  own_given None still allowed (is_open given o) =
      let carrier = disconnect_carrier r e in
      let shut = closed_shut r o.peer o.calls.link e.carrier lasts o.here (sym (ap (λ (c : Carrier). c.ended) carrier) ∙ still) in
      is_gone (closed o.peer o.calls false o.session o.speaks
      (ap (has_given r) carrier ∙ ap (λ (n : ℕ). nat_lt 0 r && nat_le r n) (closed_given r 128 (open_link r e.carrier) e.carrier) ∙ given)
      (subst IsShut (sym (ap (λ (c : Carrier). value_at r c.live) carrier ∙ shut)) tt))
  own_given None still allowed (is_gone g) = gone_given g

  other_given : (q : ℕ) → r ≢ q → (disconnects q e).carrier.ended ≡ None → Beside r e (disconnects q e)
  other_given q ne still = grind (arith, disconnect_carrier, closed_leaves, disconnect_is, given_other)

  given_steps : (q : ℕ) (b : Bool) → (r == q) ≡ b → disconnect_error q e ≡ None → Course is_caller r moves e →
      Then (marked 0 (closed_puts q)) (disconnects q e)
  given_steps q true is allowed course =
      let same = eqb-true r q is in
      subst (λ (n : ℕ). Then (marked 0 (closed_puts n)) (disconnects n e)) same
      (idle (marked 0 (closed_puts r)) (disconnects r e) (nowhere r (closed_puts r))
      (own_given (disconnects r e).carrier.ended refl (ap (λ (n : ℕ). disconnect_error n e) same ∙ allowed) course))
  given_steps q false is allowed course = search (arith, others, nowhere, other_given, unequal)

  -- ---- the byte connection breaks

  break_is : breaks e ≡ ends Broken e
  break_is = ap (λ (b : Bool). if b then e else ends Broken e) (ap is_some lasts)

  break_steps : Course is_caller r moves e → Then [] (breaks e)
  break_steps course =
      subst (Then []) (sym break_is)
      (idle [] (ends Broken e) (λ some. refl) (is_gone (course_over is_caller r moves e (ends Broken e) course refl)))

-- ---- at all connections

module _ (is_caller : Bool) (moves : ℕ → Deeds) (e : End) (lasts : e.carrier.ended ≡ None)
    (orderly : IsOrderly e.carrier) (course : HoldEach (CourseAll is_caller) moves e) where
  abbrev AllThen : End → Type 0
  AllThen new = Steps is_caller (CourseAll is_caller) moves e.carrier new

  each_then : (new : End) (put : List Marked) → Puts e.carrier put new.carrier → AreAccounted put →
      ((r : ℕ) → 0 < r → Life is_caller r (stage_at r e.carrier) [] put (stage_at r new.carrier)) →
      ((r : ℕ) → StaysGiven r e.carrier new.carrier) → ((r : ℕ) → StepAt r put [] (Course is_caller r) (moves r) new) → AllThen new
  each_then new put made accounted life stays each =
      step_each is_caller [] (CourseAll is_caller) moves e.carrier new put [] made accounted refl life
      (λ r some. first_of is_caller r e.carrier new.carrier [] put tt (life r some) (λ has was now. (tt, stays r now has))) each

  pub user_steps : (call : UserCall) → IsAccepted call e → HasSerialIn call → AllThen (user_does call e)
  user_steps (connecting c) allowed serial =
      each_then (connects c e) (marked 0 (request_put c e))
      (doing.asks_for (option_map tsap_octets c.calling_tsap) (option_map tsap_octets c.called_tsap) e.carrier
      (open_none (may_connect e.carrier) (terms_error c) allowed)) (
        grind (arith, cr_by),
        tt,
      )
      (search (arith, life_rests, stage_at, marked, none_marked, connect_rests))
      (λ r now has. given_more r e.carrier.given (e.carrier.given + 1) (omega arith) has)
      (λ r. connect_steps is_caller r (moves r) e lasts c (r == e.carrier.given + 1) refl allowed (course r))
  user_steps (calling q call) allowed serial =
      each_then (to_session q (called call) e) (session_puts q (called call) e) (session_made q (called call) e)
      (session_accounted q (called call) e (course_given is_caller q (moves q) e (course q)))
      (λ r some. session_life is_caller q r some (called call) e)
      (λ r now has. ap (λ (n : ℕ). nat_lt 0 r && nat_le r n) (session_given q (called call) e) ∙ has)
      (λ r. call_steps is_caller r (moves r) e lasts q call (r == q) refl allowed serial (course r))
  user_steps (disconnecting q) allowed serial =
      let put : List Marked = marked 0 (put_closing q 128 (open_link q e.carrier) e.carrier.class) in
      each_then (disconnects q e) put
      (subst (Puts e.carrier put) (sym (disconnect_carrier q e)) (closing_puts q e.carrier)) (closing_accounted q e.carrier)
      (λ r some. subst (λ (c : Carrier). Life is_caller r (stage_at r e.carrier) [] put (stage_at r c)) (sym (disconnect_carrier q e))
      (search (arith, life_rests, stage_at, none_marked, put_closing, given_up_rests)))
      (grind (arith, disconnect_carrier, closed_given))
      (λ r. given_steps is_caller r (moves r) e lasts q (r == q) refl allowed (course r))
  user_steps breaking allowed serial =
      each_then (breaks e) []
      (subst (λ (x : End). Puts e.carrier [] x.carrier) (sym (break_is is_caller 0 (moves 0) e lasts)) (doing.ends_so Broken e.carrier)) tt
      (grind (arith, life_rests, stage_at, rests_over, break_is))
      (λ r now has. ap (λ (x : End). has_given r x.carrier) (break_is is_caller 0 (moves 0) e lasts) ∙ has)
      (λ r. break_steps is_caller r (moves r) e lasts (course r))
