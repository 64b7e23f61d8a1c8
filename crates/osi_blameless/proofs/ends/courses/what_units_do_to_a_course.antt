-- Units that arrive, one after the other: what becomes of the course of one connection, before the sessions hear of it.
-- For the course of a connection.
use Rattle.osi_blameless.proofs.ends.Vocabulary.{[], ap, arith, Bool, false, inl, inr, is_some, IsSome, IsTrue, List, map, None, Ok, Option}
use Rattle.osi_blameless.proofs.ends.Vocabulary.{refl}
use Rattle.osi_blameless.proofs.ends.Vocabulary.{Some, subst, sym, take, true, ℕ, ◌++◌, ◌<◌, ◌==◌, ◌∙◌, ◌∷◌, ◌≡◌, ◌≢◌, append-nil, eqb-true}
use Rattle.osi_blameless.proofs.ends.Vocabulary.{units_fit, AreUnits, may_be_followed, Value, Fits, all_given, Standing, taken, unit_of}
use Rattle.osi_blameless.proofs.ends.Vocabulary.{Move}
use Rattle.osi_blameless.proofs.ends.Vocabulary.{tsdus_in, tsdus_out, Zero, Local, react_over, absent, put_here, told_opened as opened}
use Rattle.osi_blameless.proofs.ends.Vocabulary.{tsdu}
use Rattle.osi_blameless.proofs.ends.Vocabulary.{opened_link, connection_of, RiseFrom, pumped, written_by, handed_out, reacts, settles}
use Rattle.osi_blameless.proofs.ends.Vocabulary.{Rows}
use Rattle.osi_blameless.proofs.ends.Vocabulary.{value_at, asked, Connection, linked, State as Carrier, EndReason, Listener, both}
use Rattle.osi_blameless.proofs.ends.Vocabulary.{along_units, calls_with, has_given, terms_error, with_carrier, End, Request as Connect}
use Rattle.osi_blameless.proofs.ends.Vocabulary.{AreCalls}
use Rattle.osi_blameless.proofs.ends.Vocabulary.{Course, Deeds, Gone, IsFreshLink, IsNew, IsOpen, IsShut, no_deeds, Speaks, then_did}
use Rattle.osi_blameless.proofs.ends.Vocabulary.{units_given}
use Rattle.osi_blameless.proofs.ends.Vocabulary.{units_taken, awaited, is_gone, is_open, unknown, closed, never, react, over, state_is}
use Rattle.osi_blameless.proofs.ends.Vocabulary.{outcome, put_for, Outcome, Makes, outcome_over}
use Rattle.osi_blameless.specs.ends.Doing as doing
use Rattle.osi_blameless.specs.ends.Talking as history
use Rattle.osi_blameless.proofs.ends.at_any_time.an_end_that_is_over_does_nothing.{never_lasts}
use Rattle.osi_blameless.proofs.ends.links.how_long_a_connection_is_open.{Life, stage_at}
use Rattle.osi_blameless.proofs.ends.courses.steps_of_a_course.{HoldEach, StepAt, States, StepsBy, done_by, same_rest, step_as, step_each}
use Rattle.osi_blameless.proofs.ends.courses.steps_of_a_course.{step_idle, step_none, step_then}
use Rattle.osi_blameless.proofs.ends.links.the_connections_of_each_class.{IsSound, sound_unit}
use Rattle.osi_blameless.proofs.ends.links.the_first_cc_opens_a_connection.{FirstOf, first_of, unit_not_cc}
use Rattle.osi_blameless.proofs.ends.links.units_of_each_connection.{elsewhere, given_accounted, marked, marked_all, marked_own, nowhere}
use Rattle.osi_blameless.proofs.ends.links.units_of_each_connection.{plain_accounted, unequal}
use Rattle.osi_blameless.proofs.ends.links.what_a_link_takes_and_is_handed.{HasFew, takes_in}
use Rattle.osi_blameless.proofs.ends.links.what_a_unit_does_to_a_connection.{Acts, Does, NoneOf, acts_elsewhere, none_more, unit_does}
use Rattle.osi_blameless.proofs.ends.links.what_a_unit_does_to_a_connection.Acts.{answers_it, joins, leaves_it, rests}
use Rattle.osi_blameless.proofs.ends.links.what_a_unit_does_to_a_connection.Acts.{over as carrier_over}
use Rattle.osi_blameless.proofs.ends.links.what_a_unit_does_to_a_connection.Does.{passes, takes}
use Rattle.osi_blameless.proofs.ends.links.what_another_connection_leaves.{Beside, course_beside, course_over, gone_beside, gone_over}
use Rattle.osi_blameless.proofs.ends.links.what_calls_of_a_link_say.{along_more, none_said, out_more, put_more, said_more}
use Rattle.osi_blameless.proofs.ends.courses.what_waits_to_be_heard.{Due, JustOpened, Waits, due_last}
use Rattle.osi_blameless.proofs.ends.courses.what_waits_to_be_heard.Waits.{answered, away, came, still}
use Rattle.osi_blameless.proofs.ends.courses.which_connection_a_unit_is_for.{elsewhere_deaf, passed_life, taken_life}

-- ---- no event of this connection waits

pub data Calm (is_caller : Bool) (r : ℕ) (moves : Deeds) (e : End) : Type 0 where
  is_still : NoneOf r e.carrier.events → Course is_caller r moves e → Calm is_caller r moves e
  is_away : Gone is_caller r moves e → Calm is_caller r moves e

-- one may wait
abbrev pub Now : Bool → ℕ → Deeds → End → Type 0
Now is_caller r moves e = Waits is_caller r e.carrier.events moves e

-- as after a unit: none waits if others may follow the unit in its packet
abbrev pub After : Bool → ℕ → Value → Deeds → End → Type 0
After is_caller r v moves e = Now is_caller r moves e × (may_be_followed v ≡ true → Calm is_caller r moves e)

pub calm_now : (is_caller : Bool) (r : ℕ) (moves : Deeds) (e : End) → Calm is_caller r moves e → Now is_caller r moves e
calm_now is_caller r moves e (is_still none course) = still none course
calm_now is_caller r moves e (is_away g) = away g

pub calm_over : (is_caller : Bool) (r : ℕ) (moves : Deeds) (old new : End) → Calm is_caller r moves old → IsSome new.carrier.ended →
    Gone is_caller r moves new
calm_over is_caller r moves old new (is_still none course) ended = course_over is_caller r moves old new course ended
calm_over is_caller r moves old new (is_away g) ended = gone_over is_caller r moves old new g ended

calm_after : (is_caller : Bool) (r : ℕ) (v : Value) (moves : Deeds) (e : End) → Calm is_caller r moves e → After is_caller r v moves e
calm_after is_caller r v moves e calm = (calm_now is_caller r moves e calm, λ followed. calm)

-- if no unit may follow, one may wait
last_after : (is_caller : Bool) (r : ℕ) (v : Value) (moves : Deeds) (e : End) → may_be_followed v ≡ false → Now is_caller r moves e →
    After is_caller r v moves e
last_after is_caller r v moves e alone now = (now, λ followed. absurd (let both : true ≡ false = sym followed ∙ alone in cc))

-- ---- what was said before stays so

more_said : (is_caller : Bool) (moves more : List Move) (is_closed : Bool) (session : Listener) → tsdus_out more ≡ [] → tsdus_in more ≡ [] →
    Speaks is_caller moves is_closed session → Speaks is_caller (moves ++ more) is_closed session
more_said is_caller moves more is_closed session none into s = grind (arith, out_more, append-nil, said_more, none_said)

-- no call was made yet
pub no_calls : (peer : ℕ) (local : Local) (moves : Deeds) → moves ≡ no_deeds → AreCalls peer moves
no_calls peer local moves none =
    let link : Standing = opened_link Zero None local 0 in
    subst (AreCalls peer) (sym none)
    (record {
      first = link;
      link = link;
      fresh = record { class = Zero; size = None; local = local; credit = 0; is = refl };
      along = refl;
      handed = refl;
      put = refl;
    })

-- nothing was said yet
pub unsaid : (is_caller : Bool) (moves : Deeds) (begin : Listener) → moves ≡ no_deeds → IsNew is_caller begin →
    Speaks is_caller moves.calls false begin
unsaid is_caller moves begin none is_new =
    subst (λ (d : Deeds). Speaks is_caller d.calls false begin) (sym none)
    (record { begin = begin; new = is_new; history = history.begins })

pub request_new : (is_caller : Bool) (c : Connect) → is_caller ≡ true → terms_error c ≡ None → IsNew is_caller (calls_with c)
request_new is_caller c side terms = subst (λ (b : Bool). IsNew b (calls_with c)) (sym side) (c, terms, refl)

-- ---- one unit

module _ (is_caller : Bool) (r : ℕ) (moves : Deeds) (v : Value) (e : End) (h : IsSound e.carrier) where
  abbrev new : End
  new = with_carrier (react v e.carrier) e

  -- its link takes the unit, and gives these
  abbrev Took : ℕ → Standing → Type 0
  Took peer after = StepAt r (marked r (written_by peer (handed_out after))) (marked r (v ∷ [])) (After is_caller r v) moves new

  -- its link takes no unit
  abbrev Idle : Type 0
  Idle = After is_caller r v moves new

  module _ (lasts : new.carrier.ended ≡ None) (lasted : e.carrier.ended ≡ None) where
    beside : value_at r new.carrier.live ≡ value_at r e.carrier.live → has_given r new.carrier ≡ has_given r e.carrier → Beside r e new
    beside live given = grind (arith, along_units (v ∷ []) e.carrier h.orderly)

    -- ---- its link takes the unit

    -- what is done with these calls
    own_step : (peer : ℕ) (calls : List Move) (after : Standing) → units_taken calls ≡ v ∷ [] →
        units_given calls ≡ all_given (handed_out after) → After is_caller r v (then_did moves (done_by peer calls)) new → Took peer after
    own_step peer calls after took given there = record {
      more = done_by peer calls;
      there = there;
      own = λ some. ap (map (unit_of peer)) given ∙ sym (marked_own r (written_by peer (handed_out after)));
      taken = λ some. took ∙ sym (marked_own r (v ∷ []));
    }

    took : has_given r e.carrier ≡ true → (o : IsOpen is_caller r moves e) → (after : Standing) → taken o.calls.link v ≡ Ok after →
        react v e.carrier ≡ (settles r o.peer after e.carrier).state → NoneOf r e.carrier.events →
        HasFew v after.ends.joining.whole → Took o.peer after
    took given o after is then_is none (inl nothing) =
        let t = takes_in o.calls.link after v [] nothing (inl refl) is in
        let events : new.carrier.events ≡ e.carrier.events = grind (arith, append-nil) in
        own_step o.peer t.moves after t.took t.given
        (calm_after is_caller r v (then_did moves (done_by o.peer t.moves)) new (is_still (subst (NoneOf r) (sym events) none)
        (is_open (ap (has_given r) then_is ∙ given) (record {
          peer = o.peer;
          calls = search (arith, along_more, put_more);
          session = o.session;
          lasts = lasts;
          here = grind (arith, put_here);
          kept = o.kept;
          speaks = more_said is_caller moves.calls t.moves false o.session t.out t.into o.speaks;
          begun = o.begun;
        }))))
    took given o after is then_is none (inr (octets, one, alone)) =
        let t = takes_in o.calls.link after v (octets ∷ []) one (inr (octets, refl, alone)) is in
        let events : new.carrier.events ≡ e.carrier.events ++ tsdu r octets ∷ [] =
        ap (λ (c : Carrier). c.events) then_is ∙ ap (λ (l : List (List ℕ)). e.carrier.events ++ map (tsdu r) (take 1 l)) one in
        own_step o.peer t.moves after t.took t.given
        (last_after is_caller r v (then_did moves (done_by o.peer t.moves)) new alone
        (came octets (subst (Due r (tsdu r octets)) (sym events) (due_last r (tsdu r octets) e.carrier.events none)) (record {
          peer = o.peer;
          first = o.calls.first;
          link = pumped (handed_out after);
          session = o.session;
          before = moves.calls;
          now = t.moves;
          parts = refl;
          into = t.into;
          out = t.out;
          lasts = lasts;
          given = ap (has_given r) then_is ∙ given;
          here = ap (λ (c : Carrier). value_at r c.live) then_is
              ∙ put_here r (linked o.peer (pumped (handed_out after))) (linked o.peer o.calls.link) e.carrier.live o.here;
          fresh = o.calls.fresh;
          along = along_more moves.calls t.moves o.calls.first o.calls.link (pumped (handed_out after)) o.calls.along t.along;
          handed = t.handed;
          put = put_more o.peer moves.calls t.moves moves.put o.calls.put;
          kept = o.kept;
          speaks = o.speaks;
          begun = o.begun;
        })))

    -- ---- by what may happen

    -- no connection has two states
    two_states : {A : Type 0} (x y : Option Connection) → value_at r e.carrier.live ≡ x → value_at r e.carrier.live ≡ y → (x ≡ y → A) → A
    two_states x y a b differ = differ (sym a ∙ b)

    takes_open : has_given r e.carrier ≡ true → (o : IsOpen is_caller r moves e) → (peer : ℕ) (link after : Standing) →
        value_at r e.carrier.live ≡ Some (linked peer link) → taken link v ≡ Ok after →
        react v e.carrier ≡ (settles r peer after e.carrier).state → NoneOf r e.carrier.events → Took peer after
    takes_open given o peer link after here is then_is none =
        let one : Some (linked peer link) ≡ Some (linked o.peer o.calls.link) = sym here ∙ o.here in
        let peers : peer ≡ o.peer = cc in
        let links : link ≡ o.calls.link = cc in
        let took_it : taken o.calls.link v ≡ Ok after = ap (λ (l : Standing). taken l v) (sym links) ∙ is in
        search (arith, took)

    opens_now : may_be_followed v ≡ false → has_given r new.carrier ≡ true → (peer : ℕ) (first : Standing) → IsFreshLink first →
        moves ≡ no_deeds →
        value_at r new.carrier.live ≡ Some (linked peer first) → JustOpened r moves new
    opens_now alone given peer first fresh none here = grind arith

    module _ (none : NoneOf r e.carrier.events) where
      joins_now : Course is_caller r moves e → e.carrier.is_caller ≡ false → may_be_followed v ≡ false → has_given r e.carrier ≡ false →
          has_given r new.carrier ≡ true → (peer : ℕ) (first : Standing) → IsFreshLink first →
          (value_at r e.carrier.live ≡ None → value_at r new.carrier.live ≡ Some (linked peer first)) →
          new.carrier.events ≡ e.carrier.events ++ opened r ∷ [] → Idle
      joins_now h called_end alone free given peer first fresh here events = grind (arith, due_last)

      answers_now : Course is_caller r moves e → may_be_followed v ≡ false → value_at r e.carrier.live ≡ Some asked →
          has_given r new.carrier ≡ has_given r e.carrier → (peer : ℕ) (first : Standing) → IsFreshLink first →
          value_at r new.carrier.live ≡ Some (linked peer first) → new.carrier.events ≡ e.carrier.events ++ opened r ∷ [] → Idle
      answers_now (unknown no_moves side ungiven live lines) alone was same peer first fresh here events =
          two_states (Some asked) None was live (λ no. absurd (cc))
      answers_now (awaited no_moves c terms side lasts given live kept) alone was same peer first fresh here events =
          last_after is_caller r v moves new alone
          (answered (subst (Due r (opened r)) (sym events) (due_last r (opened r) e.carrier.events none)) side c terms kept
          (opens_now alone (same ∙ given) peer first fresh no_moves here))
      answers_now (is_open given o) alone was same peer first fresh here events =
          two_states (Some asked) (Some (linked o.peer o.calls.link)) was o.here (λ no. absurd (cc))
      answers_now (is_gone (closed at calls is session speaks given shut)) alone was same peer first fresh here events =
          absurd (subst IsShut was shut)
      answers_now (is_gone (over at calls heard unheard is session speaks parts into ended)) alone was same peer first fresh here events =
          absurd (never_lasts e.carrier.ended ended lasted)
      answers_now (is_gone (never no_moves ended)) alone was same peer first fresh here events =
          absurd (never_lasts e.carrier.ended ended lasted)

      takes_now : Course is_caller r moves e → (peer : ℕ) (link after : Standing) → value_at r e.carrier.live ≡ Some (linked peer link) →
          taken link v ≡ Ok after → react v e.carrier ≡ (settles r peer after e.carrier).state → Took peer after
      takes_now h peer link after here is then_is = search (arith, two_states, takes_open, never_lasts)

      leaves_now : Course is_caller r moves e → (x : Connection) → value_at r e.carrier.live ≡ Some x →
          has_given r new.carrier ≡ has_given r e.carrier → IsShut (value_at r new.carrier.live) → Gone is_caller r moves new
      leaves_now (unknown no_moves side ungiven live lines) x here same then_shut = grind (arith, two_states)
      leaves_now (awaited no_moves c terms side lasts given live kept) x here same then_shut =
          closed 0 (no_calls 0 e.carrier.local moves no_moves) false (calls_with c)
          (unsaid is_caller moves (calls_with c) no_moves (request_new is_caller c side terms)) (same ∙ given) then_shut
      leaves_now (is_open given o) x here same then_shut = closed o.peer o.calls false o.session o.speaks (same ∙ given) then_shut
      leaves_now (is_gone (closed at calls is session speaks given shut)) x here same then_shut =
          closed at calls is session speaks (same ∙ given) then_shut
      leaves_now (is_gone (over at calls heard unheard is session speaks parts into ended)) x here same then_shut =
          absurd (never_lasts e.carrier.ended ended lasted)
      leaves_now (is_gone (never no_moves ended)) x here same then_shut = absurd (never_lasts e.carrier.ended ended lasted)

      on_still : {units : List Value} → Course is_caller r moves e → Acts r v units e.carrier (react v e.carrier) → Idle
      on_still course (carrier_over ended) = absurd (never_lasts new.carrier.ended ended lasts)
      on_still course (rests live given told events others deaf) =
          calm_after is_caller r v moves new
          (is_still (subst (NoneOf r) (sym events) (none_more r e.carrier.events told none others))
          (course_beside is_caller r moves e new (beside live given) course))
      on_still course (joins called_end alone free given peer first fresh here events opener answer) =
          joins_now course called_end alone free given peer first fresh here events
      on_still course (answers_it alone was same peer first fresh here events opener answer) =
          answers_now course alone was same peer first fresh here events
      on_still course (leaves_it x here same shut) = calm_after is_caller r v moves new (is_away (leaves_now course x here same shut))

    on_away : {units : List Value} → Gone is_caller r moves e → Acts r v units e.carrier (react v e.carrier) → Idle
    on_away (over at calls heard unheard is session speaks parts into ended) act = absurd (never_lasts e.carrier.ended ended lasted)
    on_away (never no_moves ended) act = absurd (never_lasts e.carrier.ended ended lasted)
    on_away (closed at calls is session speaks given shut) (carrier_over ended) = absurd (never_lasts new.carrier.ended ended lasts)
    on_away (closed at calls is session speaks given shut) (rests live same told events others deaf) =
        calm_after is_caller r v moves new
        (is_away (gone_beside is_caller r moves e new (beside live same) (closed at calls is session speaks given shut)))
    on_away (closed at calls is session speaks given shut) (joins called_end alone free then_given peer first fresh here events opener
        answer) =
        both (has_given r e.carrier) given free
    on_away (closed at calls is session speaks given shut) (answers_it alone was same peer first fresh here events opener answer) =
        absurd (subst IsShut was shut)
    on_away (closed at calls is session speaks given shut) (leaves_it x here same then_shut) =
        calm_after is_caller r v moves new (is_away (closed at calls is session speaks (same ∙ given) then_shut))

    on_calm : {units : List Value} → Calm is_caller r moves e → Acts r v units e.carrier (react v e.carrier) → Idle
    on_calm (is_still none course) act = on_still none course act
    on_calm (is_away g) act = on_away g act

    take_calm : Calm is_caller r moves e → (peer : ℕ) (link after : Standing) → value_at r e.carrier.live ≡ Some (linked peer link) →
        taken link v ≡ Ok after → react v e.carrier ≡ (settles r peer after e.carrier).state → Took peer after
    take_calm h peer link after here is then_is = grind (arith, takes_now, never_lasts)

  -- ---- a unit that its link doesn't take

  ended_idle : Calm is_caller r moves e → IsSome new.carrier.ended → Idle
  ended_idle calm ended = calm_after is_caller r v moves new (is_away (calm_over is_caller r moves e new calm ended))

  idle_by : {units : List Value} (o : Option EndReason) → new.carrier.ended ≡ o → e.carrier.ended ≡ None → Calm is_caller r moves e →
      (new.carrier.ended ≡ None → Acts r v units e.carrier (react v e.carrier)) → Idle
  idle_by (Some reason) ended lasted calm act = ended_idle calm (ap is_some ended)
  idle_by None lasts lasted calm act = on_calm lasts lasted calm (act lasts)

  -- as of its own connection, or as of another one
  idle_at : (units : List Value) (q : ℕ) (b : Bool) → (r == q) ≡ b → q ≡ connection_of v e.carrier → e.carrier.ended ≡ None →
      Calm is_caller r moves e →
      Acts q v units e.carrier (react v e.carrier) → Idle
  idle_at units q true same is lasted calm act =
      idle_by new.carrier.ended refl lasted calm
      (λ lasts. subst (λ (n : ℕ). Acts n v units e.carrier (react v e.carrier)) (sym (eqb-true r q same)) act)
  idle_at units q false same is lasted calm act =
      let ne : r ≢ connection_of v e.carrier = λ one. unequal q r same (one ∙ sym is) in
      idle_by new.carrier.ended refl lasted calm
      (λ lasts. acts_elsewhere r v units e.carrier ne lasts (elsewhere_deaf v e.carrier lasted lasts r h.by_class ne))

  -- the link of this or of another connection takes it
  taken_at : (q : ℕ) (b : Bool) → (r == q) ≡ b → q ≡ connection_of v e.carrier → e.carrier.ended ≡ None → Calm is_caller r moves e →
      (peer : ℕ) (link after : Standing) → value_at q e.carrier.live ≡ Some (linked peer link) → taken link v ≡ Ok after →
      react v e.carrier ≡ (settles q peer after e.carrier).state →
      StepAt r (marked q (written_by peer (handed_out after))) (marked q (v ∷ [])) (After is_caller r v) moves new
  taken_at q true same is lasted calm peer link after here took then_is = search (arith, eqb-true, marked, take_calm)
  taken_at q false same is lasted calm peer link after here took then_is =
      let lasts : new.carrier.ended ≡ None = ap (λ (c : Carrier). c.ended) then_is ∙ lasted in
      let ne = unequal q r same in
      let other : r ≢ connection_of v e.carrier = λ one. ne (one ∙ sym is) in
      step_idle r (marked q (written_by peer (handed_out after))) (marked q (v ∷ [])) (After is_caller r v) moves new
      (λ some. elsewhere q r (written_by peer (handed_out after)) ne) (λ some. elsewhere q r (v ∷ []) ne)
      (on_calm lasts lasted calm
      (acts_elsewhere r v [] e.carrier other lasts (elsewhere_deaf v e.carrier lasted lasts r h.by_class other)))

  passed : (units : List Value) → Idle → StepAt r (marked 0 units) (marked 0 (v ∷ [])) (After is_caller r v) moves new
  passed units idle = search (arith, step_idle, marked, nowhere)

-- ---- at all connections

above_zero : (q : ℕ) (x : Connection) (rows : Rows Connection) → RiseFrom 0 rows → value_at q rows ≡ Some x → 0 < q
above_zero q x rows rise here = search (arith, absent)

module _ (is_caller : Bool) where
  abbrev pub CalmAll : States
  CalmAll r moves e = Calm is_caller r moves e

  abbrev pub NowAll : States
  NowAll r moves e = Now is_caller r moves e

  abbrev AfterAll : Value → States
  AfterAll v r moves e = After is_caller r v moves e

  module _ (moves : ℕ → Deeds) (v : Value) (fits : Fits v) (e : End) (h : IsSound e.carrier) (calm : HoldEach CalmAll moves e) where
    abbrev changed : End
    changed = with_carrier (react v e.carrier) e

    gone_side : (r : ℕ) → e.carrier.ended ≡ None → Gone is_caller r (moves r) e → has_given r e.carrier ≡ false →
        e.carrier.is_caller ≡ is_caller
    gone_side r lasted h free = grind (arith, both, never_lasts)

    side_of : (r : ℕ) → e.carrier.ended ≡ None → has_given r e.carrier ≡ false → e.carrier.is_caller ≡ is_caller
    side_of r lasted free = grind (arith, both, gone_side)

    -- the carrier had ended
    over_life : (r : ℕ) → 0 < r → IsSome e.carrier.ended → IsSome changed.carrier.ended →
        Life is_caller r (stage_at r e.carrier) (marked 0 (v ∷ [])) [] (stage_at r changed.carrier)
    over_life r some ended then_ended = grind arith

    unit_first : (r q : ℕ) (units : List Value) →
        Life is_caller r (stage_at r e.carrier) (marked q (v ∷ [])) (marked q units) (stage_at r changed.carrier) →
        FirstOf is_caller r e.carrier (marked q (v ∷ [])) (marked q units) changed.carrier
    unit_first r q units life =
        first_of is_caller r e.carrier changed.carrier (marked q (v ∷ [])) (marked q units) tt life
        (λ has was now. let (none, has_then) = unit_not_cc r v e.carrier h has was now in ((none, tt), has_then))

    does_steps : e.carrier.ended ≡ None → Does (connection_of v e.carrier) v e.carrier (outcome v e.carrier) →
        StepsBy is_caller (v ∷ []) (AfterAll v) moves e.carrier changed
    does_steps lasted (takes peer link after here taken_is is) =
        let q = connection_of v e.carrier in
        let units = written_by peer (handed_out after) in
        let then_is = state_is v e.carrier ∙ ap (λ (x : Outcome). x.state) is in
        step_each is_caller (v ∷ []) (AfterAll v) moves e.carrier changed (marked q units) (marked q (v ∷ []))
        (subst (λ (l : List Value). Makes e.carrier (v ∷ []) l changed.carrier)
        (ap (λ (x : Outcome). x.put) is ∙ sym (marked_all q units)) (doing.takes v e.carrier fits))
        (given_accounted q peer (all_given (handed_out after)) (above_zero q (linked peer link) e.carrier.live h.orderly.rise here))
        (marked_all q (v ∷ []))
        (λ r some. taken_life is_caller r some v e.carrier h lasted (side_of r lasted) q refl peer link after here taken_is then_is)
        (λ r some. unit_first r q units (grind (arith, taken_life, side_of)))
        (λ r. taken_at is_caller r (moves r) v e h q (r == q) refl refl lasted (calm r) peer link after here taken_is then_is)
    does_steps lasted (passes plain acts) =
        let q = connection_of v e.carrier in
        let units = put_for v e.carrier in
        let act = subst (λ (c : Carrier). Acts q v units e.carrier c) (sym (state_is v e.carrier)) acts in
        step_each is_caller (v ∷ []) (AfterAll v) moves e.carrier changed (marked 0 units) (marked 0 (v ∷ []))
        (subst (λ (l : List Value). Makes e.carrier (v ∷ []) l changed.carrier) (sym (marked_all 0 units)) (doing.takes v e.carrier fits))
        (plain_accounted units plain) (marked_all 0 (v ∷ []))
        (λ r some. passed_life is_caller r some v e.carrier h lasted (side_of r lasted) units q refl act)
        (λ r some. unit_first r 0 units (passed_life is_caller r some v e.carrier h lasted (side_of r lasted) units q refl act))
        (λ r. passed is_caller r (moves r) v e h units (idle_at is_caller r (moves r) v e h units q (r == q) refl refl lasted (calm r) act))

    unit_by : (o : Option EndReason) → e.carrier.ended ≡ o → StepsBy is_caller (v ∷ []) (AfterAll v) moves e.carrier changed
    unit_by None lasted = does_steps lasted (unit_does v e.carrier h lasted fits.in_range)
    unit_by (Some reason) ended =
        let same = react_over v e.carrier (ap is_some ended) in
        step_each is_caller (v ∷ []) (AfterAll v) moves e.carrier changed [] (marked 0 (v ∷ []))
        (subst (λ (l : List Value). Makes e.carrier (v ∷ []) l changed.carrier)
        (ap (λ (x : Outcome). x.put) (outcome_over v e.carrier (ap is_some ended))) (doing.takes v e.carrier fits)) tt
        (marked_all 0 (v ∷ []))
        (λ r some. over_life r some (ap is_some ended) (ap (λ (c : Carrier). is_some c.ended) same ∙ ap is_some ended))
        (λ r some. unit_first r 0 [] (grind (arith, over_life)))
        (λ r. passed is_caller r (moves r) v e h []
        (ended_idle is_caller r (moves r) v e h (calm r) (ap (λ (c : Carrier). is_some c.ended) same ∙ ap is_some ended)))

    unit_steps : StepsBy is_caller (v ∷ []) (AfterAll v) moves e.carrier changed
    unit_steps = unit_by e.carrier.ended refl

-- ---- the units of a packet

followed_is : (b : Bool) → IsTrue b → b ≡ true
followed_is b h = h

module _ (is_caller : Bool) where
  pub units_step : (units : List Value) (u : List ℕ) → AreUnits units u → (moves : ℕ → Deeds) (e : End) → IsSound e.carrier →
      HoldEach (CalmAll is_caller) moves e →
      StepsBy is_caller units (NowAll is_caller) moves e.carrier (with_carrier (reacts units e.carrier) e)
  units_step [] u us moves e h calm = absurd us
  units_step (v ∷ []) u us moves e h calm =
      step_as is_caller (v ∷ []) (AfterAll is_caller v) (NowAll is_caller) moves e.carrier (with_carrier (react v e.carrier) e)
      (with_carrier (react v e.carrier) e) (unit_steps is_caller moves v (units_fit (v ∷ []) u us).0 e h calm)
      (doing.rests (react v e.carrier))
      (same_rest (react v e.carrier)) (λ r after t. t.0)
  units_step (v ∷ w ∷ vs) u us moves e h calm =
      let mid = with_carrier (react v e.carrier) e in
      step_then is_caller (v ∷ []) (w ∷ vs) (AfterAll is_caller v) (NowAll is_caller) moves e.carrier mid
      (with_carrier (reacts (v ∷ w ∷ vs) e.carrier) e) (unit_steps is_caller moves v (units_fit (v ∷ w ∷ vs) u us).0 e h calm)
      (λ after t. units_step (w ∷ vs) us.2 us.5 after mid (sound_unit v e.carrier h)
      (λ r. (t r).1 (followed_is (may_be_followed v) us.0)))

  -- units before others
  pub leads_step : (done : List Value) (next : Value) (more : List Value) (u : List ℕ) → AreUnits (done ++ (next ∷ more)) u →
      (moves : ℕ → Deeds) (e : End) → IsSound e.carrier → HoldEach (CalmAll is_caller) moves e →
      StepsBy is_caller done (CalmAll is_caller) moves e.carrier (with_carrier (reacts done e.carrier) e)
  leads_step [] next more u us moves e h calm =
      step_none is_caller (CalmAll is_caller) moves e.carrier e (doing.rests e.carrier) (same_rest e.carrier) calm
  leads_step (v ∷ []) next more u us moves e h calm =
      let mid = with_carrier (react v e.carrier) e in
      step_as is_caller (v ∷ []) (AfterAll is_caller v) (CalmAll is_caller) moves e.carrier mid mid
      (unit_steps is_caller moves v (units_fit (v ∷ next ∷ more) u us).0 e h calm) (doing.rests (react v e.carrier))
      (same_rest (react v e.carrier))
      (λ r after t. t.1 (followed_is (may_be_followed v) us.0))
  leads_step (v ∷ w ∷ done) next more u us moves e h calm =
      let mid = with_carrier (react v e.carrier) e in
      step_then is_caller (v ∷ []) (w ∷ done) (AfterAll is_caller v) (CalmAll is_caller) moves e.carrier mid
      (with_carrier (reacts (v ∷ w ∷ done) e.carrier) e)
      (unit_steps is_caller moves v (units_fit (v ∷ w ∷ (done ++ (next ∷ more))) u us).0 e h calm)
      (λ after t. leads_step (w ∷ done) next more us.2 us.5 after mid (sound_unit v e.carrier h)
      (λ r. (t r).1 (followed_is (may_be_followed v) us.0)))
