-- A unit of the other side passes at the judge of a whole called end, for one of its connections, or a DC that answers nothing.
-- For the law on a whole called end.
use Rattle.osi_blameless.proofs.transport.Vocabulary.{[], after_finding, AllByRecursion, ap, append-nil, arith, Bool, Broke, Class}
use Rattle.osi_blameless.proofs.transport.Vocabulary.{closing_phase, confirm}
use Rattle.osi_blameless.proofs.transport.Vocabulary.{Connect, Connection, connection_after, Course, course_after, destination_of}
use Rattle.osi_blameless.proofs.transport.Vocabulary.{disconnect}
use Rattle.osi_blameless.proofs.transport.Vocabulary.{disconnected, eqb-true, false, Finding, finding_of, first_failed, found, found_on}
use Rattle.osi_blameless.proofs.transport.Vocabulary.{Half}
use Rattle.osi_blameless.proofs.transport.Vocabulary.{HasFieldsInRange, inl, inr, is_applied, is_closed, is_closing, is_due, is_named}
use Rattle.osi_blameless.proofs.transport.Vocabulary.{is_open, is_over}
use Rattle.osi_blameless.proofs.transport.Vocabulary.{is_refused, is_silent, is_stray, knows_disconnect, Left, Line, List, Local}
use Rattle.osi_blameless.proofs.transport.Vocabulary.{may_answer, None, not}
use Rattle.osi_blameless.proofs.transport.Vocabulary.{noted, NotJudged, one_told, Option, Outcome, passes_other, Phase, Reach, reach_of}
use Rattle.osi_blameless.proofs.transport.Vocabulary.{reached, refl}
use Rattle.osi_blameless.proofs.transport.Vocabulary.{request, Right, set, slice_get, Some, Standing, subst, sym, takes, Traffic, true, Two}
use Rattle.osi_blameless.proofs.transport.Vocabulary.{unit as passing, uses_source, Value, Whole, ℕ, ◌&&◌, ◌++◌, ◌==◌, ◌||◌, ◌∙◌, ◌∷◌, ◌≡◌}
use Rattle.osi_blameless.proofs.transport.Vocabulary.{◌≢◌, ◌≤◌, ◌⊎◌}
use Rattle.osi_rules.specs.declared.findings.Reach.TheVariants as reach
use Rattle.osi_rules.specs.declared.findings.Rule.TheVariants as rule
use Rattle.osi_blameless.proofs.transport.small_facts_that_many_lemmas_use.{all_add, both as is_both, differ, judged_same, not_not}
use Rattle.osi_blameless.proofs.transport.small_facts_that_many_lemmas_use.{and_first, and_second, number_is, or_last, or_left, or_right}
use Rattle.osi_blameless.proofs.transport.small_facts_that_many_lemmas_use.{set_none}
use Rattle.osi_blameless.proofs.transport.by_place.how_a_unit_of_right_passes.{strays_more}
use Rattle.osi_blameless.proofs.transport.names.names_stay_apart_though_one_is_lost.{AreNamedApart, each_sound, left_set}
use Rattle.osi_blameless.proofs.transport.names.a_reference_names_one_connection.{applied_judged}
use Rattle.osi_blameless.proofs.transport.by_place.each_connection_has_its_place.{stands_at, Among, AreAbove, Asked, Called, IsDc, IsFor}
use Rattle.osi_blameless.proofs.transport.by_place.each_connection_has_its_place.{Row, Running, Stand}
use Rattle.osi_blameless.proofs.transport.by_place.each_connection_has_its_place.{Untagged, among_more, among_skip, answers, closes, comes}
use Rattle.osi_blameless.proofs.transport.by_place.each_connection_has_its_place.{over, past, refuses}
use Rattle.osi_blameless.proofs.transport.by_place.each_connection_has_its_place.{runs, talks}
use Rattle.osi_blameless.proofs.transport.requests.left_selects_no_class.{left_class}
use Rattle.osi_blameless.proofs.transport.connections.units_by_their_place.{Placed, at_join, first_at, units_at, values, values_join}
use Rattle.osi_blameless.proofs.transport.connections.what_is_live_at_an_end.{Gives, IsHeld, IsLively, Timely, dr_for, is_there, shuts_of}
use Rattle.osi_blameless.proofs.transport.connections.what_is_live_at_an_end.{timely_closes, timely_comes}
use Rattle.osi_blameless.proofs.transport.names.what_keeps_names_apart.{AreApart, Sound}
use Rattle.osi_blameless.proofs.transport.requests.what_lasts_at_the_judge.{Lasts, lasts_passing}
use Rattle.osi_blameless.proofs.transport.connections.what_stays_of_each_connection.{judged_was as judged_before, left_judged, left_own}
use Rattle.osi_blameless.proofs.transport.connections.what_stays_of_each_connection.{own_stays, right_then}
use Rattle.osi_blameless.proofs.transport.connections.which_units_are_for_a_connection.{first_left, named_not, named_so, names, those}
use Rattle.osi_blameless.proofs.transport.connections.which_units_are_for_a_connection.{those_join, picked_more}
use Rattle.osi_blameless.proofs.transport.requests.while_no_class_is_selected.{after_change}
use Rattle.osi_blameless.proofs.transport.connections.which_unit_of_the_other_side_passes.{IsCalm, IsNear, calm_before, calm_near}
use Rattle.osi_blameless.proofs.transport.connections.which_unit_of_the_other_side_passes.{calm_noted}
use Rattle.osi_blameless.proofs.transport.connections.a_line_since_its_connection_opened.{tracks_on}
use Rattle.osi_blameless.proofs.transport.by_place.each_connection_has_its_place.{running_on}

-- ---- small facts

named_parts : (a b c : Bool) → (not a && (not b && c)) ≡ true → (a ≡ false) × (b ≡ false) × (c ≡ true)
named_parts a b c h = grind arith

off_over : (a b : Bool) → (a || b) ≡ true → a ≡ false → b ≡ true
off_over a b h k = grind arith

refused_over : (mine : Half) (k : Phase) → is_refused k ≡ true →
    (is_refused mine.phase || (is_refused k || (is_closed mine.phase || (is_closing mine.phase && (is_closing k || is_closed k))))) ≡ true
refused_over mine k h = grind arith

-- right has closed only what left had closed
closed_not : (p mine : Phase) → is_silent p ≡ false → is_open p ≡ false → is_refused p ≡ false → is_closing p ≡ false →
    (is_closed p ≡ true → is_closing mine ≡ true) → is_open mine ≡ true → ⊥
closed_not p mine a b c d k h = grind arith

-- a DC that answers nothing is not passed over
dc_applied : (due told strays : Bool) → strays ≡ false → (g : Finding) →
    g ≡ first_failed ((due || not strays, NotJudged) ∷ (told, Broke rule.UnknownReference) ∷ (due, Broke rule.NothingToAnswer) ∷ []) →
    (reach_of (Some Two) g ≡ reach.Connection → ⊥) → (reach_of (Some Two) g ≡ reach.Everything → ⊥) → is_applied g ≡ true
dc_applied due told strays h g e one all = grind arith

reached_seen : (r : Reach) (c : Course) → (reached Left r c).class_seen ≡ c.class_seen
reached_seen r c = grind arith

reached_strays : (r : Reach) (c : Course) → (reached Left r c).disconnects.strays ≡ c.disconnects.strays
reached_strays r c = grind arith

lost_so : (v : Value) (applied : Bool) (c : Connection) → (connection_after Left v applied reach.Connection c).is_judged ≡ false
lost_so v applied c = grind arith

closing_not : (a was : Bool) (half : Half) →
    (a && (is_silent (closing_phase was half).phase || is_open (closing_phase was half).phase)) ≡ true → ⊥
closing_not a was half h = grind arith

-- a unit of left opens nothing that was closed
there_by : (s : Traffic) (c : Connection) (v : Value) (applied : Bool) (r : Reach) → is_applied (found_on Left s c v) ≡ applied →
    is_there (connection_after Left v applied r c).right (connection_after Left v applied r c).left ≡ true → is_there c.right c.left ≡ true
there_by s c v applied r e h = grind (arith, left_own, left_judged, right_then)

-- the CCs that are to pass give other references
answers_above : (given last n : ℕ) (vs : List Value) → n ≤ last → AreAbove given last vs → AllByRecursion (Gives Right (λ m. m ≡ n → ⊥)) vs
answers_above given last n [] up h = tt
answers_above given last n (confirm destination x ∷ vs) up (above, h) = grind (arith, answers_above given x.source n vs (omega arith) h)
answers_above given last n (v ∷ vs) up h = (λ m y e. absurd (cc e), answers_above given last n vs up h)

-- ---- all connections

module _ (local : Local) (w : Whole) (f : Called local w) (apart : AreApart w.judge.connections)
    (named : AreNamedApart Left w.judge.connections) (v : Value) (ranges : HasFieldsInRange v)
    (calm_after : IsCalm (takes Left v w.judge).state.course) where
  abbrev cs : List Connection
  cs = w.judge.connections

  abbrev more : List Value
  more = w.coming ++ v ∷ []

  abbrev after : Whole
  after = record w { judge = (takes Left v w.judge).state; coming = more }

  pub lasts : Lasts w.judge.course (takes Left v w.judge).state.course
  lasts = lasts_passing (passing Left v) w.judge

  pub calm : IsCalm w.judge.course
  calm = calm_before w.judge.course (takes Left v w.judge).state.course lasts calm_after

  pub those_more : (r : ℕ) → names r v ≡ false → those r more ≡ those r w.coming
  those_more r e = grind (arith, those_join, first_left, append-nil)

  pub row_other : (r peer : ℕ) (link : Option Standing) (line : List Value) → names r v ≡ false → Row w.end w.coming r peer link line →
      Row w.end more r peer link line
  row_other r peer link line e (talks k there is among) = talks k there is (subst (Among line) (sym (those_more r e)) among)
  row_other r peer link line e (closes un is among) = closes un is (subst (Among line) (sym (those_more r e)) among)
  row_other r peer link line e (over h) = over h

  row_skip : (r peer : ℕ) (link : Option Standing) (line : List Value) → names r v ≡ true → IsDc v → Row w.end w.coming r peer link line →
      Row w.end more r peer link line
  row_skip r peer link line e dc (talks k there is among) =
      talks k there is (subst (Among line) (sym (grind (arith, picked_more))) (among_skip line (those r w.coming) v dc among))
  row_skip r peer link line e dc (closes un is among) = grind (arith, picked_more, among_skip, those)
  row_skip r peer link line e dc (over h) = over h

  row_add : (r peer : ℕ) (link : Option Standing) (line : List Value) → names r v ≡ true → Row w.end w.coming r peer link line →
      Row w.end more r peer link (line ++ v ∷ [])
  row_add r peer link line e (talks k there is among) =
      talks k there is (subst (Among (line ++ v ∷ [])) (sym (grind (arith, picked_more))) (among_more line (those r w.coming) v among))
  row_add r peer link line e (closes un is among) = grind (arith, picked_more, among_more, those)
  row_add r peer link line e (over h) = over h

  -- a connection of which nothing passes
  module _ (o : Option ℕ) (asks : ℕ → List Value) (rows : (r peer : ℕ) (link : Option Standing) (line : List Value) → o ≡ Some r →
      Row w.end w.coming r peer link line → Row w.end more r peer link line) where
    pub stand_on : (i : ℕ) (c : Connection) (mine was : List Value) (begun : Bool) → asks i ≡ was →
        Stand local f.shut w.end w.coming mine was begun o c → Stand local f.shut w.end more mine (asks i) begun o c
    stand_on i c mine was begun same = stands_at local f.shut w.end w.end w.coming more mine was (asks i) begun o c
        (λ x ask lasts. same ∙ ask lasts) (λ none. same ∙ none) rows (λ r e un. un)

  -- ---- a DC that answers nothing

  abbrev came_none : List Placed
  came_none = f.came ++ (None, v) ∷ []

  values_none : more ≡ values came_none
  values_none = ap (λ (l : List Value). l ++ v ∷ []) f.come ∙ sym (values_join f.came ((None, v) ∷ []))

  asks_none : (i : ℕ) → units_at i came_none ≡ units_at i f.came
  asks_none i = at_join i f.came ((None, v) ∷ []) ∙ append-nil (units_at i f.came)

  skip_by : (r peer : ℕ) (link : Option Standing) (line : List Value) (b : Bool) → names r v ≡ b → IsDc v → Row w.end w.coming r peer link
      line →
      Row w.end more r peer link line
  skip_by r peer link line true e dc row = row_skip r peer link line e dc row
  skip_by r peer link line false e dc row = row_other r peer link line e row

  dc_not_request : IsDc v → (x : Connect) → v ≡ request x → ⊥
  dc_not_request (m, n, e) x h = cc (sym e ∙ h)

  pub is_lost : IsDc v → w.judge.course.disconnects.strays ≡ true → (takes Left v w.judge).state ≡ w.judge → Called local after
  is_lost dc strays same = subst (λ (s : Traffic). Called local (record w { judge = s; coming = more })) (sym same) (record {
    tagged = f.tagged;
    put = f.put;
    came = came_none;
    come = values_none;
    refs = f.refs;
    home = f.home;
    shut = f.shut;
    stands = λ i c at. stand_on (f.refs i) (λ j. units_at j came_none)
        (λ r peer link line e row. skip_by r peer link line (names r v) refl dc row) i c (units_at i f.tagged) (units_at i f.came)
        (w.begun && first_at i f.tagged) (asks_none i) (f.stands i c at);
    beyond = grind (arith, asks_none);
    homes = f.homes;
    positive = f.positive;
    linked_at = f.linked_at;
    shut_given = f.shut_given;
    strays = f.strays;
    last = f.last;
    tops = f.tops;
    above = f.above;
    class = f.class;
    two = f.two;
    class_seen = f.class_seen;
    past_two = f.past_two;
    seen_two = f.seen_two;
    some = f.some;
    few = all_add (IsFor w.end.given) w.coming v f.few (λ m e. inr dc);
    untagged = all_add Untagged f.came (None, v) f.untagged (λ h. dc_not_request dc);
    timely = λ none last. differ w.judge.course.disconnects.strays strays none;
  })

  -- ---- a unit for a connection

  module _ (n q : ℕ) (c : Connection) (dest : destination_of v ≡ Some n) (at : slice_get cs q ≡ Some c) (name : is_named Left n c ≡ true)
      (is : takes Left v w.judge ≡ one_told Left q c v w.judge) where
    abbrev found_so : Finding
    found_so = found_on Left w.judge c v

    abbrev far : Reach
    far = reach_of (Some Two) found_so

    abbrev next : Connection
    next = connection_after Left v (is_applied found_so) far c

    course_is : (takes Left v w.judge).state.course
        ≡ noted Left found_so
        (reached Left (reach_of w.judge.course.class_seen found_so) (course_after Left c v (is_applied found_so) w.judge.course))
    course_is = ap (λ (o : Outcome). o.state.course) is

    near : IsNear w.judge.course.class_seen found_so
    near = grind (arith, calm_near, calm_noted, course_is)

    conns : (takes Left v w.judge).state.connections ≡ set cs q next
    conns = grind (arith, set, near)

    sound : Sound c
    sound = each_sound Left cs apart named q c at

    parts : (is_over Left c ≡ false) × (is_silent c.seen_by_left.phase ≡ false) × ((c.seen_by_left.reference == n) ≡ true)
    parts = named_parts (is_over Left c) (is_silent c.seen_by_left.phase) (c.seen_by_left.reference == n) name

    name_is : c.right.reference ≡ n
    name_is = sym (sound.left_knows.reference parts.1) ∙ eqb-true c.seen_by_left.reference n parts.2

    next_right : next.right ≡ c.right
    next_right = right_then v (is_applied found_so) far c

    next_left : next.left.reference ≡ c.left.reference
    next_left = (own_stays (is_applied found_so) w.judge v far c refl).reference

    not_cr : (x : Connect) → v ≡ request x → ⊥
    not_cr x e = cc (sym dest ∙ ap destination_of e)

    abbrev StandNow : ℕ → Option ℕ → Connection → Type 0
    StandNow i o x = Stand local f.shut w.end more (units_at i f.tagged) (units_at i came_none) (w.begun && first_at i f.tagged) o x

    -- its reference is that of this place
    record Here : Type 0 where
      ref : f.refs q ≡ Some n
      stand : StandNow q (f.refs q) next

    silent_not : {A : Type 0} (x : Connect) → Asked x c → A
    silent_not x a = differ (is_silent c.right.phase) (ap (λ (h : Half). is_silent h.phase) a.right) (grind (arith, sound))

    run_here : (g : Running f.shut w.end w.coming (units_at q f.tagged) (w.begun && first_at q f.tagged) (f.refs q) c) →
        units_at q f.came ≡ [] → Here
    run_here g none =
        let in_use = uses_source Left cs v in
        let r_is : n ≡ g.r = sym name_is ∙ g.right in
        let dest_r : destination_of v ≡ Some g.r = dest ∙ ap (λ (i : ℕ). Some i) r_is in
        let line : Line = record g.line {
          judge = after_finding Left (finding_of Left w.judge.course in_use g.line.judge v) v g.line.judge;
          coming = g.line.coming ++ v ∷ [];
        } in
        let judge : line.judge ≡ next =
        ap (λ (x : Connection). after_finding Left (finding_of Left w.judge.course in_use x v) v x) g.judge in
        let some : reach_of (Some Two) (finding_of Left w.judge.course in_use g.line.judge v) ≢ reach.Everything = λ e.
        near.part (ap (λ (x : Connection). reach_of (Some Two) (finding_of Left w.judge.course in_use x v)) (sym g.judge) ∙ e) in
        record {
          ref = g.index ∙ ap (λ (i : ℕ). Some i) (sym r_is);
          stand = runs (running_on g line
              (tracks_on Right g.r g.peer g.line line (passes_other w.judge.course in_use v ∷ []) g.tracks
              (line, (ranges, dest_r, some, refl), refl)) judge g.put g.begun_is (ap (λ (h : Half). is_open h.phase) next_right ∙ g.there)
              (ap (λ (h : Half). h.reference) next_right) next_left
              (row_add g.r g.peer g.line.end g.line.coming (named_so g.r v dest_r) g.row) g.shut_is) (asks_none q ∙ none);
        }

    here_by : Stand local f.shut w.end w.coming (units_at q f.tagged) (units_at q f.came) (w.begun && first_at q f.tagged) (f.refs q) c →
        Here
    here_by (comes x a none ask i) = silent_not x a
    here_by (refuses x a reason mine none i seen) = silent_not x a
    here_by (answers h none) = silent_not h.x h.asked
    here_by (runs g none) = run_here g none
    here_by (past silent up none ask un (inl (ref, answered))) = record {
      ref = ref ∙ ap (λ (i : ℕ). Some i) name_is;
      stand = past (ap (λ (h : Half). is_silent h.phase) next_right ∙ silent) (ap (λ (h : Half). is_open h.phase) next_right ∙ up) none
          (asks_none q ∙ ask) un (inl (
            ref ∙ ap (λ (h : Half). Some h.reference) (sym next_right),
            ap (λ (h : Half). is_refused h.phase) next_right ∙ answered,
          ));
    }
    here_by (past silent up none ask un (inr (refused, seen, judged))) = grind (arith, differ, is_both, refused_over, off_over, parts)

    here : Here
    here = here_by (f.stands q c at)

    item : (i : ℕ) (x : Connection) → slice_get (takes Left v w.judge).state.connections i ≡ Some x →
        ((i ≡ q) × (x ≡ next)) ⊎ ((i ≡ q → ⊥) × (slice_get cs i ≡ Some x))
    item i x h = after_change cs q i next x (ap (λ (l : List Connection). slice_get l i) (sym conns) ∙ h)

    name_not : (i r : ℕ) → (i ≡ q → ⊥) → f.refs i ≡ Some r → names r v ≡ false
    name_not i r other e = named_not n r v (λ same. other (sym (f.homes i r e).0 ∙ ap f.home (sym same) ∙ (f.homes q n here.ref).0)) dest

    stand_by : (i : ℕ) (x : Connection) → ((i ≡ q) × (x ≡ next)) ⊎ ((i ≡ q → ⊥) × (slice_get cs i ≡ Some x)) → StandNow i (f.refs i) x
    stand_by i x (inl (same, so)) = grind (arith, here)
    stand_by i x (inr (other, there)) = stand_on (f.refs i) (λ j. units_at j came_none)
        (λ r peer link line e row. row_other r peer link line (name_not i r other e) row) i x (units_at i f.tagged) (units_at i f.came)
        (w.begun && first_at i f.tagged) (asks_none i) (f.stands i x there)

    top_by : (i : ℕ) (x : Connection) → ((i ≡ q) × (x ≡ next)) ⊎ ((i ≡ q → ⊥) × (slice_get cs i ≡ Some x)) → x.right.reference ≤ f.last
    top_by i x (inl (same, so)) =
        subst (λ (h : Half). h.reference ≤ f.last) (sym (ap (λ (y : Connection). y.right) so ∙ next_right)) (f.tops q c at)
    top_by i x (inr (other, there)) = f.tops i x there

    two_by : (i : ℕ) (x : Connection) → ((i ≡ q) × (x ≡ next)) ⊎ ((i ≡ q → ⊥) × (slice_get cs i ≡ Some x)) → is_open x.right.phase ≡ true →
        (takes Left v w.judge).state.course.class ≡ Some Two
    two_by i x h up = grind (arith, lasts, next_right)

    course_same : ((takes Left v w.judge).state.course.class ≡ w.judge.course.class)
        × ((takes Left v w.judge).state.course.class_seen ≡ w.judge.course.class_seen)
    course_same = grind (arith, left_class, course_is, reached_seen)

    -- ---- what it closes

    abbrev TimelyNow : Type 0
    TimelyNow = Timely Right w.end more (takes Left v w.judge).state.connections (values f.tagged)

    judged_was : next.is_judged ≡ true → c.is_judged ≡ true
    judged_was h = judged_before Left v (is_applied found_so) far c h

    was_there : is_there next.right next.left ≡ true → is_there c.right c.left ≡ true
    was_there h = there_by w.judge c v (is_applied found_so) far refl h

    held_at : Timely Right w.end w.coming cs (values f.tagged) → (i : ℕ) (x : Connection) →
        ((i ≡ q) × (x ≡ next)) ⊎ ((i ≡ q → ⊥) × (slice_get cs i ≡ Some x)) → IsLively Right (IsHeld Right w.end w.coming) x
    held_at h i x (inl (same, so)) = subst (IsLively Right (IsHeld Right w.end w.coming)) (sym so) (λ j there.
        subst (λ (k : Half). IsHeld Right w.end w.coming k.reference) (sym next_right)
        (h.judges q c at (judged_was j) (was_there there)))
    held_at h i x (inr (other, there)) = h.judges i x there

    -- left has it open no more, or it is judged no more
    abbrev IsShut : Type 0
    IsShut = next.is_judged ≡ true → is_there next.right next.left ≡ true → ⊥

    run_ref : (i : ℕ) (x : Connection) (o : Option ℕ) (mine asks : List Value) (begun : Bool) → is_open x.right.phase ≡ true →
        Stand local f.shut w.end w.coming mine asks begun o x → o ≡ Some x.right.reference
    run_ref i x o mine asks begun up k = grind (arith, differ)

    other_ref : (i : ℕ) (x : Connection) → ((i ≡ q) × (x ≡ next)) ⊎ ((i ≡ q → ⊥) × (slice_get cs i ≡ Some x)) →
        IsShut → x.is_judged ≡ true → is_there x.right x.left ≡ true → x.right.reference ≡ n → ⊥
    other_ref i x (inl (same, so)) shut j is_there_so e = grind arith
    other_ref i x (inr (other, there)) shut j is_there_so e =
        let ref = run_ref i x (f.refs i) (units_at i f.tagged) (units_at i f.came) (w.begun && first_at i f.tagged)
        (and_first (is_open x.right.phase) (is_silent x.left.phase || is_open x.left.phase) is_there_so)
        (f.stands i x there) in
        other (sym (f.homes i n (ref ∙ ap (λ (j : ℕ). Some j) e)).0 ∙ (f.homes q n here.ref).0)

    timely_nothing : Timely Right w.end w.coming cs (values f.tagged) → shuts_of Right v ≡ None → dr_for v ≡ None → TimelyNow
    timely_nothing h none no_dr =
        timely_comes Right w.end w.coming cs (takes Left v w.judge).state.connections (values f.tagged) v none no_dr
        (λ i x there. held_at h i x (item i x there)) h

    timely_one : Timely Right w.end w.coming cs (values f.tagged) → shuts_of Right v ≡ Some n → ((m : ℕ) → dr_for v ≡ Some m →
        IsHeld Right w.end w.coming
        m) →
        IsShut → TimelyNow
    timely_one h shuts dr shut =
        timely_closes Right w.end w.coming cs (takes Left v w.judge).state.connections (values f.tagged) v n shuts dr
        (f.homes q n here.ref).1
        (λ i x there j so. (held_at h i x (item i x there) j so, other_ref i x (item i x there) shut j so))
        (answers_above w.end.given f.last n (values f.tagged) (subst (λ (i : ℕ). i ≤ f.last) name_is (f.tops q c at)) f.above) h

    dest_is : (m : ℕ) → destination_of v ≡ Some m → m ≡ n
    dest_is m e = number_is m n (sym e ∙ dest)

    open_by_stand : {A : Type 0} → is_open c.left.phase ≡ true → is_closing c.right.phase ≡ false →
        Stand local f.shut w.end w.coming (units_at q f.tagged) (units_at q f.came) (w.begun && first_at q f.tagged) (f.refs q) c →
        (is_open c.right.phase ≡ true → A) → A
    open_by_stand a b h k = grind (arith, silent_not, closed_not, sound, differ, is_both, refused_over, off_over, parts)

    -- a DR that has its effect
    dr_shuts : is_applied found_so ≡ true → (destination source reason : ℕ) (user : List ℕ) →
        v ≡ disconnect destination source reason user →
        is_there next.right next.left ≡ true → ⊥
    dr_shuts applied destination source reason user e so =
        let left_is = ap (λ (b : Bool). (connection_after Left v b far c).left) applied
        ∙ ap (λ (u : Value). (connection_after Left u true far c).left) e ∙ left_own (disconnect destination source reason user) far c in
        closing_not (is_open next.right.phase) (is_silent c.left.phase) c.left
        (ap (λ (h : Half). is_open next.right.phase && (is_silent h.phase || is_open h.phase)) (sym left_is) ∙ so)

    dr_so : (takes Left v w.judge).state.course.disconnects.strays ≡ false → Timely Right w.end w.coming cs (values f.tagged) →
        (destination source reason : ℕ)
        (user : List ℕ) → v ≡ disconnect destination source reason user → TimelyNow
    dr_so none h destination source reason user e =
        let strays : (w.judge.course.disconnects.strays || (not (is_applied found_so) || is_stray Left c source)) ≡ false =
        sym (ap (λ (k : Course). k.disconnects.strays) course_is
        ∙ reached_strays (reach_of w.judge.course.class_seen found_so) (course_after Left c v (is_applied found_so) w.judge.course)
        ∙ ap (λ (u : Value). (course_after Left c u (is_applied found_so) w.judge.course).disconnects.strays) e) ∙ none in
        let told = or_right w.judge.course.disconnects.strays (not (is_applied found_so) || is_stray Left c source) strays in
        let applied = not_not (is_applied found_so) (or_left (not (is_applied found_so)) (is_stray Left c source) told) in
        let judged = applied_judged c.is_judged (found Left w.judge.course (uses_source Left cs v) c v) applied in
        let stray = or_right (not (is_applied found_so)) (is_stray Left c source) told in
        let opened = not_not (is_open c.left.phase) (or_left (not (is_open c.left.phase)) (not (source == c.left.reference)
        || is_closing c.right.phase) stray) in
        let first = or_right (not (source == c.left.reference)) (is_closing c.right.phase) (or_right (not (is_open c.left.phase))
        (not (source == c.left.reference) || is_closing c.right.phase) stray) in
        open_by_stand opened first (f.stands q c at) (λ up.
        timely_one h (ap (shuts_of Right) e ∙ (sym (ap destination_of e) ∙ dest))
        (λ m k. subst (λ (i : ℕ). IsHeld Right w.end w.coming i) (name_is ∙ sym (dest_is m (ap destination_of e ∙ (sym (ap dr_for e) ∙ k))))
        (h.judges q c at judged (is_both (is_open c.right.phase) (is_silent c.left.phase || is_open c.left.phase) up
        (or_last (is_silent c.left.phase) (is_open c.left.phase) opened))))
        (λ j so. dr_shuts applied destination source reason user e so))

    still_near : next.is_judged ≡ true → far ≡ reach.Connection → ⊥
    still_near j e = grind (arith, differ, lost_so)

    dc_has : (takes Left v w.judge).state.course.disconnects.strays ≡ false → next.is_judged ≡ true → (destination source : ℕ) →
        v ≡ disconnected destination source → is_applied found_so ≡ true
    dc_has none j destination source e =
        let drs = w.judge.course.disconnects in
        dc_applied (is_due Left c source) (not (is_silent c.left.phase)) (may_answer Left drs)
        (ap (λ (b : Bool). b && knows_disconnect Left drs) (lasts.strays none)) found_so
        (judged_same c.is_judged (found Left w.judge.course (uses_source Left cs v) c v) (judged_was j)
        ∙ ap (λ (u : Value). found Left w.judge.course (uses_source Left cs v) c u) e)
        (still_near j) near.part

    dc_so : (takes Left v w.judge).state.course.disconnects.strays ≡ false → Timely Right w.end w.coming cs (values f.tagged) →
        (destination source : ℕ) → v ≡ disconnected destination source → TimelyNow
    dc_so none h destination source e =
        timely_one h (ap (shuts_of Right) e ∙ (sym (ap destination_of e) ∙ dest)) (λ m k. absurd (cc (sym (ap dr_for e) ∙ k)))
        (λ j so.
        let left_is = ap (λ (b : Bool). (connection_after Left v b far c).left) (dc_has none j destination source e)
        ∙ ap (λ (u : Value). (connection_after Left u true far c).left) e ∙ left_own (disconnected destination source) far c in
        differ false (and_second (is_open next.right.phase) false
        (ap (λ (h : Half). is_open next.right.phase && (is_silent h.phase || is_open h.phase)) (sym left_is) ∙ so)) refl)

    timely_so : (takes Left v w.judge).state.course.disconnects.strays ≡ false → Timely Right w.end w.coming cs (values f.tagged) →
        (u : Value) →
        v ≡ u →
        TimelyNow
    timely_so none h u e = grind (arith, not_cr, dr_so, dc_so, timely_nothing)

    pub for_one_so : Called local after
    for_one_so = record {
      tagged = f.tagged;
      put = f.put;
      came = came_none;
      come = values_none;
      refs = f.refs;
      home = f.home;
      shut = f.shut;
      stands = λ i x there. stand_by i x (item i x there);
      beyond = λ i none.
          let (a, b, d) = f.beyond i (set_none cs q i next (ap (λ (l : List Connection). slice_get l i) (sym conns) ∙ none)) in
          (a, asks_none i ∙ b, d);
      homes = f.homes;
      positive = f.positive;
      linked_at = f.linked_at;
      shut_given = f.shut_given;
      strays = strays_more f.shut w.end f.refs f.home w.judge.course.disconnects.strays
          (takes Left v w.judge).state.course.disconnects.strays
          f.tagged lasts.strays
          f.strays;
      last = f.last;
      tops = λ i x there. top_by i x (item i x there);
      above = f.above;
      class = subst (λ (k : Option Class). (k ≡ None) ⊎ (k ≡ Some Two)) (sym course_same.0) f.class;
      two = λ i x there up. two_by i x (item i x there) up;
      class_seen = subst (λ (k : Option Class). (k ≡ None) ⊎ (k ≡ Some Two)) (sym course_same.1) f.class_seen;
      past_two = λ h. f.past_two (sym course_same.0 ∙ h);
      seen_two = λ h. course_same.0 ∙ f.seen_two (sym course_same.1 ∙ h);
      some = f.some;
      few = all_add (IsFor w.end.given) w.coming v f.few
          (λ m e. inl (subst (λ (i : ℕ). (i ≤ w.end.given) × (1 ≤ i)) (number_is n m (sym dest ∙ e))
          ((f.homes q n here.ref).1, f.positive q n here.ref)));
      untagged = all_add Untagged f.came (None, v) f.untagged (λ h. not_cr);
      timely = λ none last. timely_so none (f.timely (lasts.strays none) last) v refl;
    }

    pub names_after : AreNamedApart Left (takes Left v w.judge).state.connections
    names_after = subst (AreNamedApart Left) (sym conns) (left_set w.judge apart named q c at v (Some Two) parts.0)
