-- What the other side sends passes at the judge of a whole called end: a CR, whose connection waits for its answer then, or another unit.
-- For the law on a whole called end.
use Rattle.osi_blameless.proofs.transport.Vocabulary.{[], ap, append-nil, arith, asked_by, asks_kept, Bool, Class, Connect, Connection}
use Rattle.osi_blameless.proofs.transport.Vocabulary.{Course}
use Rattle.osi_blameless.proofs.transport.Vocabulary.{destination_of, eqb-true, false, first_failed, HasFieldsInRange, if◌then◌else◌, inl}
use Rattle.osi_blameless.proofs.transport.Vocabulary.{inr, is_closed}
use Rattle.osi_blameless.proofs.transport.Vocabulary.{is_closing, is_free, is_open, is_over, is_over_by, is_refused, Kept, Left, length}
use Rattle.osi_blameless.proofs.transport.Vocabulary.{linked, List}
use Rattle.osi_blameless.proofs.transport.Vocabulary.{Local, None, Option, Outcome, Phase, placed, position, refl, request, request_tests}
use Rattle.osi_blameless.proofs.transport.Vocabulary.{Right, set}
use Rattle.osi_blameless.proofs.transport.Vocabulary.{slice_get, Some, Standing, subst, suc, sym, takes, Traffic, true, Two, Value}
use Rattle.osi_blameless.proofs.transport.Vocabulary.{value_at, Whole, zero}
use Rattle.osi_blameless.proofs.transport.Vocabulary.{ℕ, ◌&&◌, ◌++◌, ◌==◌, ◌||◌, ◌∙◌, ◌∷◌, ◌≡◌, ◌≤◌, ◌⊎◌}
use Rattle.osi_blameless.proofs.transport.small_facts_that_many_lemmas_use.{all_add, and_first, and_second, differ, no_number, set_none}
use Rattle.osi_blameless.proofs.transport.by_line.a_dc_follows_a_dr.{may_strays}
use Rattle.osi_blameless.proofs.transport.by_place.how_a_unit_of_right_passes.{strays_more}
use Rattle.osi_blameless.proofs.transport.names.a_right_unit_is_not_blamed.{first_there}
use Rattle.osi_blameless.proofs.transport.names.names_stay_apart_though_one_is_lost.{AreNamedApart, left_asked}
use Rattle.osi_blameless.proofs.transport.names.a_reference_names_one_connection.{not_true}
use Rattle.osi_blameless.proofs.transport.lines.what_is_right_passes_each_test.{passes_each}
use Rattle.osi_blameless.proofs.transport.by_place.each_connection_has_its_place.{AreStrays, Called, IsFor, IsUnlinked, Running, Stand}
use Rattle.osi_blameless.proofs.transport.by_place.each_connection_has_its_place.{Untagged, answers, comes}
use Rattle.osi_blameless.proofs.transport.by_place.each_connection_has_its_place.{past, refuses, runs}
use Rattle.osi_blameless.proofs.transport.connections.units_by_their_place.{Placed, at_first, at_join, at_other, first_at, units_at, values}
use Rattle.osi_blameless.proofs.transport.connections.units_by_their_place.{values_join}
use Rattle.osi_blameless.proofs.transport.lines.what_holds_of_a_line.{is_there}
use Rattle.osi_blameless.proofs.transport.names.what_holds_of_one_item.{after_add, first_true}
use Rattle.osi_blameless.proofs.transport.connections.what_is_live_at_an_end.{IsHeld, IsLively, Timely, dr_for, is_there as goes_there}
use Rattle.osi_blameless.proofs.transport.connections.what_is_live_at_an_end.{shuts_of, timely_comes}
use Rattle.osi_blameless.proofs.transport.names.what_keeps_names_apart.{AreApart}
use Rattle.osi_blameless.proofs.transport.connections.which_units_are_for_a_connection.{names}
use Rattle.osi_blameless.proofs.transport.requests.while_no_class_is_selected.{added_there, after_change, set_there}
use Rattle.osi_blameless.proofs.transport.by_place.a_unit_of_the_other_side_passes.{calm, for_one_so, is_lost, lasts, names_after}
use Rattle.osi_blameless.proofs.transport.by_place.a_unit_of_the_other_side_passes.{row_other}
use Rattle.osi_blameless.proofs.transport.by_place.a_unit_of_the_other_side_passes.{stand_on}
use Rattle.osi_blameless.proofs.transport.connections.which_unit_of_the_other_side_passes.{Came, IsCalm, asks_so, came_so, for_one, lost}
use Rattle.osi_blameless.proofs.transport.class_0.a_dt_of_class_zero_passes.{unlike}
use Rattle.osi_blameless.proofs.transport.connections.a_line_since_its_connection_opened.{tracks_hold}

-- ---- small facts

pub no_item : {A : Type 0} (o : Option Connection) (c : Connection) → o ≡ Some c → o ≡ None → A
no_item o c h e = absurd (cc)

past_end : {X : Type 0} (xs : List X) → slice_get xs (length xs) ≡ None
past_end [] = refl
past_end (x ∷ xs) = past_end xs

add_none : {X : Type 0} (xs : List X) (i : ℕ) (x : X) → slice_get (xs ++ x ∷ []) i ≡ None → slice_get xs i ≡ None
add_none [] i x h = refl
add_none (y ∷ ys) zero x h = absurd (cc)
add_none (y ∷ ys) (suc i) x h = add_none ys i x h

-- left has closed nothing that right has open, if it has not refused it
pub open_over : (p k mine : Phase) → is_open mine ≡ true → is_there p ≡ true → (is_refused k ≡ true → is_refused mine ≡ true) →
    (is_closing k ≡ true → is_closing mine ≡ true) → (is_closed k ≡ true → is_closed mine ≡ true) →
    (is_closed p ≡ true → is_closing mine ≡ true) →
    (is_refused p || (is_refused k || (is_closed p || (is_closing p && (is_closing k || is_closed k))))) ≡ true → ⊥
open_over p k mine h there a b c d e = grind arith

-- ---- a CR

module _ (local : Local) (w : Whole) (f : Called local w) (apart : AreApart w.judge.connections)
    (named : AreNamedApart Left w.judge.connections) (v : Value) (ranges : HasFieldsInRange v)
    (calm_after : IsCalm (takes Left v w.judge).state.course) where
  abbrev cs : List Connection
  cs = w.judge.connections

  abbrev more : List Value
  more = w.coming ++ v ∷ []

  abbrev after : Whole
  after = record w { judge = (takes Left v w.judge).state; coming = more }

  module _ (x : Connect) (v_is : v ≡ request x) (is : takes Left v w.judge ≡ asks_kept x w.judge (position is_free cs)) where
    no_name : (r : ℕ) → names r v ≡ false
    no_name r = ap (λ (u : Value). names r u) v_is

    -- the place that it gets
    record Free (p : ℕ) (all : List Connection) : Type 0 where
      conns : (takes Left v w.judge).state.connections ≡ all
      new : slice_get all p ≡ Some (asked_by x)
      item : (i : ℕ) (c : Connection) → slice_get all i ≡ Some c → ((i ≡ p) × (c ≡ asked_by x)) ⊎ ((i ≡ p → ⊥) × (slice_get cs i ≡ Some c))
      none : (i : ℕ) → slice_get all i ≡ None → (i ≡ p → ⊥) × (slice_get cs i ≡ None)
      mine : units_at p f.tagged ≡ []
      asks : units_at p f.came ≡ []
      un : (r : ℕ) → f.refs p ≡ Some r → IsUnlinked w.end r

    busy_open : {A : Type 0} (p : ℕ) (c : Connection) → slice_get cs p ≡ Some c →
        (g : Running f.shut w.end w.coming (units_at p f.tagged) (w.begun && first_at p f.tagged) (f.refs p) c) → is_over Left c ≡ true → A
    busy_open p c at g h =
        let judged = and_first c.is_judged (is_over_by c.left c.seen_by_left) h in
        let s = apart.sound p c at judged in
        let held = tracks_hold Right g.r g.peer g.line g.tracks (ap (λ (y : Connection). y.is_judged) g.judge ∙ judged) in
        absurd (open_over c.left.phase c.seen_by_left.phase c.right.phase g.there
        (ap (λ (y : Connection). is_there y.left.phase) (sym g.judge) ∙ held.judges.there) s.left_knows.refused s.left_knows.closing
        s.left_knows.closed s.left_closed (and_second c.is_judged (is_over_by c.left c.seen_by_left) h))

    abbrev Idle : ℕ → Type 0
    Idle p = (units_at p f.tagged ≡ []) × (units_at p f.came ≡ []) × ((r : ℕ) → f.refs p ≡ Some r → IsUnlinked w.end r)

    idle_by : (p : ℕ) (c : Connection) → slice_get cs p ≡ Some c → is_free c ≡ true →
        Stand local f.shut w.end w.coming (units_at p f.tagged) (units_at p f.came) (w.begun && first_at p f.tagged) (f.refs p) c → Idle p
    idle_by p c at free (comes y a none ask i) = grind (arith, differ, and_second)
    idle_by p c at free (refuses y a reason mine none i seen) = grind (arith, differ, and_second)
    idle_by p c at free (answers h none) = grind (arith, differ, and_second)
    idle_by p c at free (runs g none) = busy_open p c at g (and_first (is_over Left c) (is_over Right c) free)
    idle_by p c at free (past silent up none ask un off) = (none, ask, un)

    free_at : (p : ℕ) (c : Connection) → slice_get cs p ≡ Some c → position is_free cs ≡ Some p → Free p (set cs p (asked_by x))
    free_at p c at e =
        let (mine, asks, un) = idle_by p c at (first_true is_free cs p c e at) (f.stands p c at) in
        record {
          conns = ap (λ (o : Outcome). o.state.connections) is ∙ ap (λ (o : Option ℕ). placed (asked_by x) cs o) e;
          new = set_there cs p (asked_by x) c at;
          item = λ i d h. after_change cs p i (asked_by x) d h;
          none = grind (arith, no_item, set, set_there, set_none);
          mine = mine;
          asks = asks;
          un = un;
        }

    added_item : (i : ℕ) (c : Connection) → ((i ≡ length cs) × (c ≡ asked_by x)) ⊎ (slice_get cs i ≡ Some c) →
        ((i ≡ length cs) × (c ≡ asked_by x)) ⊎ ((i ≡ length cs → ⊥) × (slice_get cs i ≡ Some c))
    added_item i c k = grind (arith, no_item, past_end)

    free_end : position is_free cs ≡ None → Free (length cs) (cs ++ asked_by x ∷ [])
    free_end e =
        let (mine, asks, un) = f.beyond (length cs) (past_end cs) in
        record {
          conns = ap (λ (o : Outcome). o.state.connections) is ∙ ap (λ (o : Option ℕ). placed (asked_by x) cs o) e;
          new = added_there cs (asked_by x);
          item = λ i d h. added_item i d (after_add cs i (asked_by x) d h);
          none = grind (arith, no_item, added_there, add_none);
          mine = mine;
          asks = asks;
          un = un;
        }

    module _ (p : ℕ) (all : List Connection) (free : Free p all) where
      abbrev came_at : List Placed
      came_at = f.came ++ (Some p, v) ∷ []

      abbrev refs : ℕ → Option ℕ
      refs i = if i == p then None else f.refs i

      asks_other : (i : ℕ) → (i ≡ p → ⊥) → units_at i came_at ≡ units_at i f.came
      asks_other i other = grind (arith, at_join, at_other, append-nil)

      asks_here : units_at p came_at ≡ request x ∷ []
      asks_here = grind (arith, at_join, at_first)

      abbrev StandFree : ℕ → Option ℕ → Connection → Type 0
      StandFree i o c = Stand local f.shut w.end more (units_at i f.tagged) (units_at i came_at) (w.begun && first_at i f.tagged) o c

      stand_new : StandFree p None (asked_by x)
      stand_new = comes x (search (arith, (subst HasFieldsInRange v_is ranges))) free.mine (λ lasts. asks_here) refl

      stand_case : (i : ℕ) (c : Connection) (b : Bool) → (i == p) ≡ b → ((i ≡ p) × (c ≡ asked_by x))
          ⊎ ((i ≡ p → ⊥) × (slice_get cs i ≡ Some c)) →
          StandFree i (refs i) c
      stand_case i c true e (inl (same, so)) = grind (arith, stand_new)
      stand_case i c true e (inr (other, there)) = absurd (other (eqb-true i p e))
      stand_case i c false e (inl (same, so)) = absurd (unlike i p e same)
      stand_case i c false e (inr (other, there)) =
          subst (λ (o : Option ℕ). StandFree i o c) (sym (grind arith))
          (stand_on local w f apart named v ranges calm_after (f.refs i) (λ j. units_at j came_at) (search (arith, row_other, no_name)) i c
          (units_at i f.tagged) (units_at i f.came) (w.begun && first_at i f.tagged) (asks_other i other) (f.stands i c there))

      old_ref : (i r : ℕ) (b : Bool) → (i == p) ≡ b → refs i ≡ Some r → f.refs i ≡ Some r
      old_ref i r b e h = grind (arith, no_number)

      top_case : (i : ℕ) (c : Connection) → ((i ≡ p) × (c ≡ asked_by x)) ⊎ ((i ≡ p → ⊥) × (slice_get cs i ≡ Some c)) →
          c.right.reference ≤ f.last
      top_case i c h = grind arith

      two_case : (i : ℕ) (c : Connection) → ((i ≡ p) × (c ≡ asked_by x)) ⊎ ((i ≡ p → ⊥) × (slice_get cs i ≡ Some c)) →
          is_open c.right.phase ≡ true → (takes Left v w.judge).state.course.class ≡ Some Two
      two_case i c h up = grind (arith, lasts)

      course_so : (takes Left v w.judge).state.course ≡ w.judge.course
      course_so = ap (λ (o : Outcome). o.state.course) is

      linked_case : (r peer : ℕ) (l : Standing) → w.end.ended ≡ None → value_at r w.end.live ≡ Some (linked peer l) → (b : Bool) →
          (f.home r == p) ≡ b → refs (f.home r) ≡ Some r
      linked_case r peer l lasts there b e = search (arith, eqb-true)

      strays_case : (ts : List Placed) → AreStrays f.shut w.end f.refs f.home w.judge.course.disconnects.strays ts →
          AreStrays f.shut w.end (λ i. refs i) f.home w.judge.course.disconnects.strays ts
      strays_case [] h = tt
      strays_case ((None, u) ∷ ts) (one, rest) = search (arith, old_ref, strays_case ts rest)
      strays_case ((Some i, u) ∷ ts) (one, rest) = (tt, strays_case ts rest)

      held_case : Timely Right w.end w.coming cs (values f.tagged) → (i : ℕ) (c : Connection) →
          ((i ≡ p) × (c ≡ asked_by x)) ⊎ ((i ≡ p → ⊥) × (slice_get cs i ≡ Some c)) → IsLively Right (IsHeld Right w.end w.coming) c
      held_case h i c (inl (same, so)) j there =
          absurd (cc (sym (ap (λ (y : Connection). goes_there y.right y.left) so) ∙ there))
      held_case h i c (inr (other, at)) j there = h.judges i c at j there

      at_free : Called local after
      at_free = record {
        tagged = f.tagged;
        put = f.put;
        came = came_at;
        come = ap (λ (l : List Value). l ++ v ∷ []) f.come ∙ sym (values_join f.came ((Some p, v) ∷ []));
        refs = λ i. refs i;
        home = f.home;
        shut = f.shut;
        stands = λ i c at. stand_case i c (i == p) refl (free.item i c (ap (λ (l : List Connection). slice_get l i) (sym free.conns) ∙ at));
        beyond = λ i none.
            let (other, gone) = free.none i (ap (λ (l : List Connection). slice_get l i) (sym free.conns) ∙ none) in
            let (a, b, d) = f.beyond i gone in
            (a, asks_other i other ∙ b, λ r h. d r (old_ref i r (i == p) refl h));
        homes = λ i r h. f.homes i r (old_ref i r (i == p) refl h);
        positive = λ i r h. f.positive i r (old_ref i r (i == p) refl h);
        linked_at = λ lasts r peer l there. linked_case r peer l lasts there (f.home r == p) refl;
        shut_given = f.shut_given;
        strays = grind (arith, strays_more, strays_case);
        last = f.last;
        tops = λ i c at. top_case i c (free.item i c (ap (λ (l : List Connection). slice_get l i) (sym free.conns) ∙ at));
        above = f.above;
        class = subst (λ (k : Option Class). (k ≡ None) ⊎ (k ≡ Some Two)) (sym (ap (λ (k : Course). k.class) course_so)) f.class;
        two = λ i c at up. two_case i c (free.item i c (ap (λ (l : List Connection). slice_get l i) (sym free.conns) ∙ at)) up;
        class_seen = grind (arith, course_so);
        past_two = λ h. f.past_two (sym (ap (λ (k : Course). k.class) course_so) ∙ h);
        seen_two = λ h. ap (λ (k : Course). k.class) course_so ∙ f.seen_two (sym (ap (λ (k : Course). k.class_seen) course_so) ∙ h);
        some = f.some;
        few = all_add (IsFor w.end.given) w.coming v f.few (λ m e. absurd (cc (sym (ap destination_of v_is) ∙ e)));
        untagged = all_add Untagged f.came (Some p, v) f.untagged (λ h. absurd (cc h));
        timely = λ none last.
            let h = f.timely ((lasts local w f apart named v ranges calm_after).strays none) last in
            timely_comes Right w.end w.coming cs (takes Left v w.judge).state.connections (values f.tagged) v (ap (shuts_of Right) v_is)
            (ap dr_for v_is)
            (λ i c at. held_case h i c (free.item i c (ap (λ (l : List Connection). slice_get l i) (sym free.conns) ∙ at))) h;
      }

    by_place : (o : Option ℕ) → position is_free cs ≡ o → Called local after
    by_place None e = at_free (length cs) (cs ++ asked_by x ∷ []) (free_end e)
    by_place (Some p) e =
        let (c, at) = first_there is_free cs p p (asked_by x) e in at_free p (set cs p (asked_by x)) (free_at p c at e)

    names_asked : first_failed (request_tests w.judge x) ≡ Kept → AreNamedApart Left (takes Left v w.judge).state.connections
    names_asked kept = grind (arith, passes_each, left_asked, not_true)

  -- ---- any unit

  abbrev AllAfter : Type 0
  AllAfter = Called local after × AreNamedApart Left after.judge.connections

  by_came : Came Left v w.judge (takes Left v w.judge) → AllAfter
  by_came (asks_so x left e kept is) = (by_place x e is (position is_free cs) refl, names_asked x e is kept)
  by_came (for_one n q c dest at name is) = search (arith, for_one_so, names_after)
  by_came (lost i) = (
    is_lost local w f apart named v ranges calm_after (i.m, i.source, i.dc) (may_strays Left w.judge.course.disconnects i.may) i.same,
    subst (λ (s : Traffic). AreNamedApart Left s.connections) (sym i.same) named,
  )

  pub comes_so : w.judge.course.right_erred ≡ false → AllAfter
  comes_so fine =
      let before = calm local w f apart named v ranges calm_after in
      by_came (came_so Left v w.judge (λ m cause e. fine) before.left f.class_seen calm_after)
