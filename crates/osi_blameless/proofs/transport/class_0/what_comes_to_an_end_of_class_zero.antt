-- A unit of the other side passes at the judge of a called end that selects class 0, before the CC has passed, and after it.
-- For the law on a whole called end.
use Rattle.osi_blameless.proofs.transport.Vocabulary.{[], ap, arith, asks_by, Bool, Broke, Class, Connect, Connection, connection_after}
use Rattle.osi_blameless.proofs.transport.Vocabulary.{Course}
use Rattle.osi_blameless.proofs.transport.Vocabulary.{disconnected, false, Finding, first_failed, found_on, Half, has_broken, inl, inr}
use Rattle.osi_blameless.proofs.transport.Vocabulary.{is_applied}
use Rattle.osi_blameless.proofs.transport.Vocabulary.{is_named, is_over, is_over_by, is_refused, Kept, Left, List, list_all, Local, None}
use Rattle.osi_blameless.proofs.transport.Vocabulary.{not, one_told}
use Rattle.osi_blameless.proofs.transport.Vocabulary.{Option, Outcome, position, Reach, reach_of, reached, refl, request, request_tests}
use Rattle.osi_blameless.proofs.transport.Vocabulary.{Right, route}
use Rattle.osi_blameless.proofs.transport.Vocabulary.{route_in, routed, set, slice_get, Some, State, subst, suc, sym, takes, Test, Traffic}
use Rattle.osi_blameless.proofs.transport.Vocabulary.{true}
use Rattle.osi_blameless.proofs.transport.Vocabulary.{unit as passing, Value, Whole, zero, ℕ, ◌&&◌, ◌++◌, ◌||◌, ◌∙◌, ◌∷◌, ◌≡◌, ◌⊎◌}
use Rattle.osi_rules.specs.declared.findings.Rule.TheVariants as rule
use Rattle.osi_blameless.proofs.transport.small_facts_that_many_lemmas_use.{and_first, and_second, differ, item_is, set_other}
use Rattle.osi_blameless.proofs.transport.requests.left_selects_no_class.{left_class}
use Rattle.osi_blameless.proofs.transport.by_place.what_comes_to_an_end.{open_over}
use Rattle.osi_blameless.proofs.transport.names.what_keeps_names_apart.{AreApart}
use Rattle.osi_blameless.proofs.transport.requests.what_lasts_at_the_judge.{lasts_passing}
use Rattle.osi_blameless.proofs.transport.connections.what_stays_of_each_connection.{right_then}
use Rattle.osi_blameless.proofs.transport.connections.which_unit_of_the_other_side_passes.{Came, IsCalm, asks_so as asks_came, calm_before}
use Rattle.osi_blameless.proofs.transport.connections.which_unit_of_the_other_side_passes.{came_so, for_one}
use Rattle.osi_blameless.proofs.transport.connections.which_unit_of_the_other_side_passes.{lost}
use Rattle.osi_blameless.proofs.transport.requests.while_no_class_is_selected.{after_change}
use Rattle.osi_blameless.proofs.transport.class_0.an_end_selects_class_zero.{Selecting}
use Rattle.osi_blameless.proofs.transport.class_0.an_end_goes_on_in_class_zero.{After, IsEarly, IsZeroed, at_name, comes_by, comes_so}
use Rattle.osi_blameless.proofs.transport.class_0.an_end_goes_on_in_class_zero.{to_none}
use Rattle.osi_rules.specs.Traffic.{route_before}

-- ---- small facts

named_not : (a b c : Bool) → (not a && (not b && c)) ≡ true → b ≡ false
named_not a b c h = grind arith

all_there : (f : Connection → Bool) (cs : List Connection) (p : ℕ) (c : Connection) → list_all f cs ≡ true → slice_get cs p ≡ Some c →
    f c ≡ true
all_there f [] p c h at = absurd (cc)
all_there f (x ∷ xs) zero c h at = ap f (sym (item_is x c (Some x) refl at)) ∙ and_first (f x) (list_all f xs) h
all_there f (x ∷ xs) (suc p) c h at = all_there f xs p c (and_second (f x) (list_all f xs) h) at

cr_by : (seen all : Bool) (ts : List Test) → seen ≡ false → first_failed ((seen || all, Broke rule.Negotiating) ∷ ts) ≡ Kept → all ≡ true
cr_by seen all ts e h = grind arith

-- no other CR is right while one waits
cr_not : {A : Type 0} (x : Connect) (s : Traffic) → first_failed (request_tests s x) ≡ Kept → s.course.class_seen ≡ None → (p : ℕ)
    (c : Connection) → slice_get s.connections p ≡ Some c → (is_over Left c ≡ true → ⊥) → A
cr_not x s kept none p c at live = grind (arith, all_there, cr_by)

-- ---- before the CC has passed

reached_seen : (r : Reach) (c : Course) → (reached Left r c).class_seen ≡ c.class_seen
reached_seen r c = grind arith

module _ (w : Whole) (v : Value) (local : Local) (f : Selecting local w) where
  abbrev cs : List Connection
  cs = w.judge.connections

  abbrev after : Whole
  after = record w { judge = (takes Left v w.judge).state; coming = w.coming ++ v ∷ [] }

  calm : IsCalm (takes Left v w.judge).state.course → IsCalm w.judge.course
  calm calm_after = calm_before w.judge.course (takes Left v w.judge).state.course (lasts_passing (passing Left v) w.judge) calm_after

  -- a unit for one connection
  module _ (q : ℕ) (e : Connection) (at : slice_get cs q ≡ Some e) (is : takes Left v w.judge ≡ one_told Left q e v w.judge) where
    abbrev next : Connection
    next =
        connection_after Left v (is_applied (found_on Left w.judge e v)) (reach_of w.judge.course.class_seen (found_on Left w.judge e v)) e

    conns : (takes Left v w.judge).state.connections ≡ set cs q next
    conns = ap (λ (o : Outcome). o.state.connections) is

    item : (i : ℕ) (y : Connection) → slice_get (takes Left v w.judge).state.connections i ≡ Some y →
        ((i ≡ q) × (y ≡ next)) ⊎ ((i ≡ q → ⊥) × (slice_get cs i ≡ Some y))
    item i y h = after_change cs q i next y (ap (λ (l : List Connection). slice_get l i) (sym conns) ∙ h)

    -- what right has sent is as it was
    was_right : (i : ℕ) (y : Connection) → ((i ≡ q) × (y ≡ next)) ⊎ ((i ≡ q → ⊥) × (slice_get cs i ≡ Some y)) →
        (z : Connection) × (slice_get cs i ≡ Some z) × (y.right ≡ z.right)
    was_right i y (inl (same, so)) = (
      e,
      ap (λ (j : ℕ). slice_get cs j) same ∙ at,
      ap (λ (z : Connection). z.right) so
          ∙ right_then v (is_applied (found_on Left w.judge e v)) (reach_of w.judge.course.class_seen (found_on Left w.judge e v)) e,
    )
    was_right i y (inr (other, there)) = (y, there, refl)

    selecting_one : (q ≡ f.p → ⊥) → Selecting local after
    selecting_one other = record {
      x = f.x;
      size = f.size;
      r = f.r;
      p = f.p;
      c = f.c;
      at = ap (λ (l : List Connection). slice_get l f.p) conns ∙ set_other cs q f.p next f.c (λ h. other (sym h)) f.at;
      asked = f.asked;
      selected = f.selected;
      more = f.more;
      put = f.put;
      seen = f.seen;
      class = left_class v w.judge ∙ f.class;
      class_seen = (grind (arith, reached_seen)) ∙ f.class_seen;
      unused = λ i y there same.
          let (z, was, right) = was_right i y (item i y there) in f.unused i z was (ap (λ (h : Half). h.reference) (sym right) ∙ same);
      others = λ i y there not_p.
          let (z, was, right) = was_right i y (item i y there) in
          ap (λ (h : Half). is_refused h.phase) right ∙ f.others i z was not_p;
      end = f.end;
    }

  selecting_by : Came Left v w.judge (takes Left v w.judge) → Selecting local after
  selecting_by (asks_came x left e kept is) = cr_not x w.judge kept f.class_seen f.p f.c f.at (grind (arith, differ, and_second))
  selecting_by (for_one n q e dest at named is) = selecting_one q e at is (grind (arith, item_is, named_not, differ))
  selecting_by (lost idle) =
      subst (λ (s : Traffic). Selecting local (record w { judge = s; coming = w.coming ++ v ∷ [] })) (sym idle.same) (search arith)

  pub selecting_comes : w.judge.course.right_erred ≡ false → IsCalm (takes Left v w.judge).state.course → Selecting local after
  selecting_comes fine after_it =
      selecting_by (came_so Left v w.judge (λ m cause e. fine) (calm after_it).left (inl f.class_seen) after_it)

-- ---- after the CC has passed

module _ (end : State) (units : List Value) (begun : Bool) (s : Traffic) (f : IsZeroed Right end units begun s)
    (apart : AreApart s.connections) where
  -- its connection is not over for left
  not_over : is_over Left f.judge.c ≡ true → ⊥
  not_over h =
      let c = f.judge.c in
      let k = apart.sound f.judge.p c f.judge.at f.judge.opened.judged in
      open_over c.left.phase c.seen_by_left.phase c.right.phase f.judge.opened.up f.judge.opened.there k.left_knows.refused
      k.left_knows.closing k.left_knows.closed k.left_closed (and_second c.is_judged (is_over_by c.left c.seen_by_left) h)

  asks_so : (x : Connect) (g : Finding) → s.course.class_seen ≡ None → first_failed (request_tests s x) ≡ g →
      After Right end units begun s f (asks_by Left g x s)
  asks_so x Kept none is = cr_not x s is none f.judge.p f.judge.c f.judge.at not_over
  asks_so x g none is = to_none Right end units begun s f g

  -- left doesn't know the class yet
  before_comes : (v : Value) → s.course.class_seen ≡ None → After Right end units begun s f (routed Left v s (route_before Left v))
  before_comes (request x) none = asks_so x (first_failed (request_tests s x)) none refl
  before_comes (disconnected n source) none =
      at_name Right end units begun s f (disconnected n source) tt n (position (is_named Left n) s.connections) refl
  before_comes _ none = to_none Right end units begun s f (Broke rule.UnexpectedUnit)

  by_class : (v : Value) (k : Option Class) → s.course.class_seen ≡ k → IsEarly k →
      After Right end units begun s f (routed Left v s (route Left s.course v))
  by_class v k is (inl none) =
      let before = is ∙ none in
      subst (λ (j : Option Class). After Right end units begun s f (routed Left v s (route_in j Left (has_broken Right s.course) v)))
      (sym before) (before_comes v before)
  by_class v k is (inr selected) = comes_by Right end units begun s f v (has_broken Right s.course) s.course.class_seen (is ∙ selected)

  pub selected_comes : (v : Value) → IsZeroed Right end units begun (takes Left v s).state
  selected_comes v = comes_so Right end units begun s f v (by_class v s.course.class_seen refl f.judge.theirs_seen)
