-- An end in class 0, calling or called: what holds once the CC has passed that selects it, as the end goes on, as packets begin and as
-- units pass. For the laws on whole ends.
use Rattle.osi_blameless.proofs.transport.Vocabulary.{ap, arith, at_found, at_place, begins, begun_after, Bool, Broke, Class, class_for}
use Rattle.osi_blameless.proofs.transport.Vocabulary.{Connection}
use Rattle.osi_blameless.proofs.transport.Vocabulary.{connection_after, Course, course_after, course_after_none, data0, Direction}
use Rattle.osi_blameless.proofs.transport.Vocabulary.{disconnected, eqb-true}
use Rattle.osi_blameless.proofs.transport.Vocabulary.{error, false, Finding, found_on, Half, has_broken, IfSome, if◌then◌else◌, inl, inr}
use Rattle.osi_blameless.proofs.transport.Vocabulary.{is_applied}
use Rattle.osi_blameless.proofs.transport.Vocabulary.{is_closed, is_closing, is_live, is_named, is_open, is_over, is_over_by, is_refused}
use Rattle.osi_blameless.proofs.transport.Vocabulary.{is_stopped, Kept}
use Rattle.osi_blameless.proofs.transport.Vocabulary.{Left, length, List, longest_tsdu, MayCall, Named, None, none_told, not, noted}
use Rattle.osi_blameless.proofs.transport.Vocabulary.{NotJudged, one_told}
use Rattle.osi_blameless.proofs.transport.Vocabulary.{Only, Option, option_map, other, Outcome, own, packet_begins, Phase, position, put}
use Rattle.osi_blameless.proofs.transport.Vocabulary.{put_by, put_for}
use Rattle.osi_blameless.proofs.transport.Vocabulary.{Reach, reach_of, reached, react, refl, refused, refused_reach, request, Right, Route}
use Rattle.osi_blameless.proofs.transport.Vocabulary.{route}
use Rattle.osi_blameless.proofs.transport.Vocabulary.{route_in, route_zero, routed, rubbish, seen, sent_on, set, slice_get, slice_get-map}
use Rattle.osi_blameless.proofs.transport.Vocabulary.{Some, State}
use Rattle.osi_blameless.proofs.transport.Vocabulary.{subst, sym, takes, theirs, Traffic, true, unit as passing, Unnamed, unnamed_told}
use Rattle.osi_blameless.proofs.transport.Vocabulary.{user_does}
use Rattle.osi_blameless.proofs.transport.Vocabulary.{UserCall, Value, Zero, ℕ, ◌&&◌, ◌++◌, ◌+◌, ◌==◌, ◌||◌, ◌∙◌, ◌∷◌, ◌≡◌, ◌≤◌, ◌⊎◌}
use Rattle.osi_rules.specs.Traffic.{unnamed}
use Rattle.osi_rules.specs.declared.findings.Rule.TheVariants as rule
use Rattle.osi_blameless.proofs.transport.small_facts_that_many_lemmas_use.{and_not, begun_left, begun_right, both, course_class, differ}
use Rattle.osi_blameless.proofs.transport.small_facts_that_many_lemmas_use.{item_is, live_not_over, or_first, set_other}
use Rattle.osi_blameless.proofs.transport.class_0.a_dt_of_class_zero_passes.{begun_so, dt_conns, dt_course, dt_kept, only_first, unlike}
use Rattle.osi_blameless.proofs.transport.requests.a_refused_request_waits_no_more.{refused_over}
use Rattle.osi_blameless.proofs.transport.requests.class_0_stays_selected.{reached_class, zero_stays}
use Rattle.osi_blameless.proofs.transport.lines.what_a_link_does.{begun_by}
use Rattle.osi_blameless.proofs.transport.class_0.what_an_end_does_in_class_zero.{IsInZero, zero_calls, zero_next, zero_puts, zero_takes}
use Rattle.osi_blameless.proofs.transport.class_0.what_an_end_puts_in_class_zero.{PutsData}
use Rattle.osi_blameless.proofs.transport.lines.what_holds_of_a_line.{is_there}
use Rattle.osi_blameless.proofs.transport.names.what_holds_of_one_item.{after_map, first_true}
use Rattle.osi_blameless.proofs.transport.connections.what_stays_of_each_connection.{left_then, right_then}
use Rattle.osi_blameless.proofs.transport.requests.while_no_class_is_selected.{IsDone, after_change, set_there}

-- ---- what holds

-- A connection that right has refused. A calling end knows that once a packet of it has begun.
abbrev pub IsShut : Direction → (begun : Bool) → Connection → Type 0
IsShut Left begun e = IsDone e × (begun ≡ true → is_over Left e ≡ true)
IsShut Right begun e = IsDone e

-- no class, or class 0
abbrev pub IsEarly : Option Class → Type 0
IsEarly k = (k ≡ None) ⊎ (k ≡ Some Zero)

-- a connection that is open for the end and that the other side has not refused; a unit of the end may have so many octets
pub record IsOpenFor (d : Direction) (limit : ℕ) (c : Connection) : Type 0 where
  pub judged : c.is_judged ≡ true
  pub up : is_open (own d c).phase ≡ true
  pub there : is_there (theirs d c).phase ≡ true
  pub unseen : is_refused (seen d c).phase ≡ false
  pub fits : IfSome c.size (λ most. limit + 3 ≤ most)

-- At the judge: the connection at this place is open, and all others are refused. The end's side knows the class once a packet of it has
-- begun; the other side knows it, or none yet.
pub record ZeroJudge (d : Direction) (begun : Bool) (s : Traffic) : Type 0 where
  pub p : ℕ
  pub c : Connection
  pub limit : ℕ
  pub at : slice_get s.connections p ≡ Some c
  pub opened : IsOpenFor d limit c
  pub class : s.course.class ≡ Some Zero
  pub class_seen : begun ≡ true → class_for d s.course ≡ Some Zero
  pub theirs_seen : IsEarly (class_for (other d) s.course)
  pub others : (i : ℕ) (e : Connection) → slice_get s.connections i ≡ Some e → (i ≡ p → ⊥) → IsShut d begun e

-- the end, the units that it has put, and the judge
pub record IsZeroed (d : Direction) (end : State) (units : List Value) (begun : Bool) (s : Traffic) : Type 0 where
  pub judge : ZeroJudge d begun s
  pub goes : IsInZero judge.limit end (own d judge.c).begun units

-- ---- connections that are refused

pub shut_first : (d : Direction) (e : Connection) → IsDone e → IsShut d false e
shut_first Left e h = (h, λ b. differ false b refl)
shut_first Right e h = h

shut_again : (d : Direction) (b : Bool) (e : Connection) → IsShut d b e → IsShut d false e
shut_again Left b e h = shut_first Left e h.0
shut_again Right b e h = h

shut_over : (d : Direction) (e : Connection) → IsShut d true e → is_over d e ≡ true
shut_over Left e h = h.1 refl
shut_over Right e h = grind (arith, both, or_first)

shut_begins : (d : Direction) (b : Bool) (e : Connection) → IsShut d b e → IsShut d true (begins d e)
shut_begins Left b e h = (h.0, λ k. refused_over e h.0.0 h.0.1)
shut_begins Right b e h = h

shut_beside : (d : Direction) (b : Bool) (e : Connection) → IsShut d b e → IsShut d b (begins (other d) e)
shut_beside Left b e h = h
shut_beside Right b e h = h

-- ---- a connection after a packet has begun, and after a unit

own_begun : (d e : Direction) (c : Connection) → own d (begins e c) ≡ own d c
own_begun Left e c = begun_left e c
own_begun Right e c = begun_right e c

there_not : (p : Phase) → is_there p ≡ true → is_refused p ≡ false
there_not p h = grind arith

open_begun : (d e : Direction) (limit : ℕ) (c : Connection) → IsOpenFor d limit c → IsOpenFor d limit (begins e c)
open_begun Left Left limit c h = search (arith, there_not c.right.phase h.there)
open_begun Left Right limit c h = search arith
open_begun Right Left limit c h = search arith
open_begun Right Right limit c h = search (arith, there_not c.left.phase h.there)

-- its side knows the class then
known_begun : (d : Direction) (s : Traffic) → class_for d (packet_begins d s).course ≡ s.course.class
known_begun Left s = refl
known_begun Right s = refl

known_beside : (d : Direction) (s : Traffic) → class_for d (packet_begins (other d) s).course ≡ class_for d s.course
known_beside Left s = refl
known_beside Right s = refl

early_begun : (d e : Direction) (s : Traffic) → s.course.class ≡ Some Zero → IsEarly (class_for d s.course) →
    IsEarly (class_for d (packet_begins e s).course)
early_begun Left Left s is h = inr is
early_begun Left Right s is h = h
early_begun Right e s is h = inr (course_class e s ∙ is)

-- A unit of the other side that has an effect in class 0 is a DT or a DC.
abbrev pub IsOnly : Value → Type 0
IsOnly (data0 end user) = Unit {0}
IsOnly (disconnected destination source) = Unit {0}
IsOnly _ = ⊥

-- of its connection nothing changes but what that side has sent
module _ (v : Value) (only : IsOnly v) (applied : Bool) (k : Option Class) (early : IsEarly k) (f : Finding) (c : Connection) where
  open_after : (d : Direction) (limit : ℕ) → IsOpenFor d limit c →
      IsOpenFor d limit (connection_after (other d) v applied (reach_of k f) c)
  open_after Left limit h = search arith
  open_after Right limit h = search arith

  own_after : (d : Direction) → own d (connection_after (other d) v applied (reach_of k f) c) ≡ own d c
  own_after Left = left_then v applied (reach_of k f) c
  own_after Right = right_then v applied (reach_of k f) c

  judged_after : (e : Direction) → (connection_after e v applied (reach_of k f) c).is_judged ≡ c.is_judged
  judged_after e = grind arith

  -- A calling end is sent none for a connection that is refused: that is over for the other side.
  shut_after : (d : Direction) (b : Bool) → (is_over (other d) c ≡ true → ⊥) → IsShut d b c →
      IsShut d b (connection_after (other d) v applied (reach_of k f) c)
  shut_after Left b lives h = absurd (lives (grind (arith, both, or_first)))
  shut_after Right b lives h = (judged_after Left ∙ h.0, ap (λ (x : Half). is_refused x.phase) (own_after Right) ∙ h.1)

-- after a DT of the end
open_added : (d : Direction) (limit : ℕ) (last : Bool) (user : List ℕ) (c : Connection) → IsOpenFor d limit c →
    IsOpenFor d limit (sent_on d (data0 last user) c)
open_added Left limit last user c h = search arith
open_added Right limit last user c h = search arith

begun_added : (d : Direction) (last : Bool) (user : List ℕ) (c : Connection) →
    (own d (sent_on d (data0 last user) c)).begun ≡ begun_after (own d c) last (length user)
begun_added Left last user c = refl
begun_added Right last user c = refl

pub other_one : {A : Type 0} (cs : List Connection) (p i : ℕ) (new e : Connection) →
    ((i ≡ p) × (e ≡ new)) ⊎ ((i ≡ p → ⊥) × (slice_get cs i ≡ Some e)) → (i ≡ p → ⊥) → (slice_get cs i ≡ Some e → A) → A
other_one cs p i new e h other k = grind arith

-- ---- the course after a unit

reached_seen : (d e : Direction) (r : Reach) (c : Course) → (reached d r c).class ≡ c.class → class_for e (reached d r c) ≡ class_for e c
reached_seen d e r c h = grind arith

noted_seen : (d e : Direction) (f : Finding) (c : Course) → class_for e (noted d f c) ≡ class_for e c
noted_seen d e f c = grind arith

after_same : (d : Direction) (v : Value) → IsOnly v → (c : Connection) (b : Bool) (o : Course) → course_after d c v b o ≡ o
after_same d v k c b o = grind arith

none_same : (d : Direction) (v : Value) → IsOnly v → (o : Course) → course_after_none d v o ≡ o
none_same d v k o = grind arith

unnamed_is : (d : Direction) (v : Value) → IsOnly v → (s : Traffic) → unnamed_told d v s ≡ none_told d (unnamed d s.course v) s
unnamed_is d v k s = grind (arith, none_same d v k s.course)

-- a unit in class 0 is for no connection, or a DT or a DC
zero_route : (e : Direction) (b : Bool) (v : Value) → ((g : Finding) × (route_zero e b v ≡ Unnamed g))
    ⊎ (IsOnly v × ((route_zero e b v ≡ Only) ⊎ ((n : ℕ) × (route_zero e b v ≡ Named n))))
zero_route Left b (request x) = inl (Broke rule.OneConnection, refl)
zero_route Left b (data0 last user) = inr (tt, inl refl)
zero_route Left b (disconnected n source) = inr (tt, inr (n, refl))
zero_route Left true (error n cause) = inl (Kept, refl)
zero_route Left false (error n cause) = inl (Broke rule.WrongForm, refl)
zero_route Left b _ = inl (Broke rule.WrongForm, refl)
zero_route Right b (request x) = inl (Broke rule.UnexpectedUnit, refl)
zero_route Right b (data0 last user) = inr (tt, inl refl)
zero_route Right b (disconnected n source) = inr (tt, inr (n, refl))
zero_route Right true (error n cause) = inl (Kept, refl)
zero_route Right false (error n cause) = inl (Broke rule.WrongForm, refl)
zero_route Right b _ = inl (Broke rule.WrongForm, refl)

-- ---- the end takes a unit, and its user makes a call

module _ (d : Direction) (end : State) (units : List Value) (begun : Bool) (s : Traffic) (f : IsZeroed d end units begun s) where
  abbrev z : ZeroJudge d begun s
  z = f.judge

  pub zeroed_takes : (u : Value) → IsZeroed d (react u end) (units ++ put_for u end) begun s
  zeroed_takes u = record { judge = z; goes = zero_takes z.limit end (own d z.c).begun units f.goes u }

  pub zeroed_calls : (call : UserCall) → MayCall call end → IsZeroed d (user_does call end) (units ++ put_by call end) begun s
  zeroed_calls call may = record { judge = z; goes = zero_calls z.limit end (own d z.c).begun units call f.goes may }

  -- ---- a packet begins

  begins_so : (e : Direction) (b : Bool) → (b ≡ true → class_for d (packet_begins e s).course ≡ Some Zero) →
      ((x : Connection) → IsShut d begun x → IsShut d b (begins e x)) → IsZeroed d end units b (packet_begins e s)
  begins_so e b class_seen shut = record {
    judge = record {
      p = z.p;
      c = begins e z.c;
      limit = z.limit;
      at = slice_get-map (begins e) s.connections z.p ∙ ap (λ (o : Option Connection). option_map (begins e) o) z.at;
      opened = open_begun d e z.limit z.c z.opened;
      class = course_class e s ∙ z.class;
      class_seen = class_seen;
      theirs_seen = early_begun (other d) e s z.class z.theirs_seen;
      others = λ i x at other.
          let (y, was, is) = after_map (begins e) s.connections i x at in
          subst (IsShut d b) (sym is) (shut y (z.others i y was other));
    };
    goes = subst (λ (h : Half). IsInZero z.limit end h.begun units) (sym (own_begun d e z.c)) f.goes;
  }

  pub zeroed_begins : IsZeroed d end units true (packet_begins d s)
  zeroed_begins = begins_so d true (λ h. known_begun d s ∙ z.class) (λ x h. shut_begins d begun x h)

  pub zeroed_elsewhere : IsZeroed d end units begun (packet_begins (other d) s)
  zeroed_elsewhere = begins_so (other d) begun (λ h. known_beside d s ∙ z.class_seen h) (λ x h. shut_beside d begun x h)

-- ---- a DT of the end passes

live_by : (p k : Phase) → is_open p ≡ true → is_refused k ≡ false →
    (is_refused p || (is_refused k || (is_closed p || (is_closing p && (is_closing k || is_closed k))))) ≡ false
live_by p k h g = grind arith

module _ (d : Direction) (end : State) (s : Traffic) (u : Value) (rest : List Value) (going : is_stopped d s.course ≡ false)
    (f : IsZeroed d end (u ∷ rest) true s) where
  abbrev t : ZeroJudge d true s
  t = f.judge

  live_at : is_live d t.c ≡ true
  live_at = ap not (and_not t.c.is_judged (is_over_by (own d t.c) (seen d t.c))
      (live_by (own d t.c).phase (seen d t.c).phase t.opened.up t.opened.unseen))

  only : position (is_live d) s.connections ≡ Some t.p
  only = only_first d s.connections t.p t.c t.at live_at (λ q e at other. shut_over d e (t.others q e at other))

  abbrev Passes : Type 0
  Passes = ((takes d u s).told.finding ≡ Kept) × IsZeroed d end rest false (takes d u s).state

  module _ (last : Bool) (user : List ℕ) (is : u ≡ data0 last user)
      (puts : (length user ≤ t.limit) × ((own d t.c).begun + length user ≤ longest_tsdu)
      × PutsData t.limit (λ b. Unit {0}) (begun_by (own d t.c).begun last (length user)) rest) where
    abbrev new : Connection
    new = sent_on d (data0 last user) t.c

    fine : (takes d u s).told.finding ≡ Kept
    fine = ap (λ (v : Value). (takes d v s).told.finding) is
        ∙ dt_kept d s t.p t.c t.at t.opened.judged going (t.class_seen refl) only t.limit t.opened.fits last user puts.0 puts.1

    conns : (takes d u s).state.connections ≡ set s.connections t.p new
    conns = ap (λ (v : Value). (takes d v s).state.connections) is
        ∙ dt_conns d s t.p t.c t.at t.opened.judged going (t.class_seen refl) only t.limit t.opened.fits last user puts.0 puts.1

    course : (takes d u s).state.course ≡ s.course
    course = ap (λ (v : Value). (takes d v s).state.course) is
        ∙ dt_course d s t.p t.c t.at t.opened.judged going (t.class_seen refl) only t.limit t.opened.fits last user puts.0 puts.1

    dt_passes : Passes
    dt_passes = (
      fine,
      record {
        judge = record {
          p = t.p;
          c = new;
          limit = t.limit;
          at = ap (λ (l : List Connection). slice_get l t.p) conns ∙ set_there s.connections t.p new t.c t.at;
          opened = open_added d t.limit last user t.c t.opened;
          class = ap (λ (k : Course). k.class) course ∙ t.class;
          class_seen = λ h. differ false h refl;
          theirs_seen = subst (λ (k : Course). IsEarly (class_for (other d) k)) (sym course) t.theirs_seen;
          others = λ i e at other.
              other_one s.connections t.p i new e
              (after_change s.connections t.p i new e (ap (λ (l : List Connection). slice_get l i) (sym conns) ∙ at)) other
              (λ there. shut_again d true e (t.others i e there other));
        };
        goes = zero_next t.limit end (own d t.c).begun (own d new).begun (u ∷ rest) rest
            (λ e h. subst (λ (b : ℕ). PutsData t.limit e b rest)
            (sym (begun_added d last user t.c ∙ begun_so (own d t.c) last (length user) puts.1))
            (subst (PutsData t.limit e (own d t.c).begun) (ap (λ (v : Value). v ∷ rest) is) h).2) f.goes;
      },
    )

  dt_by : (v : Value) → u ≡ v → PutsData t.limit (λ b. Unit {0}) (own d t.c).begun (v ∷ rest) → Passes
  dt_by (data0 last user) e puts = dt_passes last user e puts
  dt_by _ e puts = absurd puts

  passes_now : Passes
  passes_now = dt_by u refl (zero_puts t.limit end (own d t.c).begun (u ∷ rest) f.goes)

pub zeroed_passes : (d : Direction) (end : State) (put : List Value) (begun : Bool) (s : Traffic) (u : Value) (rest : List Value) →
    is_stopped d s.course ≡ false → put ≡ u ∷ rest → begun ≡ true → IsZeroed d end put begun s →
    ((takes d u s).told.finding ≡ Kept) × IsZeroed d end rest false (takes d u s).state
zeroed_passes d end put begun s u rest going is now f =
    passes_now d end s u rest going
    (subst (λ (b : Bool). IsZeroed d end (u ∷ rest) b s) now (subst (λ (l : List Value). IsZeroed d end l begun s) is f))

-- ---- a unit of the other side passes

module _ (d : Direction) (end : State) (units : List Value) (begun : Bool) (s : Traffic) (f : IsZeroed d end units begun s) where
  abbrev y : ZeroJudge d begun s
  y = f.judge

  -- the connection is as it was, and the others are still refused
  stays : (after : Traffic) → slice_get after.connections y.p ≡ Some y.c → after.course.class ≡ Some Zero →
      ((e : Direction) → class_for e after.course ≡ class_for e s.course) →
      ((i : ℕ) (e : Connection) → slice_get after.connections i ≡ Some e → (i ≡ y.p → ⊥) → IsShut d begun e) →
      IsZeroed d end units begun after
  stays after at class known others = record {
    judge = record {
      p = y.p;
      c = y.c;
      limit = y.limit;
      at = at;
      opened = y.opened;
      class = class;
      class_seen = λ h. known d ∙ y.class_seen h;
      theirs_seen = subst IsEarly (sym (known (other d))) y.theirs_seen;
      others = others;
    };
    goes = f.goes;
  }

  abbrev pub After : Outcome → Type 0
  After o = o.state.course.class ≡ Some Zero → IsZeroed d end units begun o.state

  known_after : (r : Reach) (g : Finding) (e : Direction) →
      class_for e (noted (other d) g (reached (other d) r s.course)) ≡ class_for e s.course
  known_after r g e = noted_seen (other d) e g (reached (other d) r s.course)
      ∙ reached_seen (other d) e r s.course (reached_class (other d) r s.course)

  pub to_none : (g : Finding) → After (none_told (other d) g s)
  to_none g class = stays (none_told (other d) g s).state y.at class (known_after (reach_of (class_for (other d) s.course) g) g) y.others

  module _ (v : Value) (only : IsOnly v) where
    to_unnamed : After (unnamed_told (other d) v s)
    to_unnamed =
        subst After (sym (unnamed_is (other d) v only s)) (to_none (unnamed (other d) s.course v))

    -- it is for the connection at this place, which becomes another
    module _ (q : ℕ) (e : Connection) (at : slice_get s.connections q ≡ Some e) where
      abbrev g : Finding
      g = found_on (other d) s e v

      abbrev far : Reach
      far = reach_of (class_for (other d) s.course) g

      abbrev next : Connection
      next = connection_after (other d) v (is_applied g) far e

      abbrev told_so : Traffic
      told_so = (one_told (other d) q e v s).state

      known_new : (x : Direction) → class_for x told_so.course ≡ class_for x s.course
      known_new x = ap (λ (k : Course). class_for x (noted (other d) g (reached (other d) far k)))
          (after_same (other d) v only e (is_applied g) s.course)
          ∙ known_after far g x

      -- the open one
      to_it : q ≡ y.p → After (one_told (other d) q e v s)
      to_it same class =
          let is : e ≡ y.c = item_is e y.c (slice_get s.connections q) at (ap (λ (i : ℕ). slice_get s.connections i) same ∙ y.at) in
          let mine = own_after v only (is_applied g) (class_for (other d) s.course) y.theirs_seen g e d in
          record {
            judge = record {
              p = q;
              c = next;
              limit = y.limit;
              at = set_there s.connections q next e at;
              opened = open_after v only (is_applied g) (class_for (other d) s.course) y.theirs_seen g e d y.limit
                  (subst (IsOpenFor d y.limit) (sym is) y.opened);
              class = class;
              class_seen = λ h. known_new d ∙ y.class_seen h;
              theirs_seen = subst IsEarly (sym (known_new (other d))) y.theirs_seen;
              others = λ i x there not_q.
                  other_one s.connections q i next x (after_change s.connections q i next x there) not_q
                  (λ was. y.others i x was (λ k. not_q (k ∙ sym same)));
            };
            goes = subst (λ (h : Half). IsInZero y.limit end h.begun units) (sym (mine ∙ ap (own d) is)) f.goes;
          }

      -- one that is refused: the calling side may not know that yet
      other_at : (q ≡ y.p → ⊥) → (is_over (other d) e ≡ true → ⊥) → (i : ℕ) (x : Connection) → (i ≡ y.p → ⊥) →
          ((i ≡ q) × (x ≡ next)) ⊎ ((i ≡ q → ⊥) × (slice_get s.connections i ≡ Some x)) → IsShut d begun x
      other_at apart lives i x not_p (inl (here, is)) =
          subst (IsShut d begun) (sym is) (shut_after v only (is_applied g) (class_for (other d) s.course) y.theirs_seen g e d begun lives
          (y.others q e at apart))
      other_at apart lives i x not_p (inr (elsewhere, was)) = y.others i x was not_p

      to_other : (q ≡ y.p → ⊥) → (is_over (other d) e ≡ true → ⊥) → After (one_told (other d) q e v s)
      to_other apart lives class =
          stays told_so (set_other s.connections q y.p next y.c (λ k. apart (sym k)) y.at) class known_new
          (λ i x there not_p. other_at apart lives i x not_p (after_change s.connections q i next x there))

      to_one : (b : Bool) → (q == y.p) ≡ b → (is_over (other d) e ≡ true → ⊥) → After (one_told (other d) q e v s)
      to_one true h lives = to_it (eqb-true q y.p h)
      to_one false h lives = to_other (unlike q y.p h) lives

    at_item : (q : ℕ) (o : Option Connection) → slice_get s.connections q ≡ o →
        ((e : Connection) → slice_get s.connections q ≡ Some e → is_over (other d) e ≡ true → ⊥) → After (at_found (other d) v s q o)
    at_item q None e lives = to_unnamed
    at_item q (Some x) e lives = to_one q x e (q == y.p) refl (lives x e)

    pub at_name : (n : ℕ) (o : Option ℕ) → position (is_named (other d) n) s.connections ≡ o → After (at_place (other d) v s o)
    at_name n None e = to_unnamed
    at_name n (Some q) e = at_item q (slice_get s.connections q) refl (λ x at gone. grind (arith, first_true))

    at_live : (o : Option ℕ) → position (is_live (other d)) s.connections ≡ o → After (at_place (other d) v s o)
    at_live None e = to_unnamed
    at_live (Some q) e =
        at_item q (slice_get s.connections q) refl
        (λ x at gone. live_not_over (is_over (other d) x) (first_true (is_live (other d)) s.connections q x e at) gone)

    at_only : (r : Route) → (r ≡ Only) ⊎ ((n : ℕ) × (r ≡ Named n)) → After (routed (other d) v s r)
    at_only r (inl is) = subst (λ (x : Route). After (routed (other d) v s x)) (sym is)
        (at_live (position (is_live (other d)) s.connections) refl)
    at_only r (inr (n, is)) = subst (λ (x : Route). After (routed (other d) v s x)) (sym is)
        (at_name n (position (is_named (other d) n) s.connections) refl)

  by_route : (v : Value) (r : Route) → ((g : Finding) × (r ≡ Unnamed g)) ⊎ (IsOnly v × ((r ≡ Only) ⊎ ((n : ℕ) × (r ≡ Named n)))) →
      After (routed (other d) v s r)
  by_route v r (inl (g, is)) = subst (λ (x : Route). After (routed (other d) v s x)) (sym is) (to_none g)
  by_route v r (inr (only, is)) = at_only v only r is

  pub comes_by : (v : Value) (b : Bool) (k : Option Class) → k ≡ Some Zero → After (routed (other d) v s (route_in k (other d) b v))
  comes_by v b k is = subst (λ (x : Option Class). After (routed (other d) v s (route_in x (other d) b v))) (sym is)
      (by_route v (route_zero (other d) b v) (zero_route (other d) b v))

  -- that side is not judged any more, or knows the class
  stopped_comes : (v : Value) (b : Bool) (o : Outcome) → After o → After (if b then none_told (other d) NotJudged s else o)
  stopped_comes v true o h = to_none NotJudged
  stopped_comes v false o h = h

  pub comes_so : (v : Value) → After (routed (other d) v s (route (other d) s.course v)) →
      IsZeroed d end units begun (takes (other d) v s).state
  comes_so v h = stopped_comes v (is_stopped (other d) s.course) (routed (other d) v s (route (other d) s.course v)) h
      (zero_stays (passing (other d) v) s y.class)

  pub zeroed_comes : (v : Value) → class_for (other d) s.course ≡ Some Zero → IsZeroed d end units begun (takes (other d) v s).state
  zeroed_comes v is = comes_so v (comes_by v (has_broken (other (other d)) s.course) (class_for (other d) s.course) is)

  pub zeroed_refused : IsZeroed d end units begun (refused (other d) s)
  zeroed_refused = stays (refused (other d) s) y.at (zero_stays (rubbish (other d)) s y.class)
      (λ e. reached_seen (other d) e (refused_reach (other d) s) s.course (reached_class (other d) (refused_reach (other d) s) s.course))
      y.others
