-- A whole called end selects class 0: what holds until its CC has passed, as the end goes on and packets begin; and the CC passes, which is
-- right. For the law on a whole called end.
use Rattle.osi_blameless.proofs.transport.Vocabulary.{[], accept, acceptance, ap, arith, begins, Bool, confirm, Connect, Connection, Course}
use Rattle.osi_blameless.proofs.transport.Vocabulary.{course_after}
use Rattle.osi_blameless.proofs.transport.Vocabulary.{Direction, eq-eqb, false, found, found_on, Half, IfSome, inl, is_named, is_refused}
use Rattle.osi_blameless.proofs.transport.Vocabulary.{Kept, List}
use Rattle.osi_blameless.proofs.transport.Vocabulary.{list_any, Local, map, MayCall, min, None, Option, option_map, packet_begins, position}
use Rattle.osi_blameless.proofs.transport.Vocabulary.{position_or_len, pow-le-pow_right, put_by, put_for, react, refl, Right, selected_by}
use Rattle.osi_blameless.proofs.transport.Vocabulary.{sent_on, set}
use Rattle.osi_blameless.proofs.transport.Vocabulary.{slice_get, Some, subst, suc, sym, takes, Traffic, true, unit_octets, user_does}
use Rattle.osi_blameless.proofs.transport.Vocabulary.{UserCall, uses}
use Rattle.osi_blameless.proofs.transport.Vocabulary.{uses_source, Value, Whole, Zero, zero, ℕ, ◌++◌, ◌+◌, ◌-◌, ◌==◌, ◌^◌, ◌∙◌, ◌∷◌, ◌≡◌}
use Rattle.osi_blameless.proofs.transport.Vocabulary.{◌≤◌}
use Rattle.osi_blameless.proofs.transport.small_facts_that_many_lemmas_use.{begun_right, course_class, item_is, and_false, any_none}
use Rattle.osi_blameless.proofs.transport.small_facts_that_many_lemmas_use.{first_is, judged_so, name_so, rest_is, unequal, differ}
use Rattle.osi_blameless.proofs.transport.by_place.each_connection_has_its_place.{Asked}
use Rattle.osi_blameless.proofs.transport.class_0.what_an_end_does_in_class_zero.{IsInZero, zero_calls, zero_takes}
use Rattle.osi_blameless.proofs.transport.lines.what_holds_of_a_line.{is_there}
use Rattle.osi_blameless.proofs.transport.names.what_holds_of_one_item.{after_map, HoldsOfEach, first_true}
use Rattle.osi_blameless.proofs.transport.names.a_right_unit_is_not_blamed.{first_there, is_first}
use Rattle.osi_blameless.proofs.transport.names.all_are_judged_unless_one_broke.{IsJudged}
use Rattle.osi_blameless.proofs.transport.lines.how_a_connection_opens.{zero_right}
use Rattle.osi_blameless.proofs.transport.by_place.how_a_unit_of_right_passes.{conns_kept, course_kept, finding_kept, use_so}
use Rattle.osi_blameless.proofs.transport.names.what_keeps_names_apart.{AreApart}
use Rattle.osi_blameless.proofs.transport.requests.while_no_class_is_selected.{after_change, set_there}
use Rattle.osi_blameless.proofs.transport.class_0.an_end_goes_on_in_class_zero.{IsZeroed, other_one}
use Rattle.osi_blameless.proofs.transport.Vocabulary.{State}

-- ---- the CC has been put

pub record Selecting (local : Local) (w : Whole) : Type 0 where
  pub x : Connect
  pub size : Option ℕ
  pub r : ℕ
  pub p : ℕ
  pub c : Connection
  pub at : slice_get w.judge.connections p ≡ Some c
  pub asked : Asked x c
  pub selected : selected_by x local ≡ accept Zero size
  pub more : List Value
  pub put : w.put ≡ confirm x.source (acceptance Zero size x local r) ∷ more
  pub seen : w.begun ≡ true → c.seen_by_right ≡ c.left
  pub class : w.judge.course.class ≡ None
  pub class_seen : w.judge.course.class_seen ≡ None
  pub unused : (i : ℕ) (e : Connection) → slice_get w.judge.connections i ≡ Some e → e.right.reference ≡ r → ⊥
  pub others : (i : ℕ) (e : Connection) → slice_get w.judge.connections i ≡ Some e → (i ≡ p → ⊥) → is_refused e.right.phase ≡ true
  pub end : IsInZero (unit_octets size - 3) w.end 0 more

-- ---- the end takes a unit, and its user makes a call

-- it puts these units then, and is in class 0 still
selecting_more : (local : Local) (w : Whole) (f : Selecting local w) (end : State) (units later : List Value) →
    IsInZero (unit_octets f.size - 3) end 0 (f.more ++ units) →
    Selecting local (record w { end = end; put = w.put ++ units; coming = later })
selecting_more local w f end units later in_zero = record {
  x = f.x;
  size = f.size;
  r = f.r;
  p = f.p;
  c = f.c;
  at = f.at;
  asked = f.asked;
  selected = f.selected;
  more = f.more ++ units;
  put = ap (λ (l : List Value). l ++ units) f.put;
  seen = f.seen;
  class = f.class;
  class_seen = f.class_seen;
  unused = f.unused;
  others = f.others;
  end = in_zero;
}

pub selecting_takes : (local : Local) (w : Whole) (u : Value) (later : List Value) → Selecting local w →
    Selecting local (record w { end = react u w.end; put = w.put ++ put_for u w.end; coming = later })
selecting_takes local w u later f =
    selecting_more local w f (react u w.end) (put_for u w.end) later (zero_takes (unit_octets f.size - 3) w.end 0 f.more f.end u)

pub selecting_calls : (local : Local) (w : Whole) (call : UserCall) → MayCall call w.end → Selecting local w →
    Selecting local (record w { end = user_does call w.end; put = w.put ++ put_by call w.end })
selecting_calls local w call may f =
    selecting_more local w f (user_does call w.end) (put_by call w.end) w.coming
    (zero_calls (unit_octets f.size - 3) w.end 0 f.more call f.end may)

-- ---- a packet begins

mapped : (d : Direction) (cs : List Connection) (p : ℕ) (c : Connection) → slice_get cs p ≡ Some c →
    slice_get (map (begins d) cs) p ≡ Some (begins d c)
mapped d [] p c h = absurd (cc)
mapped d (x ∷ cs) zero c h = ap (λ (e : Connection). Some (begins d e)) (item_is x c (Some x) refl h)
mapped d (x ∷ cs) (suc p) c h = mapped d cs p c h

pub selecting_begins : (local : Local) (d : Direction) (w : Whole) (b : Bool) →
    ((c : Connection) → (w.begun ≡ true → c.seen_by_right ≡ c.left) →
    b ≡ true → (begins d c).seen_by_right ≡ (begins d c).left) → Selecting local w →
    Selecting local (record w { begun = b; judge = packet_begins d w.judge })
selecting_begins local d w b seen f = record {
  x = f.x;
  size = f.size;
  r = f.r;
  p = f.p;
  c = begins d f.c;
  at = mapped d w.judge.connections f.p f.c f.at;
  asked = grind arith;
  selected = f.selected;
  more = f.more;
  put = f.put;
  seen = seen f.c f.seen;
  class = course_class d w.judge ∙ f.class;
  class_seen = grind arith;
  unused = grind (arith, after_map, begun_right);
  others = search (arith, after_map, begun_right);
  end = f.end;
}

two_power : (n code : ℕ) → 7 ≤ n → (7 ≤ code) × (code ≤ 13) → 2 ^ 7 ≤ 2 ^ (min code n)
two_power n code k h =
    let up : 7 ≤ min code n = grind arith in pow-le-pow_right {n = 2} (omega arith) up

fits_cc : (x : Connect) (local : Local) (size : Option ℕ) (c : Connection) → Asked x c → selected_by x local ≡ accept Zero size →
    IfSome (option_map (λ code. 2 ^ code) size) (λ most. (unit_octets size - 3) + 3 ≤ most)
fits_cc x local size c a e = search (arith, two_power)

-- ---- the CC passes

module _ (local : Local) (w : Whole) (apart : AreApart w.judge.connections) (judged : HoldsOfEach IsJudged w.judge.connections)
    (right : w.judge.course.right_stopped ≡ false) (u : Value) (rest : List Value) (begun : w.begun ≡ true) (put : w.put ≡ u ∷ rest) where
  abbrev all : List Connection
  all = w.judge.connections

  abbrev passed : Traffic
  passed = (takes Right u w.judge).state

  abbrev IsFine : Type 0
  IsFine = (takes Right u w.judge).told.finding ≡ Kept

  name_first : (n p : ℕ) (c : Connection) → slice_get all p ≡ Some c → is_named Right n c ≡ true → position (is_named Right n) all ≡ Some p
  name_first n p c at named =
      let q = position_or_len (is_named Right n) all in
      let first = is_first (is_named Right n) all p c at named in
      let (e, there) = first_there (is_named Right n) all p q c first in
      let so = first_true (is_named Right n) all q e first there in
      let same : p ≡ q = apart.named_right n p q c e at there (judged p c at) (judged q e there) named so in
      first ∙ ap (λ (i : ℕ). Some i) (sym same)

  module _ (f : Selecting local w) where
    abbrev cc_is : Value
    cc_is = confirm f.x.source (acceptance Zero f.size f.x local f.r)

    u_cc : u ≡ cc_is
    u_cc = first_is u cc_is rest f.more (sym put ∙ f.put)

    cc_named : is_named Right f.x.source f.c ≡ true
    cc_named = grind (arith, name_so, and_false, eq-eqb)

    unused_so : list_any (λ (e : Connection). uses Right f.r e) all ≡ false
    unused_so = any_none (λ (e : Connection). uses Right f.r e) all (λ i e there.
        grind (arith, use_so, unequal e.right.reference f.r (e.right.reference == f.r) refl (f.unused i e there)))

    cc_kept : found_on Right w.judge f.c u ≡ Kept
    cc_kept = ap (λ (v : Value). found_on Right w.judge f.c v) u_cc
        ∙ judged_so f.c.is_judged (found Right w.judge.course (uses_source Right all cc_is) f.c cc_is) Kept (judged f.p f.c f.at)
        (grind (arith, unused_so, zero_right local f.x f.size f.r f.c w.judge.course f.selected f.asked.offer f.asked.right f.class))

    abbrev cc_next : Connection
    cc_next = sent_on Right cc_is f.c

    cc_conns : (takes Right u w.judge).state.connections ≡ set all f.p cc_next
    cc_conns = grind (arith, conns_kept, u_cc, cc_named, name_first, cc_kept)

    cc_course : (takes Right u w.judge).state.course ≡ course_after Right f.c cc_is true w.judge.course
    cc_course = grind (arith, course_kept, u_cc, cc_named, name_first, cc_kept)

    pub selecting_passes : IsFine × IsZeroed Right w.end rest false passed
    selecting_passes = (
      finding_kept u w.judge f.x.source f.p f.c right (grind (arith, u_cc)) (grind (arith, cc_named, name_first)) f.at cc_kept,
      record {
        judge = record {
          p = f.p;
          c = cc_next;
          limit = unit_octets f.size - 3;
          at = ap (λ (l : List Connection). slice_get l f.p) cc_conns ∙ set_there all f.p cc_next f.c f.at;
          opened = record {
            judged = judged f.p f.c f.at;
            up = refl;
            there = ap (λ (h : Half). is_there h.phase) f.asked.left;
            unseen = ap (λ (h : Half). is_refused h.phase) (f.seen begun ∙ f.asked.left);
            fits = fits_cc f.x local f.size f.c f.asked f.selected;
          };
          class = ap (λ (k : Course). k.class) cc_course;
          class_seen = λ h. differ false h refl;
          theirs_seen = inl (ap (λ (k : Course). k.class_seen) cc_course ∙ f.class_seen);
          others = λ i e at other.
              other_one all f.p i cc_next e
              (after_change all f.p i cc_next e (ap (λ (l : List Connection). slice_get l i) (sym cc_conns) ∙ at)) other
              (λ there. (judged i e there, f.others i e there other));
        };
        goes = subst (λ (l : List Value). IsInZero (unit_octets f.size - 3) w.end cc_next.right.begun l)
            (sym (rest_is u cc_is rest f.more (sym put ∙ f.put)))
            (subst (λ (b : ℕ). IsInZero (unit_octets f.size - 3) w.end b f.more) (sym (ap (λ (h : Half). h.begun) f.asked.right)) f.end);
      },
    )
