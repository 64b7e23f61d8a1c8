-- A unit of the other side passes at the judge of a whole calling end: what it does to the line of its connection, and to no other.
-- For the law on a whole end.
use Rattle.osi_blameless.proofs.transport.Vocabulary.{[], after_finding, agreed_size, ap, arith, asked, Bool, Broke, Class, class_for}
use Rattle.osi_blameless.proofs.transport.Vocabulary.{class_of, confirm}
use Rattle.osi_blameless.proofs.transport.Vocabulary.{Connect, Connection, connection_after, Course, course_after, destination_of, eqb-true}
use Rattle.osi_blameless.proofs.transport.Vocabulary.{false}
use Rattle.osi_blameless.proofs.transport.Vocabulary.{Finding, finding_of, found_on, Half, half_after, HasFieldsInRange, if◌then◌else◌, inl}
use Rattle.osi_blameless.proofs.transport.Vocabulary.{inr}
use Rattle.osi_blameless.proofs.transport.Vocabulary.{is_applied, is_closed, is_closing, is_open, is_over, is_refused, is_silent, is_some}
use Rattle.osi_blameless.proofs.transport.Vocabulary.{Kept, Left}
use Rattle.osi_blameless.proofs.transport.Vocabulary.{Line, List, list_any, Local, None, not, noted, opened_line, opened_link, Option}
use Rattle.osi_blameless.proofs.transport.Vocabulary.{Outcome}
use Rattle.osi_blameless.proofs.transport.Vocabulary.{passes_other, Phase, Reach, reach_of, reached, refl, request, Right, sent_on, set}
use Rattle.osi_blameless.proofs.transport.Vocabulary.{slice_get, Some}
use Rattle.osi_blameless.proofs.transport.Vocabulary.{subst, sym, takes, true, Two, unit as passing, uses, uses_source, Value, value_at}
use Rattle.osi_blameless.proofs.transport.Vocabulary.{Whole, Zero, ℕ}
use Rattle.osi_blameless.proofs.transport.Vocabulary.{◌&&◌, ◌++◌, ◌<◌, ◌==◌, ◌||◌, ◌∙◌, ◌∷◌, ◌≡◌, ◌≢◌, ◌⊎◌}
use Rattle.osi_rules.specs.declared.findings.Reach.TheVariants as reach
use Rattle.osi_rules.specs.declared.findings.Rule.TheVariants as rule
use Rattle.osi_blameless.proofs.transport.small_facts_that_many_lemmas_use.{and_false as none_begun, and_first, and_not, and_second, both}
use Rattle.osi_blameless.proofs.transport.small_facts_that_many_lemmas_use.{differ, no_two}
use Rattle.osi_blameless.proofs.transport.small_facts_that_many_lemmas_use.{set_other, sized_judged, some_same as item_is}
use Rattle.osi_blameless.proofs.transport.names.a_reference_names_one_connection.{not_first}
use Rattle.osi_blameless.proofs.transport.names.names_stay_apart_though_one_is_lost.{AreNamedApart, each_sound, right_set}
use Rattle.osi_blameless.proofs.transport.names.names_stay_apart_though_one_is_lost.{applied_ends_none}
use Rattle.osi_blameless.proofs.transport.requests.a_request_of_a_whole_end_is_new.{Newer, rise_all}
use Rattle.osi_blameless.proofs.transport.connections.no_two_open_connections_have_one_peer.{left_open, right_there, there_not_silent}
use Rattle.osi_blameless.proofs.transport.connections.no_two_open_connections_have_one_peer.{uses_tracked}
use Rattle.osi_blameless.proofs.transport.by_line.a_unit_of_the_end_passes.{all_two}
use Rattle.osi_blameless.proofs.transport.by_line.each_connection_has_its_line.{why_before, Followed, Following, IsAnswer, IsAsking}
use Rattle.osi_blameless.proofs.transport.by_line.each_connection_has_its_line.{IsNoCc, IsOwned, Tracked}
use Rattle.osi_blameless.proofs.transport.by_line.each_connection_has_its_line.{AreGiven, AreSettled, Waiting, all_so, asking, asks}
use Rattle.osi_blameless.proofs.transport.by_line.each_connection_has_its_line.{is_tracked, is_waiting, of}
use Rattle.osi_blameless.proofs.transport.by_line.each_connection_has_its_line.{stray}
use Rattle.osi_blameless.proofs.transport.lines.how_a_connection_opens.{opens_by_the_cc_that_comes}
use Rattle.osi_blameless.proofs.transport.names.what_holds_of_one_item.{none_true}
use Rattle.osi_blameless.proofs.transport.names.what_keeps_names_apart.{Sound}
use Rattle.osi_blameless.proofs.transport.requests.what_lasts_at_the_judge.{IsCalm, lasts_passing}
use Rattle.osi_blameless.proofs.transport.connections.what_stays_of_each_connection.{judged_was, left_then, right_judged, right_own}
use Rattle.osi_blameless.proofs.transport.names.what_belongs_to_no_open_connection.{strays_last}
use Rattle.osi_blameless.proofs.transport.connections.what_the_other_side_closes.{IsSane, is_name}
use Rattle.osi_blameless.proofs.transport.connections.which_units_are_for_a_connection.{IsOf, dc_not_ours, is_dc, is_ours, leads_none}
use Rattle.osi_blameless.proofs.transport.connections.which_units_are_for_a_connection.{named_not, named_so, names}
use Rattle.osi_blameless.proofs.transport.connections.which_units_are_for_a_connection.{picked_more, ours_not, picked_none, those}
use Rattle.osi_blameless.proofs.transport.requests.while_no_class_is_selected.{after_change, set_there}
use Rattle.osi_blameless.proofs.transport.connections.what_becomes_of_a_connection.{Answered, Told, answered, cc_idle, cc_loose, cc_lost}
use Rattle.osi_blameless.proofs.transport.connections.what_becomes_of_a_connection.{not_selected, open_stays}
use Rattle.osi_blameless.proofs.transport.connections.what_becomes_of_a_connection.{opens, refused, waits_on}
use Rattle.osi_blameless.proofs.transport.by_line.what_has_come_with_one_unit_more.{early_other, following_other, row_add, row_or}
use Rattle.osi_blameless.proofs.transport.by_line.what_has_come_with_one_unit_more.{spares_on, waiting_dc}
use Rattle.osi_blameless.proofs.transport.by_line.what_has_come_with_one_unit_more.{waiting_other}
use Rattle.osi_blameless.proofs.transport.small_facts_that_many_lemmas_use.{half_started}
use Rattle.osi_blameless.proofs.transport.class_0.a_dt_of_class_zero_passes.{unlike}
use Rattle.osi_blameless.proofs.transport.small_facts_that_many_lemmas_use.{all_add}
use Rattle.osi_blameless.proofs.transport.connections.a_line_since_its_connection_opened.{tracks_on}

-- ---- phases

refused_parts : (p : Phase) → is_refused p ≡ true → ((is_open p || is_closing p) ≡ false) × (is_silent p ≡ false)
refused_parts p h = grind arith

refused_over : (k : Phase) (p : Phase) → is_refused p ≡ true →
    (is_refused p || (is_refused k || (is_closed p || (is_closing p && (is_closing k || is_closed k))))) ≡ true
refused_over k p h = grind arith

closed_over : (k : Phase) → (is_refused k || (true || (false && (is_closing k || is_closed k)))) ≡ true
closed_over k = grind arith

course_same : (c : Connection) (v : Value) (b : Bool) (course : Course) → ((m : ℕ) (x : Connect) → v ≡ confirm m x → ⊥) →
    (course_after Right c v b course).class ≡ course.class
course_same c v b course h = grind arith

course_idle : (c : Connection) (v : Value) (course : Course) → (course_after Right c v false course).class ≡ course.class
course_idle c v course = grind arith

-- what left knows stays as right sends
known_then : (v : Value) (applied : Bool) (r : Reach) (c : Connection) →
    (connection_after Right v applied r c).seen_by_left ≡ c.seen_by_left
known_then v applied r c = grind arith

pub dc_no_cc : (v : Value) → is_dc v ≡ true → (m : ℕ) (x : Connect) → v ≡ confirm m x → ⊥
dc_no_cc v dc m x e = cc (sym (ap is_dc e) ∙ dc)

reached_same : (r : Reach) (course : Course) → (reached Right r course).class ≡ course.class
reached_same r c = grind arith

data Kind (c : Connection) : Type 0 where
  stands : is_tracked c ≡ true → Kind c
  waits_yet : is_waiting c ≡ true → is_silent c.right.phase ≡ true → is_tracked c ≡ false → c.is_judged ≡ true → Kind c
  is_past : is_open c.left.phase ≡ false → is_silent c.right.phase ≡ false → Kind c

module _ (local : Local) (w : Whole) (f : Followed local w) (sane : IsSane w.judge) (peers : AreNamedApart Right w.judge.connections)
    (newer : Newer w) (v : Value) (ranges : HasFieldsInRange v) (t : Told v w.judge (takes Right v w.judge))
    (calm_after : IsCalm (takes Right v w.judge).state.course)
    (none_zero : (takes Right v w.judge).state.course.class ≡ Some Zero → ⊥) where
  abbrev cs : List Connection
  cs = w.judge.connections

  abbrev c : Connection
  c = t.c

  abbrev more : List Value
  more = w.coming ++ v ∷ []

  abbrev after : Whole
  after = record w { judge = (takes Right v w.judge).state; coming = more }

  sound_c : Sound c
  sound_c = each_sound Right cs sane.apart peers t.q c t.at

  abbrev found_so : Finding
  found_so = found_on Right w.judge c v

  abbrev far : Reach
  far = reach_of (class_for Right w.judge.course) found_so

  abbrev nxt : Connection
  nxt = connection_after Right v (is_applied found_so) far c

  abbrev course_so : Course
  course_so = noted Right found_so (reached Right far (course_after Right c v (is_applied found_so) w.judge.course))

  conns : (takes Right v w.judge).state.connections ≡ set cs t.q nxt
  conns = ap (λ (o : Outcome). o.state.connections) t.is

  course_is : (takes Right v w.judge).state.course ≡ course_so
  course_is = ap (λ (o : Outcome). o.state.course) t.is

  calm_so : IsCalm course_so
  calm_so = subst IsCalm course_is calm_after

  abbrev strays_after : Bool
  strays_after = (takes Right v w.judge).state.course.disconnects.strays

  strays_on : w.judge.course.disconnects.strays ≡ true → strays_after ≡ true
  strays_on h = strays_last (passing Right v) w.judge h

  name_is : c.left.reference ≡ t.n
  name_is = is_name c t.n sound_c t.named

  nxt_left : nxt.left ≡ c.left
  nxt_left = left_then v (is_applied found_so) far c

  nxt_at : slice_get (takes Right v w.judge).state.connections t.q ≡ Some nxt
  nxt_at = ap (λ (l : List Connection). slice_get l t.q) conns ∙ set_there cs t.q nxt c t.at

  live : is_over Right c ≡ false
  live = not_first (is_over Right c) (not (is_silent c.seen_by_right.phase) && (c.seen_by_right.reference == t.n)) t.named

  -- ---- what it is

  kind_by : (b : Bool) → is_open c.left.phase ≡ b → Kind c
  kind_by true e = grind arith
  kind_by false e = is_past e (grind (arith, differ))

  -- ---- the connection after it

  -- it selects no class
  abbrev SameClass : Type 0
  SameClass = course_so.class ≡ w.judge.course.class

  data Next : Type 0 where
    goes_on : is_tracked c ≡ true → is_tracked nxt ≡ true → nxt.right.reference ≡ c.right.reference → SameClass →
        Following local w.put w.begun strays_after w.end more nxt → Next
    opened : is_tracked c ≡ false → is_silent c.right.phase ≡ true → is_tracked nxt ≡ true →
        Following local w.put w.begun strays_after w.end more nxt →
        (w.end.ended ≡ None → value_at t.n w.end.live ≡ Some asked) → course_so.class ≡ Some Two → Next
    -- a DC that is not judged
    quiet : is_tracked c ≡ false → nxt ≡ c → is_dc v ≡ true → Next
    -- the end awaits no CC for it
    gone : is_tracked c ≡ false → is_tracked nxt ≡ false → is_silent nxt.right.phase ≡ false →
        ((m : ℕ) (x : Connect) → v ≡ confirm m x → (is_silent c.right.phase ≡ false)
        × (w.end.ended ≡ None → value_at t.n w.end.live ≡ Some asked → ⊥)) → SameClass →
        (nxt.is_judged ≡ false → (is_open nxt.right.phase || is_closing nxt.right.phase) ≡ true) → Next

  -- a CC has no effect on a connection that was answered
  cc_none : (j : Bool) → c.is_judged ≡ j → is_silent c.right.phase ≡ false → (m : ℕ) (x : Connect) → v ≡ confirm m x →
      is_applied found_so ≡ false
  cc_none j judged there m x e = grind (arith, cc_idle, sound_c)

  -- so it comes only if a connection has lost its judgement
  cc_late : {A : Type 0} → (takes Right v w.judge).state.course.loose ≡ false → is_silent c.right.phase ≡ false → (m : ℕ) (x : Connect) →
      v ≡ confirm m x → A
  cc_late firm there m x e =
      let judged = sane.judged ((lasts_passing (passing Right v) w.judge).firm firm) t.q c t.at in
      grind (arith, differ, cc_loose, sound_c, course_is)

  same_by : (b : Bool) → is_applied found_so ≡ b → (b ≡ true → (m : ℕ) (x : Connect) → v ≡ confirm m x → ⊥) → SameClass
  same_by true e none =
      reached_same far (course_after Right c v (is_applied found_so) w.judge.course)
      ∙ course_same c v (is_applied found_so) w.judge.course (none refl)
  same_by false e none =
      reached_same far (course_after Right c v (is_applied found_so) w.judge.course)
      ∙ ap (λ (b : Bool). (course_after Right c v b w.judge.course).class) e ∙ course_idle c v w.judge.course

  class_kept : is_silent c.right.phase ≡ false → SameClass
  class_kept there = same_by (is_applied found_so) refl
      (λ applied m x e. differ (is_applied found_so) applied (cc_none c.is_judged refl there m x e))

  line_on : (tracked : is_tracked c ≡ true) → nxt.right.reference ≡ c.right.reference →
      Following local w.put w.begun strays_after w.end more nxt
  line_on tracked right =
      let g = f.lines t.q c t.at tracked in
      let in_use = uses_source Right cs v in
      let class = f.two c.left.reference (t.q, c, t.at, tracked, refl) in
      let r_is : t.n ≡ g.r = sym name_is ∙ g.left in
      let dest : destination_of v ≡ Some g.r = t.dest ∙ ap (λ (i : ℕ). Some i) r_is in
      let line : Line = record g.line {
        judge = after_finding Right (finding_of Right w.judge.course in_use g.line.judge v) v g.line.judge;
        coming = g.line.coming ++ v ∷ [];
      } in
      let judge : line.judge ≡ nxt = grind arith in
      let some : reach_of (Some Two) (finding_of Right w.judge.course in_use g.line.judge v) ≢ reach.Everything = λ e.
      differ course_so.left_stopped (grind arith) calm_so.left in
      record {
        r = g.r;
        peer = g.peer;
        line = line;
        left = ap (λ (x : Half). x.reference) nxt_left ∙ g.left;
        right = right ∙ g.right;
        tracks = tracks_on Left g.r g.peer g.line line (passes_other w.judge.course in_use v ∷ []) g.tracks
            (line, (ranges, dest, some, refl), refl);
        judge = judge;
        spare = g.spare;
        put_is = g.put_is;
        spares = spares_on w.judge.course.disconnects.strays strays_after g.r g.peer g.spare strays_on g.spares;
        gone = g.gone;
        begun_is = g.begun_is;
        row = row_add local w.end w.coming g.r g.peer g.line line v (named_so g.r v dest) refl refl g.row;
        calm = λ j.
            let judged = judged_was Right v (is_applied found_so) far c j in
            all_add IsNoCc g.line.coming v (g.calm judged)
            (λ m x e. differ nxt.is_judged j (grind (arith, cc_lost, sound_c)));
      }

  stays_open : (j : Bool) → c.is_judged ≡ j → is_tracked c ≡ true →
      ((is_open nxt.right.phase || is_closing nxt.right.phase) ≡ true) × (nxt.right.reference ≡ c.right.reference)
  stays_open true judged tracked = open_stays w.judge c judged sound_c v t.n t.dest tracked
  stays_open false lost tracked = grind (arith, right_there)

  goes_so : is_tracked c ≡ true → Next
  goes_so tracked =
      let (there, right) = stays_open c.is_judged refl tracked in
      let still = both (is_open nxt.left.phase) (is_open nxt.right.phase || is_closing nxt.right.phase)
      (ap (λ (h : Half). is_open h.phase) nxt_left ∙ left_open c tracked) there in
      goes_on tracked still right (class_kept (there_not_silent c.right.phase (right_there c tracked))) (line_on tracked right)

  -- right uses the reference of the CC for no other connection, so nothing that is to pass names it
  unnamed_by : (x : Connect) (r : ℕ) (u : Value) (i : ℕ) (e : Connection) (b : Bool) → (e.right.reference == x.source) ≡ b →
      list_any (λ (e : Connection). uses Right x.source e) cs ≡ false → slice_get cs i ≡ Some e → is_tracked e ≡ true →
      destination_of u ≡ Some e.right.reference → is_ours r x.source u ≡ false
  unnamed_by x r u i e true same unused there tracked dest =
      differ (uses Right x.source e)
      (uses_tracked e x.source (each_sound Right cs sane.apart peers i e there) tracked (eqb-true e.right.reference x.source same))
      (none_true (λ (y : Connection). uses Right x.source y) cs i e unused there)
  unnamed_by x r u i e false same unused there tracked dest = grind (arith, ours_not, unlike)

  unnamed_put : (x : Connect) (r : ℕ) → list_any (λ (e : Connection). uses Right x.source e) cs ≡ false → is_waiting c ≡ true →
      c.left.reference ≡ r → (u : Value) → IsOwned w.judge u → AreSettled cs w.put w.end.given u → is_ours r x.source u ≡ false
  unnamed_put x r unused waiting mine u (asking y e) k = ap (λ (a : Value). is_ours r x.source a) e
  unnamed_put x r unused waiting mine u (of i e there tracked own) k =
      unnamed_by x r u i e (e.right.reference == x.source) refl unused there tracked own.named
  unnamed_put x r unused waiting mine u (stray m source e strays) k =
      ap (λ (a : Value). is_ours r x.source a) e
      ∙ dc_not_ours r x.source m source (λ same. (k m source e).waits t.q c t.at waiting (mine ∙ sym same))

  class_opened : (x : Connect) → (x.class == 2) ≡ true → class_of x ≡ Two
  class_opened x h = ap (λ (b : Bool). if b then Two else Zero) h

  fine_reach : (k : Option Class) (g : Finding) → (g ≡ Kept) ⊎ (g ≡ Broke rule.LargerSize) →
      (is_applied g ≡ true) × (reach_of k g ≡ reach.Nothing)
  fine_reach k g h = grind arith

  same_name : (m : ℕ) (x : Connect) → v ≡ confirm m x → m ≡ t.n
  same_name m x e = let both_named : Some m ≡ Some t.n = sym (ap destination_of e) ∙ t.dest in cc

  opens_so : (m : ℕ) (x : Connect) → v ≡ confirm m x → (found_so ≡ Kept) ⊎ (found_so ≡ Broke rule.LargerSize) → (x.class == 2) ≡ true →
      uses_source Right cs v ≡ false → is_waiting c ≡ true → is_tracked c ≡ false → Waiting local w.end w.coming c → Next
  opens_so m x e right_so two unused waiting not_tracked k =
      let (applied, nothing) = fine_reach (class_for Right w.judge.course) found_so right_so in
      let none_use : list_any (λ (y : Connection). uses Right x.source y) cs ≡ false =
      sym (ap (λ (u : Value). uses_source Right cs u) e) ∙ unused in
      let r_is : k.r ≡ t.n = sym (ap (λ (h : Half). h.reference) k.left) ∙ name_is in
      let named_r = named_so k.r v (t.dest ∙ ap (λ (i : ℕ). Some i) (sym r_is)) in
      let others = all_two (λ u. IsOwned w.judge u) (λ u. AreSettled cs w.put w.end.given u) (λ u. is_ours k.r x.source u ≡ false) w.put
      (unnamed_put x k.r none_use waiting (name_is ∙ sym r_is)) f.owned f.settled in
      let none_put = picked_none (is_ours k.r x.source) w.put others in
      let none_head = leads_none (is_ours k.r x.source) w.put others in
      let opened_as : Connection = sent_on Right (confirm k.r x) c in
      let is : nxt ≡ opened_as =
      ap (λ (b : Bool). connection_after Right v b far c) applied ∙ ap (λ (r : Reach). connection_after Right v true r c) nothing
      ∙ ap (λ (u : Value). sent_on Right u c) e in
      let line : Line = opened_line (opened_link Two (agreed_size x.parameters.size local) local x.credit) opened_as in
      let range = subst HasFieldsInRange e ranges in
      let tracked : is_tracked nxt ≡ true =
      both (is_open nxt.left.phase) (is_open nxt.right.phase || is_closing nxt.right.phase)
      (ap (λ (h : Half). is_open h.phase) nxt_left ∙ and_first (is_open c.left.phase) (is_silent c.right.phase) waiting)
      (ap (λ (y : Connection). is_open y.right.phase || is_closing y.right.phase) is) in
      opened not_tracked (and_second (is_open c.left.phase) (is_silent c.right.phase) waiting) tracked (record {
        r = k.r;
        peer = x.source;
        line = line;
        left = ap (λ (h : Half). h.reference) nxt_left ∙ ap (λ (h : Half). h.reference) k.left;
        right = ap (λ (y : Connection). y.right.reference) is;
        tracks = record {
          first = line;
          acts = [];
          opened = opens_by_the_cc_that_comes local x k.r c range.1 k.left k.right k.seen;
          along = refl;
        };
        judge = sym is;
        spare = [];
        put_is = none_put;
        spares = tt;
        gone = λ h. absurd (h refl);
        begun_is = λ first. sym (ap (λ (b : Bool). w.begun && b) none_head ∙ none_begun w.begun);
        row = row_or local w.end more k.r x.source line (is_some w.end.ended) refl (λ lasts.
            asks (k.row lasts) x refl two (those k.r w.coming) k.early (picked_more (names k.r) w.coming v named_r
            ∙ ap (λ (u : Value). those k.r w.coming ++ u ∷ []) (e ∙ ap (λ (i : ℕ). confirm i x) (same_name m x e ∙ sym r_is))) refl);
        calm = λ j. tt;
      }) (λ lasts. ap (λ (i : ℕ). value_at i w.end.live) (sym r_is) ∙ k.row lasts)
      (reached_same far (course_after Right c v (is_applied found_so) w.judge.course)
      ∙ ap (λ (u : Value). (course_after Right c u (is_applied found_so) w.judge.course).class) e
      ∙ ap (λ (b : Bool). (course_after Right c (confirm m x) b w.judge.course).class) applied
      ∙ ap (λ (a : Class). Some a) (class_opened x two))

  refused_so : is_refused nxt.right.phase ≡ true → nxt.is_judged ≡ true → is_tracked c ≡ false →
      ((m : ℕ) (x : Connect) → v ≡ confirm m x → ⊥) → Next
  refused_so h judged not_tracked none =
      let (not_there, not_silent) = refused_parts nxt.right.phase h in
      gone not_tracked (and_not (is_open nxt.left.phase) (is_open nxt.right.phase || is_closing nxt.right.phase) not_there) not_silent
      (λ m x e. absurd (none m x e)) (same_by (is_applied found_so) refl (λ applied. none))
      (λ lost. differ nxt.is_judged judged lost)

  by_answer : is_waiting c ≡ true → is_tracked c ≡ false → (judged : c.is_judged ≡ true) → Answered w.judge c judged sound_c v → Next
  by_answer waiting not_tracked judged (opens m x e right_so two unused) =
      opens_so m x e right_so two unused waiting not_tracked (f.waiting t.q c t.at waiting)
  by_answer waiting not_tracked judged (refused h after none) = refused_so h after not_tracked none
  by_answer waiting not_tracked judged (waits_on dc same) = quiet not_tracked same dc

  right_after : (b : Bool) → is_applied found_so ≡ b → nxt.right ≡ (if b then half_after v c.right else c.right)
  right_after b e = grind (arith, right_own, right_judged)

  still_not_silent : (b : Bool) → is_applied found_so ≡ b → is_silent c.right.phase ≡ false → is_silent nxt.right.phase ≡ false
  still_not_silent true e h = ap (λ (x : Half). is_silent x.phase) (right_after true e) ∙ half_started v c.right h
  still_not_silent false e h = ap (λ (x : Half). is_silent x.phase) (right_after false e) ∙ h

  -- a connection loses its judgement by a unit that has no effect
  lost_idle : (b : Bool) → is_applied found_so ≡ b → c.is_judged ≡ true → nxt.is_judged ≡ false → b ≡ false
  lost_idle b e judged lost = grind (arith, differ, applied_ends_none, sized_judged)

  past_lost : (j : Bool) → c.is_judged ≡ j → is_silent c.right.phase ≡ false → nxt.is_judged ≡ false →
      (is_open nxt.right.phase || is_closing nxt.right.phase) ≡ true
  past_lost false was there lost = grind arith
  past_lost true judged there lost =
      ap (λ (x : Half). is_open x.phase || is_closing x.phase) (right_after false (lost_idle (is_applied found_so) refl judged lost))
      ∙ (grind (arith, refused_over, closed_over))

  by_kind : Kind c → Next
  by_kind (stands tracked) = goes_so tracked
  by_kind (waits_yet waiting silent not_tracked judged) =
      by_answer waiting not_tracked judged (answered w.judge c judged sound_c v t.n t.dest silent
      (not_selected w.judge c judged sound_c v (λ h. none_zero (ap (λ (k : Course). k.class) course_is ∙ h))) calm_so)
  by_kind (is_past not_open not_silent_c) =
      gone (no_two (is_open c.left.phase) (is_open c.right.phase || is_closing c.right.phase) not_open)
      (no_two (is_open nxt.left.phase) (is_open nxt.right.phase || is_closing nxt.right.phase)
      (ap (λ (h : Half). is_open h.phase) nxt_left ∙ not_open))
      (still_not_silent (is_applied found_so) refl not_silent_c)
      (λ m x e. (not_silent_c, λ lasts row. f.shut lasts t.q c t.at not_open (ap (λ (i : ℕ). value_at i w.end.live) name_is ∙ row)))
      (class_kept not_silent_c) (past_lost c.is_judged refl not_silent_c)

  next_so : Next
  next_so = by_kind (kind_by (is_open c.left.phase) refl)

  -- ---- all connections after it

  abbrev Item : ℕ → Connection → Type 0
  Item i x = ((i ≡ t.q) × (x ≡ nxt)) ⊎ ((i ≡ t.q → ⊥) × (slice_get cs i ≡ Some x))

  item : (i : ℕ) (x : Connection) → slice_get (takes Right v w.judge).state.connections i ≡ Some x → Item i x
  item i x h = after_change cs t.q i nxt x (ap (λ (l : List Connection). slice_get l i) (sym conns) ∙ h)

  same_one : (i : ℕ) (x : Connection) → i ≡ t.q → slice_get cs i ≡ Some x → x ≡ c
  same_one i x same h = item_is c x (sym t.at ∙ ap (λ (j : ℕ). slice_get cs j) (sym same) ∙ h)

  unlike_r : (i : ℕ) (x : Connection) (r : ℕ) → (i ≡ t.q → ⊥) → slice_get cs i ≡ Some x → x.left.reference ≡ r → names r v ≡ false
  unlike_r i x r other there is =
      named_not t.n r v (λ same. other (sane.distinct i t.q x c there t.at (is ∙ sym same ∙ sym name_is))) t.dest

  line_at : (i : ℕ) (x : Connection) → is_tracked x ≡ true → Next → Item i x → Following local w.put w.begun strays_after w.end more x
  line_at i x tracked k (inr (other, there)) =
      let g = f.lines i x there tracked in
      following_other local w.put w.begun w.judge.course.disconnects.strays strays_after w.end w.coming x v strays_on g
      (unlike_r i x g.r other there g.left)
  line_at i x tracked (goes_on a b right class line) (inl (same, is)) = grind arith
  line_at i x tracked (opened a silent b line row class) (inl (same, is)) = grind arith
  line_at i x tracked (gone a b silent none class lost) (inl (same, is)) = differ (is_tracked nxt) (ap is_tracked (sym is) ∙ tracked) b
  line_at i x tracked (quiet a still dc) (inl (same, is)) = differ (is_tracked c) (ap is_tracked (sym (is ∙ still)) ∙ tracked) a

  -- what waits now waited before
  was_waiting : (i : ℕ) (x : Connection) → is_silent x.right.phase ≡ true → Next → Item i x → slice_get cs i ≡ Some x
  was_waiting i x silent k h = grind (arith, differ, there_not_silent, right_there)

  waits_silent : (x : Connection) → is_waiting x ≡ true → is_silent x.right.phase ≡ true
  waits_silent x waiting = and_second (is_open x.left.phase) (is_silent x.right.phase) waiting

  waits_at : (i : ℕ) (x : Connection) → is_waiting x ≡ true → Next → Item i x → Waiting local w.end more x
  waits_at i x waiting k (inr (other, there)) =
      let g = f.waiting i x there waiting in
      waiting_other local w.end w.coming x v g (unlike_r i x g.r other there (ap (λ (h : Half). h.reference) g.left))
  waits_at i x waiting (quiet a still dc) (inl (same, is)) =
      grind (arith, waiting_dc, was_waiting i x (waits_silent x waiting) (quiet a still dc) (inl (same, is)), waits_silent x waiting)
  waits_at i x waiting (goes_on a b right class line) (inl (same, is)) = grind (arith, there_not_silent, right_there)
  waits_at i x waiting (opened a before b line row class) (inl (same, is)) = grind (arith, there_not_silent, right_there)
  waits_at i x waiting (gone a b later none class lost) (inl (same, is)) = grind (arith, differ, waits_silent)

  -- of a connection that was open
  was_open : (A : Type 0) → is_tracked c ≡ true → (is_tracked nxt ≡ true → nxt.right.reference ≡ c.right.reference → A) → Next → A
  was_open A tracked k h = grind (arith, differ)

  tracked_one : (r i : ℕ) (x : Connection) → slice_get cs i ≡ Some x → is_tracked x ≡ true → x.left.reference ≡ r → (b : Bool) →
      (i == t.q) ≡ b → Tracked (takes Right v w.judge).state.connections r
  tracked_one r i x there tracked is false h = (i, x, grind (arith, conns, set_other cs t.q i nxt x (unlike i t.q h) there), tracked, is)
  tracked_one r i x there tracked is true h = grind (arith, same_one, eqb-true, was_open, nxt_at, nxt_left, next_so)

  tracked_to : (r : ℕ) → Tracked cs r → Tracked (takes Right v w.judge).state.connections r
  tracked_to r (i, x, there, tracked, is) = tracked_one r i x there tracked is (i == t.q) refl

  owned_one : (u : Value) (i : ℕ) (x : Connection) → slice_get cs i ≡ Some x → is_tracked x ≡ true →
      IsOf x.left.reference x.right.reference u → (b : Bool) → (i == t.q) ≡ b → IsOwned (takes Right v w.judge).state u
  owned_one u i x there tracked own false h = of i x (grind (arith, conns, set_other cs t.q i nxt x (unlike i t.q h) there)) tracked own
  owned_one u i x there tracked own true h =
      let so = same_one i x (eqb-true i t.q h) there in
      was_open (IsOwned (takes Right v w.judge).state u) (ap is_tracked (sym so) ∙ tracked)
      (λ still right. of t.q nxt nxt_at still
      (grind (arith, nxt_left))) next_so

  owned_to : (u : Value) → IsOwned w.judge u → IsOwned (takes Right v w.judge).state u
  owned_to u (asking x e) = asking x e
  owned_to u (of i x there tracked own) = owned_one u i x there tracked own (i == t.q) refl
  owned_to u (stray m source e strays) = stray m source e (strays_on strays)

  same_left : (m : ℕ) (x : Connect) → v ≡ confirm m x → nxt.left.reference ≡ m
  same_left m x e = (grind (arith, nxt_left)) ∙ name_is ∙ sym (same_name m x e)

  answers_to : Next → IsAnswer (takes Right v w.judge).state.course.loose (takes Right v w.judge).state.connections w.end v
  answers_to (goes_on a b right class line) m x e lasts (inl row) = ((t.q, nxt, nxt_at, b, same_left m x e), row)
  answers_to (goes_on a b right class line) m x e lasts (inr firm) =
      cc_late firm (there_not_silent c.right.phase (right_there c a)) m x e
  answers_to (gone a b silent none class lost) m x e lasts (inl row) = absurd ((none m x e).1 lasts (grind (arith, same_name)))
  answers_to (gone a b silent none class lost) m x e lasts (inr firm) = cc_late firm (none m x e).0 m x e
  answers_to (quiet a still dc) m x e lasts why = absurd (dc_no_cc v dc m x e)
  answers_to (opened a silent b line here class) m x e lasts why = grind (arith, nxt_at, same_left, same_name)

  class_from : (r i : ℕ) (x : Connection) → is_tracked x ≡ true → x.left.reference ≡ r → Next → Item i x →
      (takes Right v w.judge).state.course.class ≡ Some Two
  class_from r i x tracked is k (inr (other, there)) =
      (lasts_passing (passing Right v) w.judge).two (f.two r (i, x, there, tracked, is))
  class_from r i x tracked is (goes_on a b right class line) (inl (same, so)) =
      (lasts_passing (passing Right v) w.judge).two (f.two c.left.reference (t.q, c, t.at, a, refl))
  class_from r i x tracked is (opened a silent b line row class) (inl (same, so)) = ap (λ (k : Course). k.class) course_is ∙ class
  class_from r i x tracked is (gone a b silent none class lost) (inl (same, so)) = grind (arith, differ, is_tracked)
  class_from r i x tracked is (quiet a still dc) (inl (same, so)) = differ (is_tracked c) (ap is_tracked (sym (so ∙ still)) ∙ tracked) a

  after_class : SameClass → ((takes Right v w.judge).state.course.class ≡ None) ⊎ ((takes Right v w.judge).state.course.class ≡ Some Two)
  after_class same = grind (arith, course_is)

  zero_after : Next → ((takes Right v w.judge).state.course.class ≡ None) ⊎ ((takes Right v w.judge).state.course.class ≡ Some Two)
  zero_after (goes_on a b right class line) = after_class class
  zero_after (gone a b silent none class lost) = after_class class
  zero_after (quiet a still dc) = after_class (same_by (is_applied found_so) refl (λ applied. dc_no_cc v dc))
  zero_after (opened a silent b line row class) = inr (ap (λ (k : Course). k.class) course_is ∙ class)

  new_request : (u : Value) → ((x : Connect) → u ≡ request x → IsAsking local w.end w.coming x) →
      ((x : Connect) → u ≡ request x → newer.last < x.source) → (x : Connect) → u ≡ request x → IsAsking local w.end more x
  new_request u h k x e =
      let a = h x e in
      let below = newer.below t.q c t.at in
      let is = name_is in
      record {
        left = a.left;
        early = early_other x.source w.coming v (named_not t.n x.source v (λ same. absurd (omega arith)) t.dest) a.early;
        row = a.row;
      }

  given_so : AreGiven w.end.given v
  given_so dc m e =
      let below = newer.below t.q c t.at in
      grind (arith, name_is)

  seen_at : (i : ℕ) (x : Connection) → is_tracked x ≡ true → is_silent x.seen_by_left.phase ≡ false → Next → Item i x →
      (takes Right v w.judge).state.course.class_seen ≡ Some Two
  seen_at i x tracked known k (inr (other, there)) =
      (lasts_passing (passing Right v) w.judge).seen (f.two x.left.reference (i, x, there, tracked, refl)) (f.seen i x there tracked known)
  seen_at i x tracked known (goes_on a b right class line) (inl (same, is)) =
      let before = ap (λ (h : Half). is_silent h.phase) (sym (known_then v (is_applied found_so) far c))
      ∙ ap (λ (y : Connection). is_silent y.seen_by_left.phase) (sym is) ∙ known in
      (lasts_passing (passing Right v) w.judge).seen (f.two c.left.reference (t.q, c, t.at, a, refl)) (f.seen t.q c t.at a before)
  seen_at i x tracked known (opened a silent b line row class) (inl (same, is)) = grind (arith, known_then, differ, sound_c)
  seen_at i x tracked known (gone a b silent none class lost) (inl (same, is)) = grind (arith, differ, is_tracked)
  seen_at i x tracked known (quiet a still dc) (inl (same, is)) = differ (is_tracked c) (ap is_tracked (sym (is ∙ still)) ∙ tracked) a

  settled_to : (u : Value) → AreSettled cs w.put w.end.given u → AreSettled (takes Right v w.judge).state.connections w.put w.end.given u
  settled_to u h m source e =
      let k = h m source e in
      record {
        up = k.up;
        waits = λ i x there waiting same.
            k.waits i x (was_waiting i x (waits_silent x waiting) next_so (item i x there)) waiting same;
        asks = k.asks;
      }

  lost_by : (i : ℕ) (x : Connection) → x.is_judged ≡ false → Next → Item i x → (is_open x.right.phase || is_closing x.right.phase) ≡ true
  lost_by i x lost k h = grind (arith, right_there)

  shut_by : w.end.ended ≡ None → (i : ℕ) (x : Connection) → is_open x.left.phase ≡ false →
      value_at x.left.reference w.end.live ≡ Some asked → Item i x → ⊥
  shut_by lasts i x closed row h = grind (arith, nxt_left)

  pub other_passes : Followed local after
  other_passes = record {
    lines = λ i x there tracked. line_at i x tracked next_so (item i x there);
    waiting = λ i x there waiting. waits_at i x waiting next_so (item i x there);
    owned = all_so (λ u. IsOwned w.judge u) (λ u. IsOwned (takes Right v w.judge).state u) w.put owned_to f.owned;
    linked = λ lasts r peer link h. let (k, two) = f.linked lasts r peer link h in (tracked_to r k, two);
    answers = all_add (λ u. IsAnswer after.judge.course.loose after.judge.connections w.end u) w.coming v
        (all_so (λ u. IsAnswer w.judge.course.loose cs w.end u) (λ u. IsAnswer after.judge.course.loose after.judge.connections w.end u)
        w.coming
        (λ u h m x e lasts why.
        let (k, row) = h m x e lasts (grind (arith, why_before, lasts_passing (passing Right v) w.judge)) in
        (tracked_to m k, row)) f.answers) (answers_to next_so);
    requests = all_two (λ u. (x : Connect) → u ≡ request x → IsAsking local w.end w.coming x)
        (λ u. (x : Connect) → u ≡ request x → newer.last < x.source)
        (λ u. (x : Connect) → u ≡ request x → IsAsking local w.end more x) w.put
        new_request f.requests (rise_all newer.last w.put newer.above.rise);
    two = λ r k.
        let (i, x, there, tracked, is) = k in class_from r i x tracked is next_so (item i x there);
    silent = λ i x there silent. f.silent i x (was_waiting i x silent next_so (item i x there)) silent;
    zero = zero_after next_so;
    some = f.some;
    few = all_add (AreGiven w.end.given) w.coming v f.few given_so;
    seen = λ i x there tracked known. seen_at i x tracked known next_so (item i x there);
    settled = search (arith, all_so, settled_to);
    lost = λ i x there lost. lost_by i x lost next_so (item i x there);
    shut = λ lasts i x there closed row. shut_by lasts i x closed row (item i x there);
  }

  pub other_peers : AreNamedApart Right (takes Right v w.judge).state.connections
  other_peers = subst (AreNamedApart Right) (sym conns) (right_set w.judge sane.apart peers t.q c t.at v
      (class_for Right w.judge.course) live)
