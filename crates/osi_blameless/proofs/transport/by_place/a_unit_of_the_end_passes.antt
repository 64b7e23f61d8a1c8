-- A unit of a whole called end passes: a CC, a DR that refuses a CR, or a unit of an open connection. Each is right.
-- For the law on a whole called end.
use Rattle.osi_blameless.proofs.transport.Vocabulary.{[], acceptance, AllByRecursion, ap, arith, Bool, Class, confirm, Connect, Connection}
use Rattle.osi_blameless.proofs.transport.Vocabulary.{Course}
use Rattle.osi_blameless.proofs.transport.Vocabulary.{course_after, destination_of, disconnect, eq-eqb, error, false, found_on, Half}
use Rattle.osi_blameless.proofs.transport.Vocabulary.{half_after, inl, inr}
use Rattle.osi_blameless.proofs.transport.Vocabulary.{is_named, is_open, is_over, is_silent, Kept, Left, Line, List, list_any, Local, Named}
use Rattle.osi_blameless.proofs.transport.Vocabulary.{None, not}
use Rattle.osi_blameless.proofs.transport.Vocabulary.{NotJudged, opened_line, opened_link, Option, other, position, refl, Refused, Right}
use Rattle.osi_blameless.proofs.transport.Vocabulary.{route, sent_on}
use Rattle.osi_blameless.proofs.transport.Vocabulary.{set, silent_half, slice_get, Some, subst, sym, takes, Traffic, true, Two}
use Rattle.osi_blameless.proofs.transport.Vocabulary.{unit as passing, uses}
use Rattle.osi_blameless.proofs.transport.Vocabulary.{uses_source, Value, Whole, ℕ, ◌&&◌, ◌<◌, ◌==◌, ◌||◌, ◌∙◌, ◌∷◌, ◌≡◌, ◌≤◌, ◌⊎◌}
use Rattle.osi_rules.specs.declared.findings.Reach.TheVariants as reach
use Rattle.osi_blameless.proofs.transport.small_facts_that_many_lemmas_use.{and_false, and_first, any_none, both as is_both, differ}
use Rattle.osi_blameless.proofs.transport.small_facts_that_many_lemmas_use.{first_is, judged_so}
use Rattle.osi_blameless.proofs.transport.small_facts_that_many_lemmas_use.{name_so}
use Rattle.osi_blameless.proofs.transport.small_facts_that_many_lemmas_use.{number_is, rest_is, set_none, unequal}
use Rattle.osi_blameless.proofs.transport.names.a_right_unit_is_not_blamed.{named_of}
use Rattle.osi_blameless.proofs.transport.names.all_are_judged_unless_one_broke.{AreJudged}
use Rattle.osi_blameless.proofs.transport.by_place.each_connection_has_its_place.{AreAbove, AreStrays, Answering, Asked, Called, IsUnlinked}
use Rattle.osi_blameless.proofs.transport.by_place.each_connection_has_its_place.{Row, Running, Stand}
use Rattle.osi_blameless.proofs.transport.by_place.each_connection_has_its_place.{line_of, answers, past, refuses, runs, comes}
use Rattle.osi_blameless.proofs.transport.lines.how_a_connection_opens.{opens_by_the_cc_that_it_puts, two_right}
use Rattle.osi_blameless.proofs.transport.connections.units_by_their_place.{Placed, at_elsewhere, at_first, at_here, at_other, first_at}
use Rattle.osi_blameless.proofs.transport.connections.units_by_their_place.{units_at, values}
use Rattle.osi_blameless.proofs.transport.names.names_stay_apart_though_one_is_lost.{AreNamedApart, end_set}
use Rattle.osi_blameless.proofs.transport.connections.what_a_line_keeps_though_it_is_lost.{own_seen_after}
use Rattle.osi_blameless.proofs.transport.names.a_reference_names_one_connection.{not_first}
use Rattle.osi_blameless.proofs.transport.connections.what_is_live_at_an_end.{Gives, IsHeld, IsLively, Timely, is_there}
use Rattle.osi_blameless.proofs.transport.names.what_keeps_names_apart.{AreApart}
use Rattle.osi_blameless.proofs.transport.requests.what_lasts_at_the_judge.{Lasts, lasts_passing}
use Rattle.osi_blameless.proofs.transport.connections.what_stays_of_each_connection.{left_then, right_own}
use Rattle.osi_blameless.proofs.transport.connections.which_units_are_for_a_connection.{names_in as is_at}
use Rattle.osi_blameless.proofs.transport.requests.while_no_class_is_selected.{after_change, set_same}
use Rattle.osi_blameless.proofs.transport.by_place.how_a_unit_of_right_passes.{no_list, use_so, class_seen_same, strays_more, above_next}
use Rattle.osi_blameless.proofs.transport.small_facts_that_many_lemmas_use.{half_keeps}
use Rattle.osi_blameless.proofs.transport.by_place.how_a_unit_of_right_passes.{finding_kept, conns_kept, course_kept}
use Rattle.osi_blameless.proofs.transport.small_facts_that_many_lemmas_use.{half_started}
use Rattle.osi_blameless.proofs.transport.connections.a_line_since_its_connection_opened.{LostPassed, RightPassed, dest as named_dest}
use Rattle.osi_blameless.proofs.transport.connections.a_line_since_its_connection_opened.{lost_passes as line_lost}
use Rattle.osi_blameless.proofs.transport.connections.a_line_since_its_connection_opened.{name_first, right_passes}
use Rattle.osi_blameless.proofs.transport.by_place.each_connection_has_its_place.{running_on}

-- ---- small facts

live_of : (n : ℕ) (c : Connection) → is_named Right n c ≡ true → is_over Right c ≡ false
live_of n c h = not_first (is_over Right c) (not (is_silent c.seen_by_right.phase) && (c.seen_by_right.reference == n)) h

own_knows : (u : Value) (c : Connection) → (sent_on Right u c).seen_by_left ≡ c.seen_by_left
own_knows u c = grind arith

idle_seen : (c : Connection) (u : Value) (course : Course) → (course_after Right c u false course).class_seen ≡ course.class_seen
idle_seen c u course = grind arith

above_down : (given n m : ℕ) (vs : List Value) → n < m → AreAbove given m vs → AreAbove given n vs
above_down given n m [] less h = omega arith
above_down given n m (confirm destination x ∷ vs) less (more, h) = (omega arith, h)
above_down given n m (_ ∷ vs) less h = above_down given n m vs less h

above_less : (given n : ℕ) (v : Value) (vs : List Value) → AreAbove given n (v ∷ vs) → AreAbove given n vs
above_less given n v vs h = grind (arith, above_down)

-- It is right, or not judged: a DR has passed that closed nothing, or a connection has lost its judgement.
abbrev pub IsFineAt : Value → Traffic → Type 0
IsFineAt u s = ((takes Right u s).told.finding ≡ Kept) ⊎ (((takes Right u s).told.finding ≡ NotJudged)
    × ((s.course.disconnects.strays ≡ true) ⊎ (s.course.loose ≡ true)))

-- ---- the first unit passes

module _ (local : Local) (w : Whole) (f : Called local w) (apart : AreApart w.judge.connections)
    (named : AreNamedApart Left w.judge.connections) (judged : AreJudged w.judge) (right : w.judge.course.right_stopped ≡ false) (u : Value)
    (rest : List Value) (begun : w.begun ≡ true) where
  abbrev cs : List Connection
  cs = w.judge.connections

  abbrev after : Whole
  after = record w { put = rest; begun = false; judge = (takes Right u w.judge).state }

  -- it is right, or not judged, and all holds after it
  abbrev Passed : Type 0
  Passed = IsFineAt u w.judge × Called local after × AreNamedApart Left after.judge.connections

  lasts : Lasts w.judge.course (takes Right u w.judge).state.course
  lasts = lasts_passing (passing Right u) w.judge

  module _ (p : ℕ) (later : List Placed) (tagged : f.tagged ≡ (Some p, u) ∷ later) (rest_are : rest ≡ values later) (c : Connection)
      (at : slice_get cs p ≡ Some c) where
    abbrev StandAfter : ℕ → Connection → Type 0
    StandAfter i x = Stand local f.shut w.end w.coming (units_at i later) (units_at i f.came) false (f.refs i) x

    mine_is : units_at p f.tagged ≡ u ∷ units_at p later
    mine_is = ap (λ (l : List Placed). units_at p l) tagged ∙ at_first p u later

    begins : (w.begun && first_at p f.tagged) ≡ true
    begins = ap (λ (l : List Placed). w.begun && first_at p l) tagged ∙ is_both w.begun (is_at p (Some p)) begun (at_here p)

    other_mine : (i : ℕ) → (i ≡ p → ⊥) → units_at i f.tagged ≡ units_at i later
    other_mine i other = ap (λ (l : List Placed). units_at i l) tagged ∙ at_other i p u later (λ e. other (sym e))

    other_begun : (i : ℕ) → (i ≡ p → ⊥) → (w.begun && first_at i f.tagged) ≡ false
    other_begun i other = grind (arith, at_elsewhere, and_false)

    above_all : AreAbove w.end.given f.last (u ∷ values later)
    above_all = subst (λ (l : List Placed). AreAbove w.end.given f.last (values l)) tagged f.above

    -- ---- all connections after it

    module _ (next : Connection) (conns : (takes Right u w.judge).state.connections ≡ set cs p next)
        (stand : StandAfter p next) (class : ((takes Right u w.judge).state.course.class ≡ None)
        ⊎ ((takes Right u w.judge).state.course.class ≡ Some Two))
        (two : is_open next.right.phase ≡ true → (takes Right u w.judge).state.course.class ≡ Some Two)
        (seen : (takes Right u w.judge).state.course.class_seen ≡ w.judge.course.class_seen) (top : ℕ) (more : f.last ≤ top)
        (next_top : next.right.reference ≤ top) (above : AreAbove w.end.given top (values later))
        (past_two : (takes Right u w.judge).state.course.class ≡ Some Two → 1 ≤ w.end.given)
        (held : Timely Right w.end w.coming cs (values f.tagged) → IsLively Right (IsHeld Right w.end w.coming) next) where
      item : (i : ℕ) (x : Connection) → slice_get (takes Right u w.judge).state.connections i ≡ Some x →
          ((i ≡ p) × (x ≡ next)) ⊎ ((i ≡ p → ⊥) × (slice_get cs i ≡ Some x))
      item i x h = after_change cs p i next x (ap (λ (l : List Connection). slice_get l i) (sym conns) ∙ h)

      stand_by : (i : ℕ) (x : Connection) → ((i ≡ p) × (x ≡ next)) ⊎ ((i ≡ p → ⊥) × (slice_get cs i ≡ Some x)) → StandAfter i x
      stand_by i x (inl (same, is)) = grind arith
      stand_by i x (inr (not_p, there)) =
          subst (λ (b : Bool). Stand local f.shut w.end w.coming (units_at i later) (units_at i f.came) b (f.refs i) x)
          (other_begun i not_p)
          (subst (λ (l : List Value). Stand local f.shut w.end w.coming l (units_at i f.came) (w.begun && first_at i f.tagged) (f.refs i) x)
          (other_mine i not_p) (f.stands i x there))

      top_by : (i : ℕ) (x : Connection) → ((i ≡ p) × (x ≡ next)) ⊎ ((i ≡ p → ⊥) × (slice_get cs i ≡ Some x)) → x.right.reference ≤ top
      top_by i x h = grind arith

      two_by : (i : ℕ) (x : Connection) → ((i ≡ p) × (x ≡ next)) ⊎ ((i ≡ p → ⊥) × (slice_get cs i ≡ Some x)) →
          is_open x.right.phase ≡ true → (takes Right u w.judge).state.course.class ≡ Some Two
      two_by i x h up = grind (arith, lasts)

      gone_by : (i : ℕ) → slice_get cs i ≡ None →
          (units_at i later ≡ []) × (units_at i f.came ≡ []) × ((r : ℕ) → f.refs i ≡ Some r → IsUnlinked w.end r)
      gone_by i none = search (arith, other_mine)

      held_by : Timely Right w.end w.coming cs (values f.tagged) → (i : ℕ) (x : Connection) →
          ((i ≡ p) × (x ≡ next)) ⊎ ((i ≡ p → ⊥) × (slice_get cs i ≡ Some x)) → IsLively Right (IsHeld Right w.end w.coming) x
      held_by h i x (inl (same, is)) = subst (IsLively Right (IsHeld Right w.end w.coming)) (sym is) (held h)
      held_by h i x (inr (not_p, there)) = h.judges i x there

      passed : Called local after
      passed = record {
        tagged = later;
        put = rest_are;
        came = f.came;
        come = f.come;
        refs = f.refs;
        home = f.home;
        shut = f.shut;
        stands = λ i x there. stand_by i x (item i x there);
        beyond = λ i none. gone_by i (set_none cs p i next (ap (λ (l : List Connection). slice_get l i) (sym conns) ∙ none));
        homes = f.homes;
        positive = f.positive;
        linked_at = f.linked_at;
        shut_given = f.shut_given;
        strays = strays_more f.shut w.end f.refs f.home w.judge.course.disconnects.strays
            (takes Right u w.judge).state.course.disconnects.strays later lasts.strays
            (subst (λ (l : List Placed). AreStrays f.shut w.end f.refs f.home w.judge.course.disconnects.strays l) tagged f.strays).1;
        last = top;
        tops = λ i x there. top_by i x (item i x there);
        above = above;
        class = class;
        two = λ i x there up. two_by i x (item i x there) up;
        class_seen = subst (λ (k : Option Class). (k ≡ None) ⊎ (k ≡ Some Two)) (sym seen) f.class_seen;
        past_two = past_two;
        seen_two = λ h. lasts.two (f.seen_two (sym seen ∙ h));
        some = λ h. absurd (cc h);
        few = f.few;
        untagged = f.untagged;
        timely = λ none last.
            let h = f.timely (lasts.strays none) last in
            record {
              judges = λ i x there. held_by h i x (item i x there);
              gives = (subst (λ (l : List Placed). AllByRecursion (Gives Right (IsHeld Right w.end w.coming)) (values l)) tagged h.gives).1;
              firsts = h.firsts;
              known = h.known;
            };
      }

    -- ---- a CC

    module _ (h : Answering local f.shut w.end w.coming (units_at p f.tagged) (w.begun && first_at p f.tagged) (f.refs p) c)
        (asks : units_at p f.came ≡ []) where
      abbrev n : ℕ
      n = h.x.source

      abbrev cc_is : Value
      cc_is = confirm n (acceptance Two h.size h.x local h.r)

      u_cc : u ≡ cc_is
      u_cc = first_is u cc_is (units_at p later) h.more (sym mine_is ∙ h.mine_is)

      cc_named : is_named Right n c ≡ true
      cc_named = grind (arith, name_so, and_false, eq-eqb)

      above_cc : (f.last < h.r) × AreAbove w.end.given h.r (values later)
      above_cc = subst (λ (v : Value). AreAbove w.end.given f.last (v ∷ values later)) u_cc above_all

      unused : list_any (λ (e : Connection). uses Right h.r e) cs ≡ false
      unused = any_none (λ (e : Connection). uses Right h.r e) cs (λ i e there.
          use_so (is_over Right e) (is_silent e.right.phase) (e.right.reference == h.r)
          (unequal e.right.reference h.r (e.right.reference == h.r) refl
          (λ same. let top = f.tops i e there in let less = above_cc.0 in absurd (omega arith))))

      cc_kept : found_on Right w.judge c u ≡ Kept
      cc_kept = grind (
        arith,
        u_cc,
        judged_so,
        unused,
        two_right local h.x h.size h.r c w.judge.course h.selected h.asked.offer
            h.asked.right,
      )

      cc_route : route Right w.judge.course u ≡ Named n
      cc_route = grind (arith, u_cc)

      cc_first : position (is_named Right n) cs ≡ Some p
      cc_first = name_first Right cs named n p c at cc_named

      abbrev cc_next : Connection
      cc_next = sent_on Right cc_is c

      cc_conns : (takes Right u w.judge).state.connections ≡ set cs p cc_next
      cc_conns = conns_kept u w.judge n p c right cc_route cc_first at cc_kept ∙ ap (λ (v : Value). set cs p (sent_on Right v c)) u_cc

      cc_course : (takes Right u w.judge).state.course ≡ course_after Right c cc_is true w.judge.course
      cc_course = grind (arith, course_kept, cc_route, cc_first, cc_kept, u_cc)

      cc_two : (takes Right u w.judge).state.course.class ≡ Some Two
      cc_two = ap (λ (k : Course). k.class) cc_course

      cc_stand : StandAfter p cc_next
      cc_stand = runs (record {
        r = h.r;
        peer = n;
        index = h.index;
        line = line_of h.link h.more h.come cc_next;
        judge = refl;
        put = sym (rest_is u cc_is (units_at p later) h.more (sym mine_is ∙ h.mine_is));
        begun_is = refl;
        tracks = record {
          first = opened_line (opened_link Two h.size local h.x.credit) cc_next;
          acts = h.acts;
          opened = grind (arith, opens_by_the_cc_that_it_puts);
          along = h.along cc_next;
        };
        there = refl;
        right = refl;
        left = ap (λ (x : Half). x.reference) h.asked.left;
        row = h.row;
        shut_is = h.shut_is;
      }) asks

      pub cc_passes : Passed
      cc_passes = (
        inl (finding_kept u w.judge n p c right cc_route cc_first at cc_kept),
        passed cc_next cc_conns cc_stand (inr cc_two) (λ up. cc_two)
            (ap (λ (k : Course). k.class_seen) cc_course) h.r (let less = above_cc.0 in omega arith) (omega arith) above_cc.1
            (λ k. let up = (f.homes p h.r h.index).1 in let one = f.positive p h.r h.index in omega arith)
            (λ k j there. (subst (λ (l : List Placed). AllByRecursion (Gives Right (IsHeld Right w.end w.coming))
            (values l)) tagged k.gives).0 n
            (acceptance Two h.size h.x local h.r) u_cc),
        subst (AreNamedApart Left) (sym cc_conns) (end_set Left w.judge apart named p c at cc_next
            (live_of n c cc_named) h.asked.judged h.asked.judged refl refl refl),
      )

    -- ---- a DR that refuses a CR

    module _ (x : Connect) (a : Asked x c) (reason : ℕ) (is : units_at p f.tagged ≡ disconnect x.source 0 reason [] ∷ [])
        (asks : units_at p f.came ≡ []) (o : f.refs p ≡ None)
        (seen : (w.begun && first_at p f.tagged) ≡ true → c.seen_by_right ≡ c.left) where
      abbrev dr : Value
      dr = disconnect x.source 0 reason []

      u_dr : u ≡ dr
      u_dr = first_is u dr (units_at p later) [] (sym mine_is ∙ is)

      dr_named : is_named Right x.source c ≡ true
      dr_named = grind (arith, name_so, and_false, eq-eqb)

      dr_kept : found_on Right w.judge c u ≡ Kept
      dr_kept = grind (arith, u_dr, judged_so)

      dr_route : route Right w.judge.course u ≡ Named x.source
      dr_route = grind (arith, u_dr)

      dr_first : position (is_named Right x.source) cs ≡ Some p
      dr_first = name_first Right cs named x.source p c at dr_named

      abbrev dr_next : Connection
      dr_next = sent_on Right dr c

      dr_conns : (takes Right u w.judge).state.connections ≡ set cs p dr_next
      dr_conns = grind (arith, conns_kept, dr_route, dr_first, dr_kept, u_dr)

      dr_course : (takes Right u w.judge).state.course ≡ course_after Right c dr true w.judge.course
      dr_course = grind (arith, course_kept, dr_route, dr_first, dr_kept, u_dr)

      dr_right : dr_next.right ≡ record silent_half { phase = Refused }
      dr_right = ap (λ (h : Half). half_after dr h) a.right

      dr_stand : StandAfter p dr_next
      dr_stand = grind (arith, past, dr_right, rest_is, units_at, mine_is)

      dr_not : {A : Type 0} → is_open dr_next.right.phase ≡ true → A
      dr_not h = differ (is_open dr_next.right.phase) h (ap (λ (x : Half). is_open x.phase) dr_right)

      pub dr_passes : Passed
      dr_passes = (
        inl (finding_kept u w.judge x.source p c right dr_route dr_first at dr_kept),
        passed dr_next dr_conns dr_stand
            (subst (λ (k : Option Class). (k ≡ None) ⊎ (k ≡ Some Two)) (sym (ap (λ (k : Course). k.class) dr_course)) f.class)
            (λ up. dr_not up) (ap (λ (k : Course). k.class_seen) dr_course) f.last (omega arith)
            (subst (λ (h : Half). h.reference ≤ f.last) (sym dr_right) (omega arith))
            (subst (λ (v : Value). AreAbove w.end.given f.last (v ∷ values later)) u_dr above_all)
            (λ k. f.past_two (sym (ap (λ (c : Course). c.class) dr_course) ∙ k)) (λ k j there. dr_not (and_first
            (is_open dr_next.right.phase) (is_silent c.left.phase || is_open c.left.phase) there)),
        subst (AreNamedApart Left) (sym dr_conns) (end_set Left w.judge apart named p c at dr_next
            (live_of x.source c dr_named) a.judged a.judged refl refl refl),
      )

    -- ---- a unit of an open connection

    module _ (g : Running f.shut w.end w.coming (units_at p f.tagged) (w.begun && first_at p f.tagged) (f.refs p) c)
        (asks : units_at p f.came ≡ []) (is_judged : c.is_judged ≡ true) where
      run_put : g.line.put ≡ u ∷ units_at p later
      run_put = g.put ∙ mine_is

      run_begun : g.line.begun ≡ true
      run_begun = g.begun_is ∙ begins

      dest : destination_of u ≡ Some g.peer
      dest = named_dest Right w.judge named g.r g.peer g.line g.tracks u (units_at p later) run_put run_begun p c at g.judge

      run : RightPassed Right w.judge g.r g.peer g.line u (units_at p later) p c
      run = right_passes Right w.judge named g.r g.peer g.line g.tracks u (units_at p later) run_put run_begun p c at g.judge right
          (f.two p c at g.there) is_judged

      abbrev in_use : Bool
      in_use = uses_source Right cs u

      no_cc : (m : ℕ) (x : Connect) → u ≡ confirm m x → ⊥
      no_cc m x e = grind (arith, run.right.kept w.judge.course in_use)

      no_er : (m cause : ℕ) → u ≡ error m cause → ⊥
      no_er m cause e = search (arith, run.right.kept w.judge.course in_use)

      abbrev next : Connection
      next = sent_on Right u c

      next_right : next.right ≡ half_after u c.right
      next_right = right_own u reach.Nothing c

      next_left : next.left ≡ c.left
      next_left = left_then u true reach.Nothing c

      was_there : is_there next.right next.left ≡ true → is_there c.right c.left ≡ true
      was_there h = grind (arith, next_left)

      next_reference : next.right.reference ≡ c.right.reference
      next_reference = ap (λ (h : Half). h.reference) next_right ∙ half_keeps u c.right no_cc

      abbrev line : Line
      line = record g.line { put = units_at p later; begun = false; judge = next }

      not_linked : is_open next.right.phase ≡ false → (r : ℕ) → r ≡ g.r → Row w.end w.coming g.r g.peer g.line.end g.line.coming →
          IsUnlinked w.end r
      not_linked shut r same k live q link here = grind (arith, differ, run.linked)

      run_stand : (b : Bool) → is_open next.right.phase ≡ b → StandAfter p next
      run_stand true up =
          runs (running_on g line run.tracks refl refl refl up next_reference (ap (λ
          (h : Half). h.reference) next_left) g.row g.shut_is) asks
      run_stand false shut = past (ap (λ (h : Half). is_silent h.phase) next_right ∙ half_started u c.right (grind arith))
          shut (run.none_left shut) asks
          (λ r e. not_linked shut r (number_is r g.r (sym e ∙ g.index)) g.row)
          (grind (arith, next_reference, next_right, no_er))

      pub run_passes : Passed
      run_passes = (
        inl run.kept,
        passed next run.conns (run_stand (is_open next.right.phase) refl) (inr (lasts.two (f.two p c at g.there)))
            (λ up. lasts.two (f.two p c at g.there))
            (ap (λ (k : Course). k.class_seen) run.course ∙ class_seen_same c u w.judge.course) f.last (omega arith)
            (subst (λ (i : ℕ). i ≤ f.last) (sym next_reference) (f.tops p c at)) (above_next w.end.given f.last u (values later) no_cc
            above_all)
            (λ k. f.past_two (f.two p c at g.there))
            (λ k j there. subst (IsHeld Right w.end w.coming) (sym next_reference) (k.judges p c at is_judged (was_there there))),
        subst (AreNamedApart Left) (sym run.conns) (end_set Left w.judge apart named p c at next
            (live_of g.peer c (named_of (destination_of u) g.peer Right c dest run.right.named)) run.judged is_judged
            next_left (own_knows u c) (own_seen_after u true reach.Nothing c)),
      )

    -- ---- a unit of a connection that has lost its judgement

    module _ (g : Running f.shut w.end w.coming (units_at p f.tagged) (w.begun && first_at p f.tagged) (f.refs p) c)
        (asks : units_at p f.came ≡ []) (is_lost : c.is_judged ≡ false) where
      lost : LostPassed Right w.judge g.r g.peer g.line u (units_at p later) p c
      lost = line_lost Right w.judge named g.r g.peer g.line g.tracks u (units_at p later) (g.put ∙ mine_is) (g.begun_is ∙ begins) p c at
          g.judge right (f.two p c at g.there) is_lost

      lost_conns : (takes Right u w.judge).state.connections ≡ set cs p c
      lost_conns = lost.conns ∙ sym (set_same cs p c at)

      is_loose : (b : Bool) → w.judge.course.loose ≡ b → b ≡ true
      is_loose b e = grind (arith, differ)

      lost_stand : StandAfter p c
      lost_stand =
          runs (running_on g (record g.line {
            put =
                units_at p later;
            begun = false;
            judge = c;
          }) lost.tracks refl refl refl g.there refl refl
          g.row g.shut_is) asks

      lost_above : AreAbove w.end.given f.last (values later)
      lost_above = above_less w.end.given f.last u (values later) above_all

      pub lost_passes : Passed
      lost_passes = (
        inr (lost.found, inr (is_loose w.judge.course.loose refl)),
        passed c lost_conns lost_stand (inr (lasts.two (f.two p c at g.there)))
            (λ up. lasts.two (f.two p c at g.there))
            (ap (λ (k : Course). k.class_seen) lost.course ∙ idle_seen c u w.judge.course) f.last (omega arith)
            (f.tops p c at) lost_above
            (λ k. f.past_two (f.two p c at g.there))
            (λ k. k.judges p c at),
        subst (AreNamedApart Left) (sym lost.conns) named,
      )

    run_by : (g : Running f.shut w.end w.coming (units_at p f.tagged) (w.begun && first_at p f.tagged) (f.refs p) c) →
        units_at p f.came ≡ [] → (b : Bool) → c.is_judged ≡ b → Passed
    run_by g none true is = run_passes g none is
    run_by g none false is = lost_passes g none is

    -- ---- by what the connection is

    pub one_passes : Stand local f.shut w.end w.coming (units_at p f.tagged) (units_at p f.came) (w.begun && first_at p f.tagged)
        (f.refs p) c →
        Passed
    one_passes (comes x a none ask i) = no_list u (units_at p later) (units_at p f.tagged) mine_is none
    one_passes (refuses x a reason is none i seen) = dr_passes x a reason is none i seen
    one_passes (answers h none) = cc_passes h none
    one_passes (runs g none) = run_by g none c.is_judged refl
    one_passes (past silent up none asks un off) = no_list u (units_at p later) (units_at p f.tagged) mine_is none
