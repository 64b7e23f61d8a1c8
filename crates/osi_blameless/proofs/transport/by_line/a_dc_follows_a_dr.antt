-- An end sends a DC only after it was sent a DR, which had passed when the packet of the DC began: so the judge knows it, as long as
-- the other side is judged. For the laws on whole ends.
use Rattle.osi_class.specs.Link.{unit_of}
use Rattle.osi_rules.specs.Traffic.{unnamed}
use Rattle.osi_blameless.proofs.transport.Vocabulary.{arith, [], ap, Bool, false, if◌then◌else◌, List, None, not, Option, refl, Some, subst}
use Rattle.osi_blameless.proofs.transport.Vocabulary.{sym, true, ℕ}
use Rattle.osi_blameless.proofs.transport.Vocabulary.{◌++◌, ◌∙◌, ◌∷◌, ◌≡◌, ◌≢◌, AllByRecursion, position, slice_get, ◌||◌, ◌&&◌}
use Rattle.osi_blameless.proofs.transport.Vocabulary.{acknowledge, confirm}
use Rattle.osi_blameless.proofs.transport.Vocabulary.{Connect, data0, data2, disconnect, disconnected, error, request, Value, Given, Class}
use Rattle.osi_blameless.proofs.transport.Vocabulary.{Two, Zero}
use Rattle.osi_blameless.proofs.transport.Vocabulary.{State, UserCall, react, user_does, Local, is_applied, reach_by, reach_of}
use Rattle.osi_blameless.proofs.transport.Vocabulary.{first_failed, is_live}
use Rattle.osi_blameless.proofs.transport.Vocabulary.{is_named, other, asks_by, asks_of, at_found, at_place, class_for, course_after}
use Rattle.osi_blameless.proofs.transport.Vocabulary.{course_after_none}
use Rattle.osi_blameless.proofs.transport.Vocabulary.{found_on, has_broken, has_disconnected, is_stopped, is_stray, knows_disconnect}
use Rattle.osi_blameless.proofs.transport.Vocabulary.{may_answer}
use Rattle.osi_blameless.proofs.transport.Vocabulary.{none_told, noted, Outcome, packet_begins, reached, refused, refused_reach}
use Rattle.osi_blameless.proofs.transport.Vocabulary.{request_tests, route}
use Rattle.osi_blameless.proofs.transport.Vocabulary.{route_in, routed, Traffic, takes, unnamed_told, with_disconnect, Connection, Course}
use Rattle.osi_blameless.proofs.transport.Vocabulary.{Direction, Left}
use Rattle.osi_blameless.proofs.transport.Vocabulary.{Right, Disconnects, Finding, Broke, Kept, NotJudged, Outside, TooMany, Reach, Route}
use Rattle.osi_blameless.proofs.transport.Vocabulary.{Asks, Named}
use Rattle.osi_blameless.proofs.transport.Vocabulary.{Only, Unnamed, passes, Passing, rubbish, unit as passing, put_by, put_for, arrives}
use Rattle.osi_blameless.proofs.transport.Vocabulary.{begin}
use Rattle.osi_blameless.proofs.transport.Vocabulary.{begins_other, begins_own, calls, Event, HappenAlong, Happens, passes_rubbish, Whole}
use Rattle.osi_blameless.specs.transport.Wholes.{passes_other, passes_own}
use Rattle.osi_rules.specs.declared.findings.Reach.TheVariants as reach
use Rattle.osi_rules.specs.declared.findings.Rule.TheVariants as rule
use Rattle.osi_blameless.proofs.transport.by_line.each_connection_has_its_line.{all_so}
use Rattle.osi_blameless.proofs.transport.small_facts_that_many_lemmas_use.{all_join}
use Rattle.osi_blameless.proofs.transport.requests.what_a_carrier_puts.{Confirms, accepts_any, put_by_so, put_for_so}
use Rattle.osi_blameless.proofs.transport.requests.what_lasts_at_the_judge.{lasts_passing}
use Rattle.osi_blameless.proofs.transport.connections.which_units_are_for_a_connection.{is_dc}
use Rattle.osi_blameless.proofs.transport.what_each_thing_keeps_all_of_them_keep.{along_keeps}

abbrev pub is_dr : Value → Bool
is_dr (disconnect destination source reason user) = true
is_dr v = false

-- ---- an end puts a DC only for a DR

abbrev IsNoDc : Value → Type 0
IsNoDc v = is_dc v ≡ false

given_no_dc : (peer : ℕ) (g : Given) → IsNoDc (unit_of peer g)
given_no_dc peer g = grind arith

none_for : (u : Value) → is_dr u ≡ false → Confirms IsNoDc u
none_for (disconnect destination source reason user) h = absurd (cc h)
none_for u h = tt

for_no_dc : (u : Value) (s : State) → is_dr u ≡ false → AllByRecursion IsNoDc (put_for u s)
for_no_dc u s h = put_for_so IsNoDc given_no_dc (λ m n reason. refl) s u (accepts_any IsNoDc s (λ m x. refl) u) (none_for u h)

by_no_dc : (call : UserCall) (s : State) → AllByRecursion IsNoDc (put_by call s)
by_no_dc call s = put_by_so IsNoDc given_no_dc (λ m n reason. refl) (λ x. refl) call s

-- ---- what a unit changes of what is noted

record Keeps (a b : Course) : Type 0 where
  left : a.disconnects.left ≡ true → b.disconnects.left ≡ true
  right : a.disconnects.right ≡ true → b.disconnects.right ≡ true
  by_left : b.disconnects.seen_by_left ≡ a.disconnects.seen_by_left
  by_right : b.disconnects.seen_by_right ≡ a.disconnects.seen_by_right

keeps_same : (a b : Course) → b.disconnects ≡ a.disconnects → Keeps a b
keeps_same a b e = record {
  left = λ h. ap (λ (k : Disconnects). k.left) e ∙ h;
  right = λ h. ap (λ (k : Disconnects). k.right) e ∙ h;
  by_left = ap (λ (k : Disconnects). k.seen_by_left) e;
  by_right = ap (λ (k : Disconnects). k.seen_by_right) e;
}

keeps_then : (a b c : Course) → Keeps a b → Keeps b c → Keeps a c
keeps_then a b c x y = record {
  left = λ h. y.left (x.left h);
  right = λ h. y.right (x.right h);
  by_left = y.by_left ∙ x.by_left;
  by_right = y.by_right ∙ x.by_right;
}

reached_same : (d : Direction) (r : Reach) (c : Course) → (reached d r c).disconnects ≡ c.disconnects
reached_same d reach.Nothing c = refl
reached_same d reach.Connection c = refl
reached_same Left reach.Side c = refl
reached_same Right reach.Side c = refl
reached_same d reach.Everything c = refl

told_same : (d : Direction) (f : Finding) (r : Reach) (c : Course) → (noted d f (reached d r c)).disconnects ≡ c.disconnects
told_same d f r c = reached_same d r c

keeps_told : (d : Direction) (f : Finding) (r : Reach) (a c : Course) → Keeps a c → Keeps a (noted d f (reached d r c))
keeps_told d f r a c h = keeps_then a c (noted d f (reached d r c)) h (keeps_same c (noted d f (reached d r c)) (told_same d f r c))

keeps_with : (d : Direction) (stray : Bool) (c : Course) → Keeps c (record c { disconnects = with_disconnect d stray c.disconnects })
keeps_with Left stray c = record { left = λ h. refl; right = λ h. h; by_left = refl; by_right = refl }
keeps_with Right stray c = record { left = λ h. h; right = λ h. refl; by_left = refl; by_right = refl }

keeps_none : (d : Direction) (v : Value) (c : Course) → Keeps c (course_after_none d v c)
keeps_none d (disconnect n source reason user) c = keeps_with d true c
keeps_none d _ c = keeps_same c c refl

keeps_after : (d : Direction) (c : Connection) (v : Value) (applied : Bool) (course : Course) →
    Keeps course (course_after d c v applied course)
keeps_after d c (confirm n x) true course = keeps_same course (course_after d c (confirm n x) true course) refl
keeps_after d c (confirm n x) false course = keeps_same course course refl
keeps_after d c (disconnect n source reason user) applied course = keeps_with d (not applied || is_stray d c source) course
keeps_after d c _ applied course = keeps_same course course refl

abbrev After : Traffic → Outcome → Type 0
After s o = Keeps s.course o.state.course

to_none : (d : Direction) (f : Finding) (s : Traffic) → After s (none_told d f s)
to_none d f s = keeps_told d f (reach_of (class_for d s.course) f) s.course s.course (keeps_same s.course s.course refl)

to_unnamed : (d : Direction) (v : Value) (s : Traffic) → After s (unnamed_told d v s)
to_unnamed d v s =
    let c = course_after_none d v s.course in
    let f = unnamed d s.course v in
    keeps_told d f (reach_of (class_for d c) f) s.course c (keeps_none d v s.course)

to_found : (d : Direction) (v : Value) (s : Traffic) (p : ℕ) (o : Option Connection) → After s (at_found d v s p o)
to_found d v s p None = to_unnamed d v s
to_found d v s p (Some c) =
    let f = found_on d s c v in
    keeps_told d f (reach_of (class_for d s.course) f) s.course (course_after d c v (is_applied f) s.course)
    (keeps_after d c v (is_applied f) s.course)

to_place : (d : Direction) (v : Value) (s : Traffic) (o : Option ℕ) → After s (at_place d v s o)
to_place d v s None = to_unnamed d v s
to_place d v s (Some p) = to_found d v s p (slice_get s.connections p)

to_asked : (d : Direction) (f : Finding) (x : Connect) (s : Traffic) → After s (asks_by d f x s)
to_asked d Kept x s = keeps_same s.course s.course refl
to_asked d (Broke r) x s = to_none d (Broke r) s
to_asked d Outside x s = to_none d Outside s
to_asked d TooMany x s = to_none d TooMany s
to_asked d NotJudged x s = to_none d NotJudged s

to_asks : (d : Direction) (v : Value) (s : Traffic) → After s (asks_of d v s)
to_asks d (request x) s = to_asked d (first_failed (request_tests s x)) x s
to_asks d _ s = to_none d NotJudged s

by_route : (d : Direction) (v : Value) (s : Traffic) (r : Route) → After s (routed d v s r)
by_route d v s Asks = to_asks d v s
by_route d v s (Named n) = to_place d v s (position (is_named d n) s.connections)
by_route d v s Only = to_place d v s (position (is_live d) s.connections)
by_route d v s (Unnamed f) = to_none d f s

if_judged : (stopped : Bool) (d : Direction) (v : Value) (s : Traffic) (r : Route) →
    After s (if stopped then none_told d NotJudged s else routed d v s r)
if_judged true d v s r = to_none d NotJudged s
if_judged false d v s r = by_route d v s r

takes_keeps : (d : Direction) (v : Value) (s : Traffic) → Keeps s.course (takes d v s).state.course
takes_keeps d v s = if_judged (is_stopped d s.course) d v s (route d s.course v)

refused_keeps : (d : Direction) (s : Traffic) → Keeps s.course (refused d s).course
refused_keeps d s = keeps_same s.course (refused d s).course (reached_same d (refused_reach d s) s.course)

-- ---- a DR of a side that is judged is noted

has_with : (d : Direction) (stray : Bool) (c : Course) → has_disconnected d (with_disconnect d stray c.disconnects) ≡ true
has_with Left stray c = refl
has_with Right stray c = refl

-- before the class is known the sender of a DR is judged no more, nor in class 0
none_stops : {A : Type 0} (k : Option Class) (c : Course) (f : Finding) → k ≡ None →
    is_stopped Left (noted Left f (reached Left (reach_by k false) c)) ≡ false → A
none_stops None c f e h = absurd (cc h)
none_stops (Some k) c f e h = absurd (cc e)

zero_stops : {A : Type 0} (d : Direction) (k : Option Class) (c : Course) (f : Finding) → k ≡ Some Zero →
    is_stopped d (noted d f (reached d (reach_by k true) c)) ≡ false → A
zero_stops d None c f e h = absurd (cc e)
zero_stops Left (Some Zero) c f e h = absurd (cc h)
zero_stops Right (Some Zero) c f e h = absurd (cc h)
zero_stops d (Some Two) c f e h = absurd (cc e)

module _ (n source reason : ℕ) (user : List ℕ) (s : Traffic) where
  abbrev dr : Value
  dr = disconnect n source reason user

  abbrev IsNoted : Direction → Outcome → Type 0
  IsNoted d o = has_disconnected d o.state.course.disconnects ≡ true

  noted_so : (d : Direction) (f : Finding) (r : Reach) (stray : Bool) (c : Course) →
      c.disconnects ≡ with_disconnect d stray s.course.disconnects → has_disconnected d (noted d f (reached d r c)).disconnects ≡ true
  noted_so d f r stray c e = ap (has_disconnected d) (told_same d f r c ∙ e) ∙ has_with d stray s.course

  found_noted : (d : Direction) (p : ℕ) (o : Option Connection) → IsNoted d (at_found d dr s p o)
  found_noted d p None =
      let c = course_after_none d dr s.course in
      let f = unnamed d s.course dr in
      noted_so d f (reach_of (class_for d c) f) true c refl
  found_noted d p (Some c) =
      let f = found_on d s c dr in
      noted_so d f (reach_of (class_for d s.course) f) (not (is_applied f) || is_stray d c source)
      (course_after d c dr (is_applied f) s.course) refl

  place_noted : (d : Direction) (o : Option ℕ) → IsNoted d (at_place d dr s o)
  place_noted d None = found_noted d 0 None
  place_noted d (Some p) = found_noted d p (slice_get s.connections p)

  class_noted : (d : Direction) (k : Option Class) (broke : Bool) → class_for d s.course ≡ k →
      is_stopped d (routed d dr s (route_in k d broke dr)).state.course ≡ false → IsNoted d (routed d dr s (route_in k d broke dr))
  class_noted Left None broke e h = none_stops s.course.class_seen s.course (Broke rule.UnexpectedUnit) e h
  class_noted Right None broke e h = place_noted Right (position (is_named Right n) s.connections)
  class_noted Left (Some Zero) broke e h = zero_stops Left s.course.class_seen s.course (Broke rule.WrongForm) e h
  class_noted Right (Some Zero) broke e h = zero_stops Right s.course.class s.course (Broke rule.WrongForm) e h
  class_noted d (Some Two) broke e h = place_noted d (position (is_named d n) s.connections)

  if_goes : (stopped : Bool) (d : Direction) → is_stopped d s.course ≡ stopped →
      (let o = if stopped then none_told d NotJudged s else routed d dr s (route d s.course dr) in
      is_stopped d o.state.course ≡ false → IsNoted d o)
  if_goes true Left e h = absurd (cc (sym e ∙ h))
  if_goes true Right e h = absurd (cc (sym e ∙ h))
  if_goes false d e h = class_noted d (class_for d s.course) (has_broken (other d) s.course) refl h

  pub dr_noted : (d : Direction) → is_stopped d (takes d dr s).state.course ≡ false → IsNoted d (takes d dr s)
  dr_noted d h = if_goes (is_stopped d s.course) d refl h

is_noted : (d : Direction) (v : Value) (s : Traffic) → is_dr v ≡ true → is_stopped d (takes d v s).state.course ≡ false →
    has_disconnected d (takes d v s).state.course.disconnects ≡ true
is_noted d (disconnect n source reason user) s e h = dr_noted n source reason user s d h
is_noted d (request x) s e h = absurd (cc e)
is_noted d (confirm n x) s e h = absurd (cc e)
is_noted d (disconnected n source) s e h = absurd (cc e)
is_noted d (data0 end user) s e h = absurd (cc e)
is_noted d (data2 n number end user) s e h = absurd (cc e)
is_noted d (acknowledge credit n number) s e h = absurd (cc e)
is_noted d (error n cause) s e h = absurd (cc e)

-- ---- a whole end

-- of a unit of this kind a DR of the other side is noted
abbrev pub Noted : Direction → Traffic → (Value → Bool) → Value → Type 0
Noted d s f v = f v ≡ true → has_disconnected (other d) s.course.disconnects ≡ true

-- if the first unit is a DC, a DR of the other side had passed when its packet began
abbrev pub Begun : Direction → Traffic → List Value → Type 0
Begun d s [] = ⊥
Begun d s (v ∷ vs) = is_dc v ≡ true → knows_disconnect d s.course.disconnects ≡ true

pub record Tells (d : Direction) (w : Whole) : Type 0 where
  pub coming : AllByRecursion (Noted d w.judge is_dr) w.coming
  pub put : AllByRecursion (Noted d w.judge is_dc) w.put
  pub begun : w.begun ≡ true → Begun d w.judge w.put

-- the judge knows of each DC that the end puts, as long as the other side is judged
abbrev pub Informed : Direction → Whole → Type 0
Informed d w = is_stopped (other d) w.judge.course ≡ false → Tells d w

has_still : (e : Direction) (a b : Course) → Keeps a b → has_disconnected e a.disconnects ≡ true → has_disconnected e b.disconnects ≡ true
has_still Left a b k h = k.left h
has_still Right a b k h = k.right h

knows_still : (d : Direction) (a b : Course) → Keeps a b → knows_disconnect d b.disconnects ≡ knows_disconnect d a.disconnects
knows_still Left a b k = k.by_left
knows_still Right a b k = k.by_right

stopped_before : (e : Direction) (p : Passing) (s : Traffic) → is_stopped e (passes p s).course ≡ false → is_stopped e s.course ≡ false
stopped_before Left p s h = (lasts_passing p s).left h
stopped_before Right p s h = (lasts_passing p s).right h

all_still : (d : Direction) (s t : Traffic) (f : Value → Bool) (vs : List Value) → Keeps s.course t.course →
    AllByRecursion (Noted d s f) vs → AllByRecursion (Noted d t f) vs
all_still d s t f vs k h = all_so (Noted d s f) (Noted d t f) vs (λ v one is. has_still (other d) s.course t.course k (one is)) h

begun_still : (d : Direction) (s t : Traffic) (vs : List Value) →
    knows_disconnect d t.course.disconnects ≡ knows_disconnect d s.course.disconnects → Begun d s vs → Begun d t vs
begun_still d s t [] e h = h
begun_still d s t (v ∷ vs) e h = λ dc. e ∙ h dc

begun_more : (d : Direction) (s : Traffic) (vs us : List Value) → Begun d s vs → Begun d s (vs ++ us)
begun_more d s [] us h = absurd h
begun_more d s (v ∷ vs) us h = h

pub all_of : (P : Value → Type 0) (vs : List Value) → ((v : Value) → P v) → AllByRecursion P vs
all_of P [] h = tt
all_of P (v ∷ vs) h = (h v, all_of P vs h)

none_noted : (d : Direction) (s : Traffic) (vs : List Value) → AllByRecursion IsNoDc vs → AllByRecursion (Noted d s is_dc) vs
none_noted d s vs h = all_so IsNoDc (Noted d s is_dc) vs (λ v no dc. absurd (cc (sym no ∙ dc))) h

-- what an end puts as it takes a unit
for_noted : (d : Direction) (s : Traffic) (u : Value) (end : State) (b : Bool) → is_dr u ≡ b → Noted d s is_dr u →
    AllByRecursion (Noted d s is_dc) (put_for u end)
for_noted d s u end true e h = all_of (Noted d s is_dc) (put_for u end) (λ v dc. h e)
for_noted d s u end false e h = none_noted d s (put_for u end) (for_no_dc u end e)

puts_more : (d : Direction) (w : Whole) (units coming : List Value) (end : State) → Tells d w →
    AllByRecursion (Noted d w.judge is_dc) units → AllByRecursion (Noted d w.judge is_dr) coming →
    Tells d (record w { end = end; put = w.put ++ units; coming = coming })
puts_more d w units coming end h more come = record {
  coming = come;
  put = all_join (Noted d w.judge is_dc) w.put units h.put more;
  begun = λ b. begun_more d w.judge w.put units (h.begun b);
}

-- ---- a packet begins

pub begins_knows : (d : Direction) (s : Traffic) →
    knows_disconnect d (packet_begins d s).course.disconnects ≡ has_disconnected (other d) s.course.disconnects
begins_knows Left s = refl
begins_knows Right s = refl

begins_other_knows : (d : Direction) (s : Traffic) →
    knows_disconnect d (packet_begins (other d) s).course.disconnects ≡ knows_disconnect d s.course.disconnects
begins_other_knows Left s = refl
begins_other_knows Right s = refl

begins_has : (d e : Direction) (s : Traffic) →
    has_disconnected e (packet_begins d s).course.disconnects ≡ has_disconnected e s.course.disconnects
begins_has Left Left s = refl
begins_has Left Right s = refl
begins_has Right Left s = refl
begins_has Right Right s = refl

begins_stopped : (d e : Direction) (s : Traffic) → is_stopped e (packet_begins d s).course ≡ is_stopped e s.course
begins_stopped Left Left s = refl
begins_stopped Left Right s = refl
begins_stopped Right Left s = refl
begins_stopped Right Right s = refl

begins_all : (d e : Direction) (s : Traffic) (f : Value → Bool) (vs : List Value) → AllByRecursion (Noted d s f) vs →
    AllByRecursion (Noted d (packet_begins e s) f) vs
begins_all d e s f vs h =
    all_so (Noted d s f) (Noted d (packet_begins e s) f) vs (λ v one is. begins_has e (other d) s ∙ one is) h

first_begun : (d : Direction) (s : Traffic) (vs : List Value) → vs ≢ [] → AllByRecursion (Noted d s is_dc) vs →
    Begun d (packet_begins d s) vs
first_begun d s [] some h = absurd (some refl)
first_begun d s (v ∷ vs) some h = λ dc. begins_knows d s ∙ h.0 dc

-- ---- whatever happens

pub next_informed : (d : Direction) (event : Event) (w new : Whole) → Happens d event w new → Informed d w → Informed d new
next_informed d arrives w new (u, coming, is) j = subst (Informed d) (sym is) (λ judged.
    let h = j judged in
    let come = subst (AllByRecursion (Noted d w.judge is_dr)) coming h.coming in
    puts_more d w (put_for u w.end) new.coming (react u w.end) h (for_noted d w.judge u w.end (is_dr u) refl come.0) come.1)
next_informed d (calls call) w new (may, is) j = subst (Informed d) (sym is) (λ judged.
    let h = j judged in
    puts_more d w (put_by call w.end) w.coming (user_does call w.end) h (none_noted d w.judge (put_by call w.end) (by_no_dc call w.end))
    h.coming)
next_informed d begins_own w new (some, not_begun, is) j = subst (Informed d) (sym is) (λ judged.
    let h = j (sym (begins_stopped d (other d) w.judge) ∙ judged) in
    record {
      coming = begins_all d d w.judge is_dr w.coming h.coming;
      put = begins_all d d w.judge is_dc w.put h.put;
      begun = λ b. first_begun d w.judge w.put some h.put;
    })
next_informed d passes_own w new (v, (put, begun, is)) j = subst (Informed d) (sym is) (λ judged.
    let h = j (stopped_before (other d) (passing d v) w.judge judged) in
    let k = takes_keeps d v w.judge in
    let rest = subst (AllByRecursion (Noted d w.judge is_dc)) put h.put in
    record {
      coming = all_still d w.judge (takes d v w.judge).state is_dr w.coming k h.coming;
      put = all_still d w.judge (takes d v w.judge).state is_dc new.put k rest.1;
      begun = λ b. absurd (cc b);
    })
next_informed d begins_other w new is j = subst (Informed d) (sym is) (λ judged.
    let h = j (sym (begins_stopped (other d) (other d) w.judge) ∙ judged) in
    record {
      coming = begins_all d (other d) w.judge is_dr w.coming h.coming;
      put = begins_all d (other d) w.judge is_dc w.put h.put;
      begun = λ b. begun_still d w.judge (packet_begins (other d) w.judge) w.put (begins_other_knows d w.judge) (h.begun b);
    })
next_informed d (passes_other v) w new (ranges, is) j = subst (Informed d) (sym is) (λ judged.
    let t = (takes (other d) v w.judge).state in
    let h = j (stopped_before (other d) (passing (other d) v) w.judge judged) in
    let k = takes_keeps (other d) v w.judge in
    record {
      coming = all_join (Noted d t is_dr) w.coming (v ∷ []) (all_still d w.judge t is_dr w.coming k h.coming)
          (λ dr. is_noted (other d) v w.judge dr judged, tt);
      put = all_still d w.judge t is_dc w.put k h.put;
      begun = λ b. begun_still d w.judge t w.put (knows_still d w.judge.course t.course k) (h.begun b);
    })
next_informed d passes_rubbish w new is j = subst (Informed d) (sym is) (λ judged.
    let t = refused (other d) w.judge in
    let h = j (stopped_before (other d) (rubbish (other d)) w.judge judged) in
    let k = refused_keeps (other d) w.judge in
    record {
      coming = all_still d w.judge t is_dr w.coming k h.coming;
      put = all_still d w.judge t is_dc w.put k h.put;
      begun = λ b. begun_still d w.judge t w.put (knows_still d w.judge.course t.course k) (h.begun b);
    })

pub first_informed : (d : Direction) (is_caller : Bool) (local : Local) → Informed d (begin is_caller local)
first_informed d is_caller local = λ judged. record { coming = tt; put = tt; begun = λ b. absurd (cc b) }

-- a DC that is passing
known_by : (d : Direction) (s : Traffic) (v : Value) (rest vs : List Value) → vs ≡ v ∷ rest → is_dc v ≡ true → Begun d s vs →
    knows_disconnect d s.course.disconnects ≡ true
known_by d s v rest vs e dc h = subst (Begun d s) e h dc

pub dc_known : (d : Direction) (w : Whole) (v : Value) (rest : List Value) → Informed d w → is_stopped (other d) w.judge.course ≡ false →
    w.begun ≡ true → w.put ≡ v ∷ rest → is_dc v ≡ true → knows_disconnect d w.judge.course.disconnects ≡ true
dc_known d w v rest j judged begun e dc = known_by d w.judge v rest w.put e dc ((j judged).begun begun)

-- ---- which DC may answer a DR

pub may_so : (d : Direction) (k : Disconnects) → k.strays ≡ true → knows_disconnect d k ≡ true → may_answer d k ≡ true
may_so d k h e = ap (λ (b : Bool). b && knows_disconnect d k) h ∙ e

both_first : (a b : Bool) → (a && b) ≡ true → a ≡ true
both_first true b h = refl
both_first false b h = h

pub may_strays : (d : Direction) (k : Disconnects) → may_answer d k ≡ true → k.strays ≡ true
may_strays d k h = both_first k.strays (knows_disconnect d k) h

all_informed : (d : Direction) (events : List Event) (w new : Whole) → HappenAlong d w events new → Informed d w → Informed d new
all_informed d = along_keeps (Happens d) (Informed d) (next_informed d)

pub informed_dc : (d : Direction) (is_caller : Bool) (local : Local) (events : List Event) (w : Whole) (n source : ℕ) (rest : List Value) →
    HappenAlong d (begin is_caller local) events w → w.begun ≡ true → w.put ≡ disconnected n source ∷ rest →
    is_stopped (other d) w.judge.course ≡ false → knows_disconnect d w.judge.course.disconnects ≡ true
informed_dc d is_caller local events w n source rest along begun e judged =
    dc_known d w (disconnected n source) rest
    (all_informed d events (begin is_caller local) w along (first_informed d is_caller local)) judged begun e refl
