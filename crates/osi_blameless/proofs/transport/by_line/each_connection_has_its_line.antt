-- Each connection of a calling end that is open at the judge has its line: what that says, and that it stays so as packets begin.
-- For the law on a whole end.
use Rattle.osi_blameless.proofs.transport.Vocabulary.{[], agreed_size, AllByRecursion, ap, arith, asked, asked_by, begins, begins_elsewhere}
use Rattle.osi_blameless.proofs.transport.Vocabulary.{Bool, Class}
use Rattle.osi_blameless.proofs.transport.Vocabulary.{closing, confirm, Connect, Connection, destination_of, Direction, disconnected, false}
use Rattle.osi_blameless.proofs.transport.Vocabulary.{is_closing}
use Rattle.osi_blameless.proofs.transport.Vocabulary.{is_open, is_silent, is_some, Left, Line, linked, List, Live, Local, map, None}
use Rattle.osi_blameless.proofs.transport.Vocabulary.{opened_half}
use Rattle.osi_blameless.proofs.transport.Vocabulary.{opened_link, Option, option_map, packet_begins, refl, request, Right, silent_half}
use Rattle.osi_blameless.proofs.transport.Vocabulary.{slice_get}
use Rattle.osi_blameless.proofs.transport.Vocabulary.{slice_get-map, Some, Standing, State, subst, sym, Traffic, true, Two, Value, value_at}
use Rattle.osi_blameless.proofs.transport.Vocabulary.{Whole}
use Rattle.osi_blameless.proofs.transport.Vocabulary.{window_units, ℕ, ◌&&◌, ◌++◌, ◌==◌, ◌||◌, ◌∙◌, ◌∷◌, ◌≡◌, ◌≢◌, ◌≤◌, ◌⊎◌}
use Rattle.osi_blameless.specs.transport.Lines.{begins_other, begins_own}
use Rattle.osi_blameless.proofs.transport.small_facts_that_many_lemmas_use.{and_first, begins_judged, begun_left, begun_right, course_class}
use Rattle.osi_blameless.proofs.transport.small_facts_that_many_lemmas_use.{is_false}
use Rattle.osi_blameless.proofs.transport.small_facts_that_many_lemmas_use.{no_list}
use Rattle.osi_blameless.proofs.transport.names.what_holds_of_one_item.{HoldsOfEach, after_map}
use Rattle.osi_blameless.proofs.transport.connections.which_units_are_for_a_connection.{IsDc, IsOf, is_dc, is_ours, leads, ours, those}
use Rattle.osi_blameless.proofs.transport.connections.which_units_are_for_a_connection.{picked_first}
use Rattle.osi_blameless.proofs.transport.connections.a_line_since_its_connection_opened.{Tracks, close_waits, tracks_keep, tracks_on}
pub use Rattle.osi_blameless.proofs.transport.requests.a_cc_is_put_only_for_a_cr.{IsNoCc}
pub use Rattle.osi_blameless.proofs.transport.connections.what_stays_of_each_connection.{is_tracked}

-- ---- the connections at the judge

-- left has sent its CR, and right has not answered it
abbrev pub is_waiting : Connection → Bool
is_waiting c = is_open c.left.phase && is_silent c.right.phase

abbrev pub Tracked : List Connection → ℕ → Type 0
Tracked cs r = (p : ℕ) × (c : Connection) × (slice_get cs p ≡ Some c) × (is_tracked c ≡ true) × (c.left.reference ≡ r)

-- what the end has of the connection, and what has come for it
pub data Row (local : Local) (end : State) (coming : List Value) (r peer : ℕ) (line : Line) : Type 0 where
  -- it has not taken the CC, which selects class 2, nor DCs that came before it
  asks : value_at r end.live ≡ Some asked → (x : Connect) → x.source ≡ peer → (x.class == 2) ≡ true → (early : List Value) →
      AllByRecursion IsDc early → those r coming ≡ early ++ confirm r x ∷ line.coming →
      line.end ≡ Some (opened_link Two (agreed_size x.parameters.size local) local x.credit) → Row local end coming r peer line
  talks : (link : Standing) → value_at r end.live ≡ Some (linked peer link) → line.end ≡ Some link → those r coming ≡ line.coming →
      Row local end coming r peer line
  -- it has closed it
  closes : (o : Option Live) → value_at r end.live ≡ o → (q : ℕ) → (o ≡ Some (closing q)) ⊎ (o ≡ None) → line.end ≡ None →
      those r coming ≡ line.coming → Row local end coming r peer line
  -- it has ended
  over : is_some end.ended ≡ true → Row local end coming r peer line

-- a DC for a DR that closed nothing
pub record IsSpare (is_stray : Bool) (r peer : ℕ) (v : Value) : Type 0 where
  pub is : v ≡ disconnected peer r
  pub strays : is_stray ≡ true

-- what a line has put comes before the others that are to pass
abbrev pub IsFirst : (put spare : List Value) → Type 0
IsFirst put spare = put ≡ [] → spare ≡ []

-- The line of a connection that is open, or was as it lost its judgement. Of the units that are to pass with its references, the line
-- has put the first ones; the end has put the others after it had closed the connection (`spare`). If these alone are to pass, the
-- connection has lost its judgement: then the line has no part in what passes.
pub record Following (local : Local) (put : List Value) (begun strays : Bool) (end : State) (coming : List Value) (c : Connection) :
    Type 0 where
  pub r : ℕ
  pub peer : ℕ
  pub line : Line
  pub left : c.left.reference ≡ r
  pub right : c.right.reference ≡ peer
  pub tracks : Tracks Left r peer line
  pub judge : line.judge ≡ c
  pub spare : List Value
  pub put_is : ours r peer put ≡ line.put ++ spare
  pub spares : AllByRecursion (IsSpare strays r peer) spare
  pub gone : spare ≢ [] → line.end ≡ None
  pub begun_is : IsFirst line.put spare → line.begun ≡ (begun && leads (is_ours r peer) put)
  pub row : Row local end coming r peer line
  -- a second CC ends the judging of the connection
  pub calm : c.is_judged ≡ true → AllByRecursion IsNoCc line.coming

-- it is so at another end too, if the units that are to pass and that have come for it are as they were
pub followed_at : {local : Local} {put puts : List Value} {b a s t : Bool} {end after : State} {coming later : List Value} {c : Connection}
    (g : Following local put b s end coming c) → ours g.r g.peer puts ≡ ours g.r g.peer put →
    AllByRecursion (IsSpare t g.r g.peer) g.spare →
    (b && leads (is_ours g.r g.peer) put) ≡ (a && leads (is_ours g.r g.peer) puts) → Row local after later g.r g.peer g.line →
    Following local puts a t after later c
followed_at g same spares begun row = record {
  r = g.r;
  peer = g.peer;
  line = g.line;
  left = g.left;
  right = g.right;
  tracks = g.tracks;
  judge = g.judge;
  spare = g.spare;
  put_is = same ∙ g.put_is;
  spares = spares;
  gone = g.gone;
  begun_is = λ first. g.begun_is first ∙ begun;
  row = row;
  calm = g.calm;
}

row_same : (local : Local) (end : State) (coming : List Value) (r peer : ℕ) (line after : Line) → after.end ≡ line.end →
    after.coming ≡ line.coming → Row local end coming r peer line → Row local end coming r peer after
row_same local end coming r peer line after link same (asks there x source two early dcs first is) =
    asks there x source two early dcs (first ∙ ap (λ (l : List Value). early ++ confirm r x ∷ l) (sym same)) (link ∙ is)
row_same local end coming r peer line after link same (talks l there is all) = talks l there (link ∙ is) (all ∙ sym same)
row_same local end coming r peer line after link same (closes o there q e is all) = closes o there q e (link ∙ is) (all ∙ sym same)
row_same local end coming r peer line after link same (over h) = over h

-- and if its line goes on, with the same link and the same units that have come
pub followed_on : {local : Local} {put puts : List Value} {b a s t : Bool} {end : State} {coming : List Value} {c e : Connection}
    (g : Following local put b s end coming c) (line : Line) → Tracks Left g.r g.peer line → line.judge ≡ e → line.end ≡ g.line.end →
    line.coming ≡ g.line.coming → e.left.reference ≡ c.left.reference → e.right.reference ≡ c.right.reference →
    ours g.r g.peer puts ≡ line.put ++ g.spare → AllByRecursion (IsSpare t g.r g.peer) g.spare →
    (IsFirst line.put g.spare → line.begun ≡ (a && leads (is_ours g.r g.peer) puts)) → (e.is_judged ≡ true → c.is_judged ≡ true) →
    Following local puts a t end coming e
followed_on {local} {put} {puts} {b} {a} {s} {t} {end} {coming} {c} {e} g line tracks judge link same left right put_is spares begun was =
    record {
      r = g.r;
      peer = g.peer;
      line = line;
      left = left ∙ g.left;
      right = right ∙ g.right;
      tracks = tracks;
      judge = judge;
      spare = g.spare;
      put_is = put_is;
      spares = spares;
      gone = λ some. link ∙ g.gone some;
      begun_is = begun;
      row = row_same local end coming g.r g.peer g.line line link same g.row;
      calm = λ j. subst (AllByRecursion IsNoCc) (sym same) (g.calm (was j));
    }

-- a connection whose CR waits for its answer
pub record Waiting (local : Local) (end : State) (coming : List Value) (c : Connection) : Type 0 where
  pub r : ℕ
  pub left : c.left ≡ opened_half r (window_units local.window)
  pub right : c.right ≡ silent_half
  pub seen : c.seen_by_right.next ≡ 0
  pub early : AllByRecursion IsDc (those r coming)
  pub row : end.ended ≡ None → value_at r end.live ≡ Some asked

-- a CR that is to pass
pub record IsAsking (local : Local) (end : State) (coming : List Value) (x : Connect) : Type 0 where
  pub left : (asked_by x).left ≡ opened_half x.source (window_units local.window)
  pub early : AllByRecursion IsDc (those x.source coming)
  pub row : end.ended ≡ None → value_at x.source end.live ≡ Some asked

-- a unit that is to pass is a CR, or of an open connection, or a DC for a DR that closed nothing
pub data IsOwned (s : Traffic) (v : Value) : Type 0 where
  asking : (x : Connect) → v ≡ request x → IsOwned s v
  of : (p : ℕ) (c : Connection) → slice_get s.connections p ≡ Some c → is_tracked c ≡ true →
      IsOf c.left.reference c.right.reference v → IsOwned s v
  stray : (m source : ℕ) → v ≡ disconnected m source → s.course.disconnects.strays ≡ true → IsOwned s v

-- A CC that has come, if the end awaits it, or if no connection has lost its judgement: then it is for an open connection whose CR the end
-- has put. Another CC for the same connection ends the judging of that.
abbrev pub IsAnswer : (loose : Bool) → List Connection → State → Value → Type 0
IsAnswer loose cs end v = (n : ℕ) (x : Connect) → v ≡ confirm n x → end.ended ≡ None →
    (value_at n end.live ≡ Some asked) ⊎ (loose ≡ false) → Tracked cs n × (value_at n end.live ≡ Some asked)

-- a unit but a DC is for a reference that was given
abbrev pub AreGiven : ℕ → Value → Type 0
AreGiven n v = is_dc v ≡ false → (m : ℕ) → destination_of v ≡ Some m → m ≤ n

-- a reference that was given, and for which no CR waits or is to pass
pub record IsSettled (cs : List Connection) (put : List Value) (given r : ℕ) : Type 0 where
  pub up : r ≤ given
  pub waits : HoldsOfEach (λ (c : Connection). is_waiting c ≡ true → c.left.reference ≡ r → ⊥) cs
  pub asks : AllByRecursion (λ (v : Value). (x : Connect) → v ≡ request x → x.source ≡ r → ⊥) put

abbrev pub AreSettled : List Connection → (all : List Value) → (given : ℕ) → Value → Type 0
AreSettled cs all given v = (m source : ℕ) → v ≡ disconnected m source → IsSettled cs all given source

pub record Followed (local : Local) (w : Whole) : Type 0 where
  pub lines : HoldsOfEach (λ (c : Connection). is_tracked c ≡ true → Following local w.put w.begun w.judge.course.disconnects.strays w.end
      w.coming c)
      w.judge.connections
  pub waiting : HoldsOfEach (λ (c : Connection). is_waiting c ≡ true → Waiting local w.end w.coming c) w.judge.connections
  pub owned : AllByRecursion (λ (v : Value). IsOwned w.judge v) w.put
  pub linked : w.end.ended ≡ None → (r peer : ℕ) (link : Standing) → value_at r w.end.live ≡ Some (linked peer link) →
      Tracked w.judge.connections r × (w.end.class ≡ Some Two)
  pub answers : AllByRecursion (λ (v : Value). IsAnswer w.judge.course.loose w.judge.connections w.end v) w.coming
  pub requests : AllByRecursion (λ (v : Value). (x : Connect) → v ≡ request x → IsAsking local w.end w.coming x) w.put
  pub two : (r : ℕ) → Tracked w.judge.connections r → w.judge.course.class ≡ Some Two
  -- left closes nothing before right has answered; class 0 is not selected
  pub silent : HoldsOfEach (λ (c : Connection). is_silent c.right.phase ≡ true → is_open c.left.phase ≡ true) w.judge.connections
  pub zero : (w.judge.course.class ≡ None) ⊎ (w.judge.course.class ≡ Some Two)
  pub some : w.begun ≡ true → w.put ≢ []
  -- what has come is for references that were given
  pub few : AllByRecursion (AreGiven w.end.given) w.coming
  -- left knows the class if it knows of a CC
  pub seen : HoldsOfEach (λ (c : Connection). is_tracked c ≡ true → is_silent c.seen_by_left.phase ≡ false →
      w.judge.course.class_seen ≡ Some Two) w.judge.connections
  -- no CR waits for the connection of a DC that is to pass
  pub settled : AllByRecursion (AreSettled w.judge.connections w.put w.end.given) w.put
  -- a connection that has lost its judgement was answered and not refused, and right has not answered a DR there
  pub lost : HoldsOfEach (λ (c : Connection). c.is_judged ≡ false → (is_open c.right.phase || is_closing c.right.phase) ≡ true)
      w.judge.connections
  -- the end awaits no CC for a connection that left has closed
  pub shut : w.end.ended ≡ None → HoldsOfEach (λ (c : Connection). is_open c.left.phase ≡ false →
      value_at c.left.reference w.end.live ≡ Some asked → ⊥) w.judge.connections

-- ---- a packet begins

pub put_some : (v : Value) (vs spare put : List Value) → put ≡ v ∷ vs → IsFirst put spare
put_some v vs spare put e h = absurd (no_list v vs (sym e ∙ h))

-- a line that has put nothing has begun nothing
pub idle_line : (r peer : ℕ) (line : Line) → Tracks Left r peer line → line.put ≡ [] → line.begun ≡ false
idle_line r peer line t e = is_false line.begun (λ h. (tracks_keep Left r peer line t).some h e)

not_begun : (local : Local) (put : List Value) (strays : Bool) (end : State) (coming : List Value) (c : Connection)
    (f : Following local put false strays end coming c) (l : List Value) → f.line.put ≡ l → f.line.begun ≡ false
not_begun local put strays end coming c f [] e = idle_line f.r f.peer f.line f.tracks e
not_begun local put strays end coming c f (v ∷ vs) e = f.begun_is (put_some v vs f.spare f.line.put e)

module _ (local : Local) (put : List Value) (strays : Bool) (end : State) (coming : List Value) (c : Connection)
    (f : Following local put false strays end coming c) where
  -- the packet is of another connection, or of one that has lost its judgement and whose line has put nothing
  elsewhere : f.line.begun ≡ false → (IsFirst f.line.put f.spare → leads (is_ours f.r f.peer) put ≡ false) →
      Following local put true strays end coming (begins Left c)
  elsewhere idle none =
      let after = record f.line { judge = begins Left f.line.judge } in
      followed_on f after (tracks_on Left f.r f.peer f.line after (begins_elsewhere ∷ []) f.tracks (after, (idle, refl), refl))
      (ap (begins Left) f.judge) refl refl refl refl f.put_is f.spares (λ first. idle ∙ sym (none first))
      (λ j. sym (begins_judged Left c) ∙ j)

  begins_line : (v : Value) (vs : List Value) → f.line.put ≡ v ∷ vs → leads (is_ours f.r f.peer) put ≡ true →
      Following local put true strays end coming (begins Left c)
  begins_line v vs some e =
      let after = record f.line { begun = true; judge = begins Left f.line.judge } in
      followed_on f after
      (tracks_on Left f.r f.peer f.line after (begins_own ∷ []) f.tracks
      (after, (λ h. no_list v vs (sym some ∙ h), f.begun_is (put_some v vs f.spare f.line.put some), refl), refl))
      (ap (begins Left) f.judge) refl refl refl refl f.put_is f.spares (λ first. sym e) (λ j. sym (begins_judged Left c) ∙ j)

  left_by : (b : Bool) → leads (is_ours f.r f.peer) put ≡ b → (l : List Value) → f.line.put ≡ l →
      Following local put true strays end coming (begins Left c)
  left_by false e l is = elsewhere (not_begun local put strays end coming c f l is) (λ first. e)
  left_by true e (v ∷ vs) is = begins_line v vs is e
  left_by true e [] is = grind (arith, elsewhere, no_list, picked_first, not_begun local put strays end coming c f [] is)

  left_begins : Following local put true strays end coming (begins Left c)
  left_begins = left_by (leads (is_ours f.r f.peer) put) refl f.line.put refl

right_begins : (local : Local) (put : List Value) (b strays : Bool) (end : State) (coming : List Value) (c : Connection) →
    Following local put b strays end coming c → Following local put b strays end coming (begins Right c)
right_begins local put b strays end coming c f =
    let after = record f.line { judge = begins Right f.line.judge } in
    followed_on f after (tracks_on Left f.r f.peer f.line after (begins_other ∷ []) f.tracks (after, refl, refl)) (ap
    (begins Right) f.judge)
    refl refl refl refl f.put_is f.spares f.begun_is (λ j. sym (begins_judged Right c) ∙ j)

-- if none has lost its judgement, none had
pub why_before : {A : Type 0} (was is : Bool) → (is ≡ false → was ≡ false) → A ⊎ (is ≡ false) → A ⊎ (was ≡ false)
why_before was is firm h = grind arith

tracked_begins : (d : Direction) (c : Connection) → is_tracked (begins d c) ≡ is_tracked c
tracked_begins d c = grind arith

waiting_begins : (d : Direction) (c : Connection) → is_waiting (begins d c) ≡ is_waiting c
waiting_begins d c = grind arith

waits_begun : (local : Local) (d : Direction) (end : State) (coming : List Value) (c : Connection) → Waiting local end coming c →
    Waiting local end coming (begins d c)
waits_begun local d end coming c w = grind (arith, begun_left, begun_right)

tracked_at : (d : Direction) (cs : List Connection) (r : ℕ) → Tracked cs r → Tracked (map (begins d) cs) r
tracked_at d cs r (p, c, at, tracked, is) = grind (arith, slice_get-map (begins d) cs p, tracked_begins d c, begun_left d c)

tracked_was : (d : Direction) (cs : List Connection) (r : ℕ) → Tracked (map (begins d) cs) r → Tracked cs r
tracked_was d cs r (p, c, at, tracked, is) = grind (arith, after_map, tracked_begins, begun_left)

owned_at : (d : Direction) (s : Traffic) (v : Value) → IsOwned s v → IsOwned (packet_begins d s) v
owned_at d s v (asking x e) = asking x e
owned_at d s v (of p c at tracked is) = of p (begins d c)
    (slice_get-map (begins d) s.connections p ∙ ap (λ (o : Option Connection). option_map (begins d) o) at) (tracked_begins d c ∙ tracked)
    (grind (arith, begun_left, begun_right))
owned_at d s v (stray m source e strays) = stray m source e ((grind arith) ∙ strays)

pub all_so : (P Q : Value → Type 0) (vs : List Value) → ((v : Value) → P v → Q v) → AllByRecursion P vs → AllByRecursion Q vs
all_so P Q [] h a = tt
all_so P Q (v ∷ vs) h (one, more) = (h v one, all_so P Q vs h more)

-- the reference of a DC that is to pass is settled as before
settled_at : (d : Direction) (cs : List Connection) (all : List Value) (given : ℕ) (v : Value) → AreSettled cs all given v →
    AreSettled (map (begins d) cs) all given v
settled_at d cs all given v h m source e =
    let k = h m source e in
    grind (arith, after_map, waiting_begins, begun_left)

-- left knows the class that is selected
seen_at : (local : Local) (d : Direction) (w : Whole) → Followed local w → (i : ℕ) (x : Connection) →
    slice_get w.judge.connections i ≡ Some x → is_tracked x ≡ true → is_silent (begins d x).seen_by_left.phase ≡ false →
    (packet_begins d w.judge).course.class_seen ≡ Some Two
seen_at local Left w f i x was tracked known = f.two x.left.reference (i, x, was, tracked, refl)
seen_at local Right w f i x was tracked known = f.seen i x was tracked known

pub followed_begins : (local : Local) (d : Direction) (w : Whole) (b : Bool) → (b ≡ true → w.put ≢ []) → Followed local w →
    ((i : ℕ) (c : Connection) → slice_get w.judge.connections i ≡ Some c → is_tracked c ≡ true →
    Following local w.put w.begun w.judge.course.disconnects.strays w.end w.coming c →
    Following local w.put b w.judge.course.disconnects.strays w.end w.coming (begins d c)) →
    Followed local (record w { begun = b; judge = packet_begins d w.judge })
followed_begins local d w b some f k = record {
  lines = λ i c at tracked.
      let (x, was, is) = after_map (begins d) w.judge.connections i c at in
      let before = sym (tracked_begins d x) ∙ ap is_tracked (sym is) ∙ tracked in
      subst (λ (s : Bool). Following local w.put b s w.end w.coming c) (sym (grind arith))
      (subst (λ (e : Connection). Following local w.put b w.judge.course.disconnects.strays w.end w.coming e) (sym is)
      (k i x was before (f.lines i x was before)));
  waiting = grind (arith, after_map, waits_begun, waiting_begins);
  owned = all_so (λ v. IsOwned w.judge v) (λ v. IsOwned (packet_begins d w.judge) v) w.put (λ v. owned_at d w.judge v) f.owned;
  linked = λ lasts r peer link e. let (t, two) = f.linked lasts r peer link e in (tracked_at d w.judge.connections r t, two);
  answers = all_so (λ v. IsAnswer w.judge.course.loose w.judge.connections w.end v)
      (λ v. IsAnswer (packet_begins d w.judge).course.loose (map (begins d) w.judge.connections) w.end v) w.coming
      (λ v h n x e lasts why.
      let (t, row) = h n x e lasts (why_before w.judge.course.loose (packet_begins d w.judge).course.loose (grind arith) why) in
      (tracked_at d w.judge.connections n t, row)) f.answers;
  requests = f.requests;
  two = λ r t. course_class d w.judge ∙ f.two r (tracked_was d w.judge.connections r t);
  silent = grind (arith, after_map, begun_right, begun_left);
  zero = subst (λ (k : Option Class). (k ≡ None) ⊎ (k ≡ Some Two)) (sym (course_class d w.judge)) f.zero;
  some = some;
  few = f.few;
  seen = λ i c at tracked known.
      let (x, was, is) = after_map (begins d) w.judge.connections i c at in
      seen_at local d w f i x was (sym (tracked_begins d x) ∙ ap is_tracked (sym is) ∙ tracked)
      (ap (λ (e : Connection). is_silent e.seen_by_left.phase) (sym is) ∙ known);
  settled = search (arith, all_so, settled_at);
  lost = grind (arith, after_map, begun_right, begins_judged);
  shut = grind (arith, after_map, begun_left);
}

-- what the line of a connection that is open at the judge has put comes before the spare DCs
none_by : (spare : List Value) (put : List Value) → (spare ≢ [] → put ≡ [] → ⊥) → put ≡ [] → spare ≡ []
none_by [] put h e = refl
none_by (v ∷ vs) put h e = absurd (h (λ k. cc k) e)

pub no_spare : (local : Local) (put coming : List Value) (b strays : Bool) (end : State) (c : Connection) → c.is_judged ≡ true →
    is_tracked c ≡ true → (g : Following local put b strays end coming c) → g.line.put ≡ [] → g.spare ≡ []
no_spare local put coming b strays end c judged tracked g e =
    let line_judged = ap (λ (x : Connection). x.is_judged) g.judge ∙ judged in
    let live = ap (λ (x : Connection). is_open x.left.phase) g.judge
    ∙ and_first (is_open c.left.phase) (is_open c.right.phase || is_closing c.right.phase) tracked in
    none_by g.spare g.line.put
    (λ some none. close_waits Left g.r g.peer g.line g.tracks line_judged (g.gone some) live none) e

pub own_begins : (local : Local) (w : Whole) → w.begun ≡ false → w.put ≢ [] → Followed local w →
    Followed local (record w { begun = true; judge = packet_begins Left w.judge })
own_begins local w e some f =
    followed_begins local Left w true (λ h. some) f (λ i c at tracked g.
    let s = w.judge.course.disconnects.strays in
    left_begins local w.put s w.end w.coming c (subst (λ (b : Bool). Following local w.put b s w.end w.coming c) e g))

pub other_begins : (local : Local) (w : Whole) → Followed local w → Followed local (record w { judge = packet_begins Right w.judge })
other_begins local w f = search (arith, followed_begins, right_begins)
