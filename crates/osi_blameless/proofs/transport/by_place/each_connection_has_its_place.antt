-- Each connection at the judge of a called end: its CR has not been answered, its answer is to pass, or its line goes on.
-- For the law on a whole called end.
use Rattle.osi_blameless.proofs.transport.Vocabulary.{[], accept, acceptance, Act, ActsAlong, AllByRecursion, ap, arith, begins}
use Rattle.osi_blameless.proofs.transport.Vocabulary.{begins_elsewhere, Bool}
use Rattle.osi_blameless.proofs.transport.Vocabulary.{Class, confirm, Connect, Connection, destination_of, Direction, disconnect}
use Rattle.osi_blameless.proofs.transport.Vocabulary.{disconnected, false}
use Rattle.osi_blameless.proofs.transport.Vocabulary.{Half, inl, inr, is_open, is_refused, is_silent, is_some, IsConnect, Left, Line}
use Rattle.osi_blameless.proofs.transport.Vocabulary.{linked, List, Local}
use Rattle.osi_blameless.proofs.transport.Vocabulary.{None, offer_of, opened_half, opened_line, opened_link, Option, option_map}
use Rattle.osi_blameless.proofs.transport.Vocabulary.{packet_begins, refl}
use Rattle.osi_blameless.proofs.transport.Vocabulary.{request, Right, selected_by, silent_half, slice_get, slice_get-map, Some, Standing}
use Rattle.osi_blameless.proofs.transport.Vocabulary.{State, subst}
use Rattle.osi_blameless.proofs.transport.Vocabulary.{sym, Traffic, true, Two, Value, value_at, Whole, ℕ, ◌&&◌, ◌++◌, ◌<◌, ◌||◌, ◌∙◌, ◌∷◌}
use Rattle.osi_blameless.proofs.transport.Vocabulary.{◌≡◌, ◌≢◌, ◌≤◌}
use Rattle.osi_blameless.proofs.transport.Vocabulary.{◌⊎◌}
use Rattle.osi_blameless.specs.transport.Lines.{begins_other, begins_own}
use Rattle.osi_blameless.proofs.transport.small_facts_that_many_lemmas_use.{begun_right, course_class, or_last}
use Rattle.osi_blameless.proofs.transport.connections.units_by_their_place.{Placed, first_at, units_at, values}
use Rattle.osi_blameless.proofs.transport.names.what_holds_of_one_item.{after_map}
use Rattle.osi_blameless.proofs.transport.connections.what_is_live_at_an_end.{Timely, timely_begins}
use Rattle.osi_blameless.proofs.transport.connections.which_units_are_for_a_connection.{those}
use Rattle.osi_blameless.proofs.transport.connections.a_line_since_its_connection_opened.{Tracks, tracks_on}

-- ---- what has come for a line

abbrev pub IsDc : Value → Type 0
IsDc v = (m : ℕ) × (n : ℕ) × (v ≡ disconnected m n)

-- the units of the line, in order, with DCs between them that answer nothing
abbrev pub Among : List Value → List Value → Type 0
Among xs [] = xs ≡ []
Among xs (v ∷ ys) = (IsDc v × Among xs ys) ⊎ ((zs : List Value) × (xs ≡ v ∷ zs) × Among zs ys)

pub among_more : (xs ys : List Value) (v : Value) → Among xs ys → Among (xs ++ v ∷ []) (ys ++ v ∷ [])
among_more xs [] v e = inr ([], ap (λ (l : List Value). l ++ v ∷ []) e, refl)
among_more xs (y ∷ ys) v (inl (dc, a)) = inl (dc, among_more xs ys v a)
among_more xs (y ∷ ys) v (inr (zs, e, a)) = grind (arith, among_more zs ys v a)

pub among_skip : (xs ys : List Value) (v : Value) → IsDc v → Among xs ys → Among xs (ys ++ v ∷ [])
among_skip xs [] v dc e = inl (dc, e)
among_skip xs (y ∷ ys) v dc (inl (d, a)) = inl (d, among_skip xs ys v dc a)
among_skip xs (y ∷ ys) v dc (inr (zs, e, a)) = inr (zs, e, among_skip zs ys v dc a)

-- ---- one connection

-- the CR, as the judge knows it until it is answered
pub record Asked (x : Connect) (c : Connection) : Type 0 where
  pub range : IsConnect x
  pub offer : c.offer ≡ offer_of x
  pub left : c.left ≡ opened_half x.source x.credit
  pub right : c.right ≡ silent_half
  pub known : c.seen_by_left ≡ silent_half
  pub judged : c.is_judged ≡ true

-- the end does not have this connection open
abbrev pub IsUnlinked : State → ℕ → Type 0
IsUnlinked end r = end.ended ≡ None → (q : ℕ) (link : Standing) → value_at r end.live ≡ Some (linked q link) → ⊥

-- what the end has of the connection, and what has come for it
pub data Row (end : State) (coming : List Value) (r peer : ℕ) (link : Option Standing) (come : List Value) : Type 0 where
  talks : (l : Standing) → value_at r end.live ≡ Some (linked peer l) → link ≡ Some l → Among come (those r coming) →
      Row end coming r peer link come
  closes : IsUnlinked end r → link ≡ None → Among come (those r coming) → Row end coming r peer link come
  over : is_some end.ended ≡ true → Row end coming r peer link come

-- a line that begins as the CC passes, whatever the judge knows then
abbrev pub line_of : Option Standing → List Value → List Value → Connection → Line
line_of link put come judge = record { end = link; put = put; begun = false; judge = judge; coming = come }

-- the CC is to pass
pub record Answering (local : Local) (shut : ℕ → Bool) (end : State) (coming mine : List Value) (begun : Bool) (o : Option ℕ)
    (c : Connection) : Type 0 where
  pub x : Connect
  pub size : Option ℕ
  pub r : ℕ
  pub index : o ≡ Some r
  pub asked : Asked x c
  pub selected : selected_by x local ≡ accept Two size
  pub link : Option Standing
  pub more : List Value
  pub come : List Value
  pub mine_is : mine ≡ confirm x.source (acceptance Two size x local r) ∷ more
  pub acts : List Act
  pub along : (judge : Connection) →
      ActsAlong Right r x.source (opened_line (opened_link Two size local x.credit) judge) acts (line_of link more come judge)
  pub seen : begun ≡ true → c.seen_by_right ≡ c.left
  pub row : Row end coming r x.source link come
  pub shut_is : shut r ≡ true → link ≡ None

-- the CC has passed
pub record Running (shut : ℕ → Bool) (end : State) (coming mine : List Value) (begun : Bool) (o : Option ℕ) (c : Connection) : Type 0 where
  pub r : ℕ
  pub peer : ℕ
  pub index : o ≡ Some r
  pub line : Line
  pub judge : line.judge ≡ c
  pub put : line.put ≡ mine
  pub begun_is : line.begun ≡ begun
  pub tracks : Tracks Right r peer line
  pub there : is_open c.right.phase ≡ true
  pub right : c.right.reference ≡ r
  pub left : c.left.reference ≡ peer
  pub row : Row end coming r peer line.end line.coming
  pub shut_is : shut r ≡ true → line.end ≡ None

-- it goes on so, at another end too
pub running_on : {shut then : ℕ → Bool} {end after : State} {coming later mine put : List Value} {b a : Bool} {o : Option ℕ}
    {c e : Connection} (g : Running shut end coming mine b o c) (line : Line) → Tracks Right g.r g.peer line → line.judge ≡ e →
    line.put ≡ put → line.begun ≡ a → is_open e.right.phase ≡ true → e.right.reference ≡ c.right.reference →
    e.left.reference ≡ c.left.reference → Row after later g.r g.peer line.end line.coming → (then g.r ≡ true → line.end ≡ None) →
    Running then after later put a o e
running_on g line tracks judge put begun there right left row shut_is = record {
  r = g.r;
  peer = g.peer;
  index = g.index;
  line = line;
  judge = judge;
  put = put;
  begun_is = begun;
  tracks = tracks;
  there = there;
  right = right ∙ g.right;
  left = left ∙ g.left;
  row = row;
  shut_is = shut_is;
}

-- right has refused it, and left knows nothing else of right; it is judged, since left could break no rule of it
abbrev pub IsOff : Connection → Type 0
IsOff c = (is_refused c.right.phase ≡ true) × ((is_silent c.seen_by_left.phase || is_refused c.seen_by_left.phase) ≡ true)
    × (c.is_judged ≡ true)

-- right has closed it, which has this reference; or it has refused it
abbrev pub IsPast : Option ℕ → Connection → Type 0
IsPast o c = ((o ≡ Some c.right.reference) × (is_refused c.right.phase ≡ false)) ⊎ IsOff c

-- how a connection stands: `mine` and `asks` are the units of its place that are to pass and that are to be taken, `begun` says
-- that one of these begins to pass, and `o` is the reference that the end gave it; `shut` are those that the end has closed
pub data Stand (local : Local) (shut : ℕ → Bool) (end : State) (coming mine asks : List Value) (begun : Bool) (o : Option ℕ)
    (c : Connection) : Type 0 where
  comes : (x : Connect) → Asked x c → mine ≡ [] → (end.ended ≡ None → asks ≡ request x ∷ []) → o ≡ None →
      Stand local shut end coming mine asks begun o c
  refuses : (x : Connect) → Asked x c → (reason : ℕ) → mine ≡ disconnect x.source 0 reason [] ∷ [] → asks ≡ [] → o ≡ None →
      (begun ≡ true → c.seen_by_right ≡ c.left) → Stand local shut end coming mine asks begun o c
  answers : Answering local shut end coming mine begun o c → asks ≡ [] → Stand local shut end coming mine asks begun o c
  runs : Running shut end coming mine begun o c → asks ≡ [] → Stand local shut end coming mine asks begun o c
  past : is_silent c.right.phase ≡ false → is_open c.right.phase ≡ false → mine ≡ [] → asks ≡ [] →
      ((r : ℕ) → o ≡ Some r → IsUnlinked end r) → IsPast o c → Stand local shut end coming mine asks begun o c

-- it stands so at another end too, if what that end has of it and what has come for it are as they were
module _ (local : Local) (shut : ℕ → Bool) (end after : State) (coming later mine asks waits : List Value) (begun : Bool) (o : Option ℕ)
    (c : Connection) where
  pub stands_at : ((x : Connect) → (end.ended ≡ None → asks ≡ request x ∷ []) → after.ended ≡ None → waits ≡ request x ∷ []) →
      (asks ≡ [] → waits ≡ []) →
      ((r peer : ℕ) (link : Option Standing) (come : List Value) → o ≡ Some r → Row end coming r peer link come →
      Row after later r peer link come) →
      ((r : ℕ) → o ≡ Some r → IsUnlinked end r → IsUnlinked after r) →
      Stand local shut end coming mine asks begun o c → Stand local shut after later mine waits begun o c
  stands_at ask still rows un (comes x a none asked e) = comes x a none (ask x asked) e
  stands_at ask still rows un (refuses x a reason is none e seen) = refuses x a reason is (still none) e seen
  stands_at ask still rows un (answers h none) = answers (record {
    x = h.x;
    size = h.size;
    r = h.r;
    index = h.index;
    asked = h.asked;
    selected = h.selected;
    link = h.link;
    more = h.more;
    come = h.come;
    mine_is = h.mine_is;
    acts = h.acts;
    along = h.along;
    seen = h.seen;
    row = rows h.r h.x.source h.link h.come h.index h.row;
    shut_is = h.shut_is;
  }) (still none)
  stands_at ask still rows un (runs g none) =
      runs (running_on g g.line g.tracks g.judge g.put g.begun_is g.there refl refl
      (rows g.r g.peer g.line.end g.line.coming g.index g.row) g.shut_is) (still none)
  stands_at ask still rows un (past silent up is none gone off) = past silent up is (still none) (λ r e. un r e (gone r e)) off

-- ---- all

-- a DC for a DR which closed nothing: its reference is gone, and no unit of that connection comes after it
pub record IsStray (shut : ℕ → Bool) (end : State) (refs : ℕ → Option ℕ) (home : ℕ → ℕ) (strays : Bool) (v : Value)
    (later : List Placed) : Type 0 where
  pub m : ℕ
  pub n : ℕ
  pub is : v ≡ disconnected m n
  pub strays_is : strays ≡ true
  pub given : n ≤ end.given
  pub positive : 1 ≤ n
  pub shut_is : shut n ≡ true
  pub none : refs (home n) ≡ Some n → units_at (home n) later ≡ []

abbrev pub StrayIf : (ℕ → Bool) → State → (ℕ → Option ℕ) → (ℕ → ℕ) → Bool → Option ℕ → Value → List Placed → Type 0
StrayIf shut end refs home strays None v later = IsStray shut end refs home strays v later
StrayIf shut end refs home strays (Some p) v later = Unit {0}

abbrev pub AreStrays : (ℕ → Bool) → State → (ℕ → Option ℕ) → (ℕ → ℕ) → Bool → List Placed → Type 0
AreStrays shut end refs home strays [] = Unit {0}
AreStrays shut end refs home strays (t ∷ ts) = StrayIf shut end refs home strays t.0 t.1 ts × AreStrays shut end refs home strays ts

-- the CCs that are to pass give references above this number, in rising order
abbrev pub AreAbove : ℕ → ℕ → List Value → Type 0
AreAbove given n [] = n ≤ given
AreAbove given n (confirm destination x ∷ vs) = (n < x.source) × AreAbove given x.source vs
AreAbove given n (_ ∷ vs) = AreAbove given n vs

abbrev pub IsNoCr : Value → Type 0
IsNoCr v = (x : Connect) → v ≡ request x → ⊥

abbrev pub Untagged : Placed → Type 0
Untagged t = t.0 ≡ None → IsNoCr t.1

-- a unit for a reference that was not given is a DC
abbrev pub IsFor : ℕ → Value → Type 0
IsFor given v = (m : ℕ) → destination_of v ≡ Some m → ((m ≤ given) × (1 ≤ m)) ⊎ IsDc v

pub record Called (local : Local) (w : Whole) : Type 0 where
  pub tagged : List Placed
  pub put : w.put ≡ values tagged
  pub came : List Placed
  pub come : w.coming ≡ values came
  pub refs : ℕ → Option ℕ
  pub home : ℕ → ℕ
  pub shut : ℕ → Bool
  pub stands : (p : ℕ) (c : Connection) → slice_get w.judge.connections p ≡ Some c →
      Stand local shut w.end w.coming (units_at p tagged) (units_at p came) (w.begun && first_at p tagged) (refs p) c
  pub beyond : (p : ℕ) → slice_get w.judge.connections p ≡ None →
      (units_at p tagged ≡ []) × (units_at p came ≡ []) × ((r : ℕ) → refs p ≡ Some r → IsUnlinked w.end r)
  pub homes : (p r : ℕ) → refs p ≡ Some r → (home r ≡ p) × (r ≤ w.end.given)
  pub positive : (p r : ℕ) → refs p ≡ Some r → 1 ≤ r
  pub linked_at : w.end.ended ≡ None → (r peer : ℕ) (link : Standing) → value_at r w.end.live ≡ Some (linked peer link) →
      refs (home r) ≡ Some r
  pub shut_given : (q : ℕ) → shut q ≡ true → q ≤ w.end.given
  pub strays : AreStrays shut w.end refs home w.judge.course.disconnects.strays tagged
  pub last : ℕ
  pub tops : (p : ℕ) (c : Connection) → slice_get w.judge.connections p ≡ Some c → c.right.reference ≤ last
  pub above : AreAbove w.end.given last (values tagged)
  pub class : (w.judge.course.class ≡ None) ⊎ (w.judge.course.class ≡ Some Two)
  pub two : (p : ℕ) (c : Connection) → slice_get w.judge.connections p ≡ Some c → is_open c.right.phase ≡ true →
      w.judge.course.class ≡ Some Two
  pub class_seen : (w.judge.course.class_seen ≡ None) ⊎ (w.judge.course.class_seen ≡ Some Two)
  -- a class was selected by a CC
  pub past_two : w.judge.course.class ≡ Some Two → 1 ≤ w.end.given
  pub seen_two : w.judge.course.class_seen ≡ Some Two → w.judge.course.class ≡ Some Two
  pub some : w.begun ≡ true → values tagged ≢ []
  pub few : AllByRecursion (IsFor w.end.given) w.coming
  pub untagged : AllByRecursion Untagged came
  -- as long as each DR has closed something
  pub timely : w.judge.course.disconnects.strays ≡ false → w.end.ended ≡ None →
      Timely Right w.end w.coming w.judge.connections (values tagged)

-- ---- a packet begins

off_left : (o : Option ℕ) (c : Connection) → IsPast o c → IsPast o (begins Left c)
off_left o c h = grind (arith, or_last)

module _ (local : Local) (shut : ℕ → Bool) (end : State) (coming mine asks : List Value) (o : Option ℕ) where
  -- it is of another connection, or of the other side
  run_begins : (b : Bool) (c e : Connection) (act : Act) → (h : Running shut end coming mine b o c) →
      ActsAlong Right h.r h.peer h.line (act ∷ []) (record h.line { judge = e }) → e.right ≡ c.right → e.left ≡ c.left →
      Running shut end coming mine b o e
  run_begins b c e act h along right left =
      let line = record h.line { judge = e } in
      running_on h line (tracks_on Right h.r h.peer h.line line (act ∷ []) h.tracks along) refl h.put h.begun_is
      (ap (λ (x : Half). is_open x.phase) right ∙ h.there) (ap (λ (x : Half). x.reference) right) (ap (λ
      (x : Half). x.reference) left) h.row
      h.shut_is

  asked_begins : (d : Direction) (x : Connect) (c : Connection) → Asked x c → Asked x (begins d c)
  asked_begins d x c a = grind arith

  other_begins_one : (b : Bool) (c : Connection) → Stand local shut end coming mine asks b o c → Stand local shut end coming mine asks b o
      (begins Left c)
  other_begins_one b c (comes x a none ask i) = comes x (asked_begins Left x c a) none ask i
  other_begins_one b c (refuses x a reason is none i seen) = refuses x (asked_begins Left x c a) reason is none i seen
  other_begins_one b c (answers h none) = answers (grind (arith, asked_begins)) none
  other_begins_one b c (runs h none) =
      runs (run_begins b c (begins Left c) begins_other h (record h.line { judge = begins Left c }, sym (grind arith), refl) refl
      refl) none
  other_begins_one b c (past silent up none asks un off) = past silent up none asks un (off_left o c off)

  -- a packet of this end begins: if one of this connection was passing, it is over
  elsewhere_begins_one : (c : Connection) → Stand local shut end coming mine asks false o c → Stand local shut end coming mine asks false
      o (begins Right c)
  elsewhere_begins_one c (comes x a none ask i) = comes x (asked_begins Right x c a) none ask i
  elsewhere_begins_one c (refuses x a reason is none i seen) = refuses x (asked_begins Right x c a) reason is none i (λ h. refl)
  elsewhere_begins_one c (answers h none) = answers (grind (arith, asked_begins)) none
  elsewhere_begins_one c (runs h none) =
      runs (run_begins false c (begins Right c) begins_elsewhere h
      (record h.line { judge = begins Right c }, (h.begun_is, sym (grind arith)), refl) refl refl) none
  elsewhere_begins_one c (past silent up none asks un off) = past silent up none asks un off

  own_begins_one : (c : Connection) → mine ≢ [] → Stand local shut end coming mine asks false o c → Stand local shut end coming mine asks
      true o (begins Right c)
  own_begins_one c some (comes x a none ask i) = comes x (asked_begins Right x c a) none ask i
  own_begins_one c some (refuses x a reason is none i seen) = refuses x (asked_begins Right x c a) reason is none i (λ h. refl)
  own_begins_one c some (answers h none) = answers (grind (arith, asked_begins)) none
  own_begins_one c some (runs h none) =
      let line = record h.line { begun = true; judge = begins Right c } in
      runs (running_on h line
      (tracks_on Right h.r h.peer h.line line (begins_own ∷ []) h.tracks (
        line,
        (
          λ e. some (sym h.put ∙ e),
          h.begun_is,
          ap (λ (e : Connection). record h.line { begun = true; judge = begins Right e })
              (sym h.judge),
        ),
        refl,
      )) refl h.put refl h.there refl refl h.row h.shut_is) none
  own_begins_one c some (past silent up none asks un off) = past silent up none asks un off

-- ---- all connections, as a packet begins

map_none : (d : Direction) (o : Option Connection) → option_map (begins d) o ≡ None → o ≡ None
map_none d o e = grind arith

course_strays : (d : Direction) (s : Traffic) → (packet_begins d s).course.disconnects.strays ≡ s.course.disconnects.strays
course_strays d s = grind arith

pub first_some : (p : ℕ) (ts : List Placed) → first_at p ts ≡ true → units_at p ts ≢ []
first_some p ts h = grind arith

module _ (local : Local) (w : Whole) (f : Called local w) where
  abbrev StandsBy : Bool → ℕ → Connection → Type 0
  StandsBy b p c = Stand local f.shut w.end w.coming (units_at p f.tagged) (units_at p f.came) (b && first_at p f.tagged) (f.refs p) c

  begins_all : (d : Direction) (b : Bool) → (b ≡ true → values f.tagged ≢ []) →
      (((packet_begins d w.judge).course.class_seen ≡ None) ⊎ ((packet_begins d w.judge).course.class_seen ≡ Some Two)) →
      ((packet_begins d w.judge).course.class_seen ≡ Some Two → (packet_begins d w.judge).course.class ≡ Some Two) →
      ((p : ℕ) (c : Connection) → StandsBy w.begun p c → StandsBy b p (begins d c)) →
      Called local (record w { begun = b; judge = packet_begins d w.judge })
  begins_all d b some seen seen_is k = record {
    tagged = f.tagged;
    put = f.put;
    came = f.came;
    come = f.come;
    refs = f.refs;
    home = f.home;
    shut = f.shut;
    stands = λ p c at.
        let (x, was, is) = after_map (begins d) w.judge.connections p c at in
        subst (λ (e : Connection). StandsBy b p e) (sym is) (k p x (f.stands p x was));
    beyond = λ p none. f.beyond p (map_none d (slice_get w.judge.connections p)
        (sym (slice_get-map (begins d) w.judge.connections p) ∙ none));
    homes = f.homes;
    positive = f.positive;
    linked_at = f.linked_at;
    shut_given = f.shut_given;
    strays = subst (λ (s : Bool). AreStrays f.shut w.end f.refs f.home s f.tagged) (sym (course_strays d w.judge)) f.strays;
    last = f.last;
    tops = λ p c at.
        let (x, was, is) = after_map (begins d) w.judge.connections p c at in
        subst (λ (h : Half). h.reference ≤ f.last) (sym (ap (λ (e : Connection). e.right) is ∙ begun_right d x)) (f.tops p x was);
    above = f.above;
    class = subst (λ (k : Option Class). (k ≡ None) ⊎ (k ≡ Some Two)) (sym (course_class d w.judge)) f.class;
    two = λ p c at up.
        let (x, was, is) = after_map (begins d) w.judge.connections p c at in
        course_class d w.judge ∙ f.two p x was (ap (λ (h : Half). is_open h.phase) (sym (ap (λ (e : Connection). e.right) is ∙ begun_right d
        x)) ∙ up);
    class_seen = seen;
    past_two = λ h. f.past_two (sym (course_class d w.judge) ∙ h);
    seen_two = seen_is;
    some = some;
    few = f.few;
    untagged = f.untagged;
    timely = λ none lasts. timely_begins Right d w.end w.coming w.judge.connections (values f.tagged)
        (f.timely (sym (course_strays d w.judge) ∙ none) lasts);
  }

  pub other_begins : Called local (record w { judge = packet_begins Left w.judge })
  other_begins = search (arith, begins_all, other_begins_one)

  own_by : (p : ℕ) (b : Bool) → first_at p f.tagged ≡ b → (c : Connection) →
      Stand local f.shut w.end w.coming (units_at p f.tagged) (units_at p f.came) false (f.refs p) c →
      Stand local f.shut w.end w.coming (units_at p f.tagged) (units_at p f.came) b (f.refs p) (begins Right c)
  own_by p true e c h =
      own_begins_one local f.shut w.end w.coming (units_at p f.tagged) (units_at p f.came) (f.refs p) c (first_some p f.tagged e) h
  own_by p false e c h = elsewhere_begins_one local f.shut w.end w.coming (units_at p f.tagged) (units_at p f.came) (f.refs p) c h

  pub own_begins : w.begun ≡ false → w.put ≢ [] → Called local (record w { begun = true; judge = packet_begins Right w.judge })
  own_begins e some = begins_all Right true (λ h k. some (f.put ∙ k)) f.class_seen f.seen_two (λ p c h.
      own_by p (first_at p f.tagged) refl c
      (subst (λ (b : Bool). Stand local f.shut w.end w.coming (units_at p f.tagged) (units_at p f.came) (b && first_at p f.tagged)
      (f.refs p) c) e h))
