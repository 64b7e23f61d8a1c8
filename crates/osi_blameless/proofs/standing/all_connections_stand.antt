-- All connections of an end of class 2 stand at a judge as packets begin and as units pass that are right.
-- For the session of each connection of an end.
use Rattle.osi_blameless.proofs.Vocabulary.{[], ap, arith, Bool, false, inl, inr, length, List, map, None, Option, refl, Some, subst, suc}
use Rattle.osi_blameless.proofs.Vocabulary.{sym, true, zero, ℕ, ◌++◌, ◌<◌, ◌^◌, ◌∙◌, ◌∷◌, ◌≡◌, ◌≤◌, ◌⊎◌, eq-eqb, slice_get_within}
use Rattle.osi_blameless.proofs.Vocabulary.{slice_get, confirm, Connect, data0, data2, request, Value, unit_parts, Part, End, is_applied}
use Rattle.osi_blameless.proofs.Vocabulary.{begins, is_open, own, asked_by, connection_after, found_on, half_after, judged_on, meaning_if}
use Rattle.osi_blameless.proofs.Vocabulary.{meant, Traffic as State, takes, Connection, Reach, Half, other, Direction, Deeds, adds}
use Rattle.osi_blameless.proofs.Vocabulary.{all_begin, asked, Joined, reference_of, Sessions, shut, spoken, taken, way_of, heard, Room, All}
use Rattle.osi_blameless.proofs.Vocabulary.{passes_apart, AreJudged, still_judged, after_add, after_map, NamesApart as AreApart}
use Rattle.osi_blameless.proofs.Vocabulary.{after_change, packet, unit, calls_from, IsShownNow, HaveSamePlaces, IsOneOf, begins_judged}
use Rattle.osi_blameless.proofs.Vocabulary.{some_same}
use Rattle.osi_rules.specs.declared.findings.Reach.TheVariants as reach
use Rattle.osi_rules.specs.Traffic as traffic
use Rattle.osi_blameless.specs.ends.Courses.{Course}
use Rattle.osi_judge.specs.Connections.{packet_begins}
use Rattle.osi_judge.specs.Connections as joined
use Rattle.osi_blameless.proofs.keeping.a_break_ends_no_judging_or_all.{takes_reach}
use Rattle.osi_blameless.proofs.shown.connections_have_the_same_places.{as_long, at_same, begun_same, unit_places}
use Rattle.osi_blameless.proofs.shown.what_a_judge_shows_goes_on.{named_added}
use Rattle.osi_blameless.proofs.standing.what_a_unit_does_at_its_place.{Does, asks_again, asks_more, nowhere, somewhere, unit_does}
use Rattle.osi_blameless.proofs.standing.what_holds_of_a_lost_connection.{IsLost, lost_applied, lost_begins, lost_still, now_lost}
use Rattle.osi_blameless.proofs.standing.what_holds_of_a_lost_connection.{part_applied, was_judged}
use Rattle.osi_blameless.proofs.standing.what_stands_of_a_connection.{IsLike, IsUnsaid, Known, Stands, is_next, lives, names_it, no_next}
use Rattle.osi_blameless.proofs.standing.what_stands_of_a_connection.{past, stands_begins, stands_none, stands_other_begins}
use Rattle.osi_blameless.proofs.standing.what_stands_of_a_connection.{stands_other_none, stands_other_part, stands_part, unnamed}
use Rattle.osi_blameless.proofs.standing.what_stands_of_a_connection.{waiting_for}
use Rattle.osi_blameless.proofs.standing.a_dt_of_class_0_has_one_place.{named_open}

-- ---- what a unit leaves of the half of a side

judged_own : (d : Direction) (r : Reach) (c : Connection) → own (way_of d) (judged_on r c) ≡ own (way_of d) c
judged_own d r c = grind arith

-- of this side, a unit of the other one leaves all
pub other_after : (d : Direction) (v : Value) (b : Bool) (r : Reach) (c : Connection) →
    own (way_of d) (connection_after (way_of (other d)) v b r c) ≡ own (way_of d) c
other_after d v b r c = grind (arith, judged_own)

-- of its own side, this is left
pub own_after : (d : Direction) (v : Value) (r : Reach) (c : Connection) →
    own (way_of d) (connection_after (way_of d) v true r c) ≡ half_after v (own (way_of d) c)
own_after d v r c = grind (arith, judged_own)

-- ---- a unit at its place that adds to no TSDU

pub like_same : (d : Direction) (j : Joined) → IsLike d j j
like_same d j = record { own_is = refl; theirs = refl; named = refl; room = refl }

-- no DT, and no CC that has its effect
abbrev pub IsPlain : Bool → Value → Type 0
IsPlain b (data0 end user) = ⊥
IsPlain b (data2 n number end user) = ⊥
IsPlain b (confirm n x) = b ≡ false
IsPlain b _ = Unit {0}

plain_parts : (b : Bool) (v : Value) → IsPlain b v → unit_parts v ≡ []
plain_parts b v h = grind arith

-- what is joined stays
record Left_so (d : Direction) (j k : Joined) : Type 0 where
  like : IsLike d j k
  named : reference_of (other d) k ≡ reference_of (other d) j

same_left : (d : Direction) (j : Joined) → Left_so d j j
same_left d j = record { like = like_same d j; named = refl }

shut_left : (d : Direction) (j : Joined) → Left_so d j (shut j)
shut_left d j = record { like = grind arith; named = (grind arith) }

plain_left : (d e : Direction) (at : ℕ) (b : Bool) (v : Value) (j : Joined) → IsPlain b v →
    Left_so d j (joined.meant e at v (meaning_if b (meant v)) j)
plain_left d e at b v j h = grind (arith, same_left, shut_left)

-- a side that has a connection open after it had it open before
plain_open : (v : Value) (half : Half) → IsPlain true v → is_open (half_after v half).phase ≡ true → is_open half.phase ≡ true
plain_open v half h live = grind arith

was_open : (d : Direction) (b : Bool) (v : Value) (r : Reach) (c : Connection) → IsPlain b v →
    is_open (own (way_of d) (connection_after (way_of d) v b r c)).phase ≡ true → is_open (own (way_of d) c).phase ≡ true
was_open d b v r c h live = grind (arith, judged_own, plain_open, own_after)

-- of the end
pub own_plain : (d : Direction) (deeds : ℕ → Deeds) (known : Known) (at : ℕ) (v : Value) (rest : List Value) (b x : Bool) (r : Reach)
    (c : Connection) (j : Joined) → IsPlain b v → Stands d deeds known (v ∷ rest) x c j →
    Stands d deeds known rest false (connection_after (way_of d) v b r c) (joined.meant d at v (meaning_if b (meant v)) j)
own_plain d deeds known at v rest b x r c j plain h =
    search (arith, stands_none, plain_left d d at b v j plain, plain_parts b v plain, was_open d b v r c plain)

-- of the other side
pub other_plain : (d : Direction) (deeds : ℕ → Deeds) (known then_known : Known) (at : ℕ) (v : Value) (put : List Value) (b x : Bool)
    (r : Reach) (c : Connection) (j : Joined) → IsPlain b v →
    ((n : ℕ) (later : List Part) → reference_of d j ≡ Some n → known n later → then_known n later) → Stands d deeds known put x c j →
    Stands d deeds then_known put x (connection_after (way_of (other d)) v b r c) (joined.meant (other d) at v (meaning_if b (meant v)) j)
other_plain d deeds known then_known at v put b x r c j plain keeps h =
    search (arith, stands_other_none, plain_left d (other d) at b v j plain, other_after d v b r c)

-- ---- a DT of class 2 at its place

stands_room : (d : Direction) (deeds : ℕ → Deeds) (known : Known) (put : List Value) (b : Bool) (c : Connection) (j : Joined) →
    Stands d deeds known put b c j → j.room ≡ All
stands_room d deeds known put b c j h = grind arith

pub own_part : (d : Direction) (deeds : ℕ → Deeds) (known : Known) (at n number : ℕ) (end : Bool) (user : List ℕ) (rest : List Value)
    (r : Reach) (c : Connection) (j : Joined) → IsOneOf c j → is_open (own (way_of d) c).phase ≡ true →
    reference_of (other d) j ≡ Some n → Stands d deeds known (data2 n number end user ∷ rest) true c j →
    Stands d deeds known rest false (connection_after (way_of d) (data2 n number end user) true r c) (adds d at end user j)
own_part d deeds known at n number end user rest r c j one live named h =
    let v = data2 n number end user in
    stands_part d deeds known v rest at end c (connection_after (way_of d) v true r c) j refl refl
    (ap (λ (o : Option ℕ). names_it o n) named ∙ eq-eqb n n refl) (grind (arith, named_open)) live
    (ap (λ (x : Half). is_open x.phase) (own_after d v r c) ∙ live)
    (named_added at end user (other d) d j (stands_room d deeds known (v ∷ rest) true c j h)) h

pub other_part : (d : Direction) (deeds : ℕ → Deeds) (known then_known : Known) (at n number : ℕ) (end : Bool) (user : List ℕ)
    (put : List Value) (x : Bool) (r : Reach) (c : Connection) (j : Joined) → reference_of d j ≡ Some n →
    ((later : List Part) → known n later → then_known n (later ++ (end, user) ∷ [])) → Stands d deeds known put x c j →
    Stands d deeds then_known put x (connection_after (way_of (other d)) (data2 n number end user) true r c) (adds (other d) at end user j)
other_part d deeds known then_known at n number end user put x r c j named grows h =
    let v = data2 n number end user in
    stands_other_part d deeds known then_known put x at end user c (connection_after (way_of (other d)) v true r c) j
    (grind arith) (ap (λ (y : Half). y.phase) (other_after d v true r c))
    (named_added at end user (other d) (other d) j (stands_room d deeds known put x c j h))
    (grind arith) h
  where
    same_number : (n m : ℕ) → Some n ≡ Some m → n ≡ m
    same_number n m e = cc

-- ---- all connections

pub map_of : (f : Joined → Joined) (xs : List Joined) (i : ℕ) (y : Joined) → slice_get (map f xs) i ≡ Some y →
    (x : Joined) × (slice_get xs i ≡ Some x) × (y ≡ f x)
map_of f [] i y h = absurd (cc)
map_of f (z ∷ xs) zero y h = (z, refl, some_same (f z) y h)
map_of f (z ∷ xs) (suc i) y h = map_of f xs i y h

-- one whose place was given to another: nothing more passes there
pub data Rests (d : Direction) (deeds : ℕ → Deeds) (known : Known) (j : Joined) : Type 0 where
  quiet : reference_of d j ≡ None → IsUnsaid (spoken d j) → IsUnsaid (spoken (other d) j) → Rests d deeds known j
  rests : (r : ℕ) (waiting : List Value) (later : List Part) → known r later → IsShownNow d r (deeds r) waiting later false j →
      Rests d deeds known j

-- each that is judged stands, and of the others nobody is to blame
pub record AllStand (d : Direction) (deeds : ℕ → Deeds) (known : Known) (put : List Value) (begun : Bool) (s : State) (t : Sessions) :
    Type 0 where
  pub places : HaveSamePlaces s.connections t.live
  pub apart : AreApart s.connections
  pub judged : AreJudged s
  pub room : t.room ≡ All
  pub live : (i : ℕ) (c : Connection) (j : Joined) → slice_get s.connections i ≡ Some c → slice_get t.live i ≡ Some j →
      c.is_judged ≡ true → Stands d deeds known put begun c j
  pub lost : (i : ℕ) (c : Connection) (j : Joined) → slice_get s.connections i ≡ Some c → slice_get t.live i ≡ Some j →
      c.is_judged ≡ false → IsLost d c j
  pub done : (i : ℕ) (j : Joined) → slice_get t.done i ≡ Some j → Rests d deeds known j

-- each that is joined has its connection
pub there_too : (cs : List Connection) (js : List Joined) (i : ℕ) (j : Joined) → HaveSamePlaces cs js → slice_get js i ≡ Some j →
    (c : Connection) × (slice_get cs i ≡ Some c)
there_too [] [] i j h e = absurd (cc)
there_too [] (y ∷ js) i j h e = absurd h
there_too (x ∷ cs) [] i j h e = absurd h
there_too (x ∷ cs) (y ∷ js) zero j h e = (x, refl)
there_too (x ∷ cs) (y ∷ js) (suc i) j h e = there_too cs js i j h.1 e

-- each has room
pub all_room : (d : Direction) (deeds : ℕ → Deeds) (known : Known) (put : List Value) (b : Bool) (s : State) (t : Sessions) →
    AllStand d deeds known put b s t → (i : ℕ) (j : Joined) → slice_get t.live i ≡ Some j → j.room ≡ All
all_room d deeds known put b s t a i j here =
    let (c, there) = there_too s.connections t.live i j a.places here in by c there c.is_judged refl
  where
    by : (c : Connection) → slice_get s.connections i ≡ Some c → (x : Bool) → c.is_judged ≡ x → j.room ≡ All
    by c there true judged = stands_room d deeds known put b c j (a.live i c j there here judged)
    by c there false lost = (a.lost i c j there here lost).room

-- ---- a packet begins

pub begun_judged : (e : Direction) (x c : Connection) (b : Bool) → c ≡ begins (way_of e) x → c.is_judged ≡ b → x.is_judged ≡ b
begun_judged e x c b is h = sym (begins_judged (way_of e) x) ∙ ap (λ (z : Connection). z.is_judged) (sym is) ∙ h

all_begin_lost : (d e : Direction) (deeds : ℕ → Deeds) (known : Known) (put : List Value) (b : Bool) (s : State) (t : Sessions) →
    AllStand d deeds known put b s t → (i : ℕ) (c : Connection) (j : Joined) →
    slice_get (map (begins (way_of e)) s.connections) i ≡ Some c → slice_get (map (packet_begins e) t.live) i ≡ Some j →
    c.is_judged ≡ false → IsLost d c j
all_begin_lost d e deeds known put b s t a i c j there here lost =
    let (x, at, is) = after_map (begins (way_of e)) s.connections i c there in
    let (y, so, same) = map_of (packet_begins e) t.live i j here in
    subst (λ (z : Connection). IsLost d z j) (sym is)
    (subst (λ (z : Joined). IsLost d (begins (way_of e) x) z) (sym same)
    (lost_begins d e x y (a.lost i x y at so (begun_judged e x c false is lost))))

pub all_begin_own : (d : Direction) (deeds : ℕ → Deeds) (known : Known) (put : List Value) (e : End) (s : State) (t : Sessions) →
    ((r : ℕ) → Course (calls_from d) r (deeds r) e) →
    ((i : ℕ) (j : Joined) → slice_get t.live i ≡ Some j → length (heard (spoken (other d) j)) < 2 ^ 64) →
    AllStand d deeds known put false s t → AllStand d deeds known put true (traffic.packet_begins (way_of d) s) (all_begin d t)
all_begin_own d deeds known put e s t courses few a = record {
  places = begun_same d s.connections t.live a.places;
  apart = passes_apart (packet (way_of d)) s a.apart;
  judged = still_judged (packet (way_of d)) s a.judged;
  room = a.room;
  live = λ i c j there here judged.
      let (x, at, is) = after_map (begins (way_of d)) s.connections i c there in
      let (y, so, same) = map_of (packet_begins d) t.live i j here in
      subst (λ (z : Connection). Stands d deeds known put true z j) (sym is)
      (subst (λ (z : Joined). Stands d deeds known put true (begins (way_of d) x) z) (sym same)
      (stands_begins d deeds known put e x y courses (few i y so)
      (a.live i x y at so (begun_judged d x c true is judged))));
  lost = λ i c j there here lost. all_begin_lost d d deeds known put false s t a i c j there here lost;
  done = a.done;
}

pub all_begin_other : (d : Direction) (deeds : ℕ → Deeds) (known : Known) (put : List Value) (b : Bool) (s : State) (t : Sessions) →
    AllStand d deeds known put b s t →
    AllStand d deeds known put b (traffic.packet_begins (way_of (other d)) s) (all_begin (other d) t)
all_begin_other d deeds known put b s t a = record {
  places = begun_same (other d) s.connections t.live a.places;
  apart = passes_apart (packet (way_of (other d))) s a.apart;
  judged = still_judged (packet (way_of (other d))) s a.judged;
  room = a.room;
  live = λ i c j there here judged.
      let (x, at, is) = after_map (begins (way_of (other d))) s.connections i c there in
      let (y, so, same) = map_of (packet_begins (other d)) t.live i j here in
      subst (λ (z : Connection). Stands d deeds known put b z j) (sym is)
      (subst (λ (z : Joined). Stands d deeds known put b (begins (way_of (other d)) x) z) (sym same)
      (stands_other_begins d deeds known put b x y (a.live i x y at so (begun_judged (other d) x c true is judged))));
  lost = λ i c j there here lost. all_begin_lost d (other d) deeds known put b s t a i c j there here lost;
  done = a.done;
}

-- ---- a unit passes

-- what it leaves of the connection at its place, of the others, and of a new one, if they are judged
pub record Leaves (d : Direction) (deeds : ℕ → Deeds) (known then_known : Known) (put later : List Value) (b then_begun : Bool)
    (e : Direction) (at : ℕ) (v : Value) (s : State) (t : Sessions) : Type 0 where
  pub all : (takes (way_of e) v s).told.place ≡ None → (c : Connection) (j : Joined) → Stands d deeds known put b c j →
      Stands d deeds then_known later then_begun c j
  pub elsewhere : (p i : ℕ) (first c : Connection) (k j : Joined) → (i ≡ p → ⊥) → (takes (way_of e) v s).told.place ≡ Some p →
      slice_get s.connections p ≡ Some first → IsOneOf first k → slice_get t.live p ≡ Some k →
      (takes (way_of e) v s).told.finding ≡ found_on (way_of e) s first v → slice_get s.connections i ≡ Some c →
      slice_get t.live i ≡ Some j → IsOneOf c j → c.is_judged ≡ true → Stands d deeds known put b c j →
      Stands d deeds then_known later then_begun c j
  pub here : (p : ℕ) (c : Connection) (j : Joined) (x : Bool) (r : Reach) → (takes (way_of e) v s).told.place ≡ Some p →
      slice_get s.connections p ≡ Some c → slice_get t.live p ≡ Some j → IsOneOf c j →
      (takes (way_of e) v s).told.finding ≡ found_on (way_of e) s c v → is_applied (found_on (way_of e) s c v) ≡ x →
      (takes (way_of e) v s).told.reach ≡ r → (r ≡ reach.Connection → ⊥) → c.is_judged ≡ true → Stands d deeds known put b c j →
      Stands d deeds then_known later then_begun (connection_after (way_of e) v x r c)
      (joined.meant e at v (meaning_if x (meant v)) j)
  pub asked_so : (x : Connect) (number : ℕ) → v ≡ request x →
      Stands d deeds then_known later then_begun (asked_by x) (asked number x.source All)
  pub others : (x : Connect) → v ≡ request x → (c : Connection) (j : Joined) → Stands d deeds known put b c j →
      Stands d deeds then_known later then_begun c j
  pub moves : (x : Connect) → v ≡ request x → (j : Joined) → Rests d deeds known j → Rests d deeds then_known j
  pub keeps : (i : ℕ) (j : Joined) → slice_get t.done i ≡ Some j → Rests d deeds known j → Rests d deeds then_known j

-- if a connection loses its judgement with it, nobody of this side is to blame there
abbrev pub Loses : Direction → Direction → Value → State → Sessions → Type 0
Loses d e v s t = (p : ℕ) (c : Connection) (j : Joined) → (takes (way_of e) v s).told.place ≡ Some p → slice_get s.connections p ≡ Some c →
    slice_get t.live p ≡ Some j → IsOneOf c j → c.is_judged ≡ true → (takes (way_of e) v s).told.reach ≡ reach.Connection → IsLost d c j

stands_rest : (d : Direction) (deeds : ℕ → Deeds) (known : Known) (put : List Value) (b : Bool) (c : Connection) (j : Joined) →
    Stands d deeds known put b c j → Rests d deeds known j
stands_rest d deeds known put b c j (unnamed none mine theirs room) = quiet none mine theirs
stands_rest d deeds known put b c j (lives r o is live later sure h) =
    rests r (waiting_for o put) later sure (no_next d r (deeds r) (waiting_for o put) later (is_next o b put) j h)
stands_rest d deeds known put b c j (past r closed waiting later sure h) = rests r waiting later sure h

pub one_at : (cs : List Connection) (js : List Joined) (i : ℕ) (c : Connection) (j : Joined) → HaveSamePlaces cs js →
    slice_get cs i ≡ Some c → slice_get js i ≡ Some j → IsOneOf c j
one_at cs js i c j h there here = grind (arith, at_same, some_same)

not_there : {A : Type 0} (js : List Joined) (i : ℕ) (j : Joined) → length js ≤ i → slice_get js i ≡ Some j → A
not_there js i j far e = let near = slice_get_within js i j e in absurd (omega (arith, far, near))

not_in : {A : Type 0} (cs : List Connection) (i : ℕ) (c : Connection) → length cs ≤ i → slice_get cs i ≡ Some c → A
not_in cs i c far e = let near = slice_get_within cs i c e in absurd (omega (arith, far, near))

module _ (d : Direction) (deeds : ℕ → Deeds) (known then_known : Known) (put later : List Value) (b then_begun : Bool) (e : Direction)
    (at : ℕ) (v : Value) (s : State) (t : Sessions) (a : AllStand d deeds known put b s t)
    (l : Leaves d deeds known then_known put later b then_begun e at v s t) (loses : Loses d e v s t) where
  abbrev told_state : State
  told_state = (takes (way_of e) v s).state

  abbrev after : Sessions
  after = taken e at v (takes (way_of e) v s).told.meaning (takes (way_of e) v s).told.place t

  abbrev Goes : Connection → Joined → Type 0
  Goes c j = Stands d deeds then_known later then_begun c j

  -- the connection that the unit is for, or another
  abbrev AfterAt : (p : ℕ) → Connection → (x : Bool) → Reach → ℕ → Connection → Type 0
  AfterAt p first x r i c =
      ((i ≡ p) × (c ≡ connection_after (way_of e) v x r first)) ⊎ ((i ≡ p → ⊥) × (slice_get s.connections i ≡ Some c))

  abbrev JoinedAt : (p : ℕ) → Joined → (x : Bool) → ℕ → Joined → Type 0
  JoinedAt p k x i j = ((i ≡ p) × (j ≡ joined.meant e at v (meaning_if x (meant v)) k)) ⊎ ((i ≡ p → ⊥) × (slice_get t.live i ≡ Some j))

  module _ (p : ℕ) (first : Connection) (k : Joined) (x : Bool) (r : Reach) (told : (takes (way_of e) v s).told.place ≡ Some p)
      (there : slice_get s.connections p ≡ Some first) (here : slice_get t.live p ≡ Some k) (one : IsOneOf first k)
      (finding : (takes (way_of e) v s).told.finding ≡ found_on (way_of e) s first v)
      (is : is_applied (found_on (way_of e) s first v) ≡ x) (far : (takes (way_of e) v s).told.reach ≡ r) where
    place_by : (i : ℕ) (c : Connection) (j : Joined) → AfterAt p first x r i c → JoinedAt p k x i j → c.is_judged ≡ true → Goes c j
    place_by i c j (inl (m, so)) (inl (n, same)) judged =
        let now = ap (λ (z : Connection). z.is_judged) (sym so) ∙ judged in
        let was = was_judged (way_of e) v x r first now in
        subst (λ (z : Connection). Goes z j) (sym so)
        (subst (λ (z : Joined). Goes (connection_after (way_of e) v x r first) z) (sym same)
        (l.here p first k x r told there here one finding is far (grind arith) was
        (a.live p first k there here was)))
    place_by i c j (inl (m, so)) (inr (n, same)) judged = absurd (n m)
    place_by i c j (inr (m, so)) (inl (n, same)) judged = absurd (m n)
    place_by i c j (inr (m, so)) (inr (n, same)) judged =
        l.elsewhere p i first c k j m told there one here finding so same (one_at s.connections t.live i c j a.places so same) judged
        (a.live i c j so same judged)

    -- it was lost, or is now
    lost_from : (y : Bool) → first.is_judged ≡ y → (connection_after (way_of e) v x r first).is_judged ≡ false → IsLost d first k
    lost_from false was now = a.lost p first k there here was
    lost_from true was now = loses p first k told there here one was (far ∙ now_lost (way_of e) v x r first now was)

    none_applied : (y : Bool) → first.is_judged ≡ y → (connection_after (way_of e) v x r first).is_judged ≡ false → x ≡ false
    none_applied y was now = grind (arith, lost_applied, now_lost, part_applied, takes_reach)

    lost_there : (y : Bool) → x ≡ y → y ≡ false → IsLost d first k →
        IsLost d (connection_after (way_of e) v x r first) (joined.meant e at v (meaning_if x (meant v)) k)
    lost_there true so none h = absurd (cc)
    lost_there false so none h = grind (arith, lost_still d r first k h)

    lost_by : (i : ℕ) (c : Connection) (j : Joined) → AfterAt p first x r i c → JoinedAt p k x i j → c.is_judged ≡ false → IsLost d c j
    lost_by i c j (inl (m, so)) (inl (n, same)) lost =
        let now = ap (λ (z : Connection). z.is_judged) (sym so) ∙ lost in
        subst (λ (z : Connection). IsLost d z j) (sym so)
        (subst (λ (z : Joined). IsLost d (connection_after (way_of e) v x r first) z) (sym same)
        (lost_there x refl (none_applied first.is_judged refl now) (lost_from first.is_judged refl now)))
    lost_by i c j (inl (m, so)) (inr (n, same)) lost = absurd (n m)
    lost_by i c j (inr (m, so)) (inl (n, same)) lost = absurd (m n)
    lost_by i c j (inr (m, so)) (inr (n, same)) lost = a.lost i c j so same lost

  asked_here : (x : Connect) (number : ℕ) → v ≡ request x → (c : Connection) (j : Joined) → c ≡ asked_by x →
      j ≡ asked number x.source t.room → Goes c j
  asked_here x number is c j so same =
      subst (λ (z : Connection). Goes z j) (sym so)
      (subst (λ (z : Joined). Goes (asked_by x) z) (sym (same ∙ ap (λ (z : Room). asked number x.source z) a.room))
      (l.asked_so x number is))

  add_by : (x : Connect) (number : ℕ) → v ≡ request x → (i : ℕ) (c : Connection) (j : Joined) →
      ((i ≡ length s.connections) × (c ≡ asked_by x)) ⊎ (slice_get s.connections i ≡ Some c) →
      ((i ≡ length t.live) × (j ≡ asked number x.source t.room)) ⊎ (slice_get t.live i ≡ Some j) → c.is_judged ≡ true → Goes c j
  add_by x number is i c j (inl (m, so)) (inl (n, same)) judged = asked_here x number is c j so same
  add_by x number is i c j (inl (m, so)) (inr same) judged =
      not_there t.live i j (let n = as_long s.connections t.live a.places in omega (arith, n, m)) same
  add_by x number is i c j (inr so) (inl (n, same)) judged =
      not_in s.connections i c (let m = as_long s.connections t.live a.places in omega (arith, n, m)) so
  add_by x number is i c j (inr so) (inr same) judged = l.others x is c j (a.live i c j so same judged)

  add_lost : (x : Connect) (number : ℕ) (i : ℕ) (c : Connection) (j : Joined) →
      ((i ≡ length s.connections) × (c ≡ asked_by x)) ⊎ (slice_get s.connections i ≡ Some c) →
      ((i ≡ length t.live) × (j ≡ asked number x.source t.room)) ⊎ (slice_get t.live i ≡ Some j) → c.is_judged ≡ false → IsLost d c j
  add_lost x number i c j (inl (m, so)) here lost = grind arith
  add_lost x number i c j (inr so) (inl (n, same)) lost =
      not_in s.connections i c (let m = as_long s.connections t.live a.places in omega (arith, n, m)) so
  add_lost x number i c j (inr so) (inr same) lost = a.lost i c j so same lost

  again_by : (x : Connect) (number p : ℕ) → v ≡ request x → (i : ℕ) (c : Connection) (j : Joined) →
      ((i ≡ p) × (c ≡ asked_by x)) ⊎ ((i ≡ p → ⊥) × (slice_get s.connections i ≡ Some c)) →
      ((i ≡ p) × (j ≡ asked number x.source t.room)) ⊎ ((i ≡ p → ⊥) × (slice_get t.live i ≡ Some j)) → c.is_judged ≡ true → Goes c j
  again_by x number p is i c j (inl (m, so)) (inl (n, same)) judged = asked_here x number is c j so same
  again_by x number p is i c j (inl (m, so)) (inr (n, same)) judged = absurd (n m)
  again_by x number p is i c j (inr (m, so)) (inl (n, same)) judged = absurd (m n)
  again_by x number p is i c j (inr (m, so)) (inr (n, same)) judged = l.others x is c j (a.live i c j so same judged)

  again_lost : (x : Connect) (number p : ℕ) (i : ℕ) (c : Connection) (j : Joined) →
      ((i ≡ p) × (c ≡ asked_by x)) ⊎ ((i ≡ p → ⊥) × (slice_get s.connections i ≡ Some c)) →
      ((i ≡ p) × (j ≡ asked number x.source t.room)) ⊎ ((i ≡ p → ⊥) × (slice_get t.live i ≡ Some j)) → c.is_judged ≡ false → IsLost d c j
  again_lost x number p i c j (inl (m, so)) here lost = grind arith
  again_lost x number p i c j (inr (m, so)) (inl (n, same)) lost = absurd (m n)
  again_lost x number p i c j (inr (m, so)) (inr (n, same)) lost = a.lost i c j so same lost

  live_by : Does e at v s t (takes (way_of e) v s) → (i : ℕ) (c : Connection) (j : Joined) →
      slice_get told_state.connections i ≡ Some c → slice_get after.live i ≡ Some j → c.is_judged ≡ true → Goes c j
  live_by (nowhere place cs ts) i c j there here judged =
      l.all place c j (a.live i c j (ap (λ (z : List Connection). slice_get z i) (sym cs) ∙ there)
      (ap (λ (z : Sessions). slice_get z.live i) (sym ts) ∙ here) judged)
  live_by (somewhere p first k x r place at_first at_joined one finding is far cs ts) i c j there here judged =
      place_by p first k x r place at_first at_joined one finding is far i c j
      (after_change s.connections p i (connection_after (way_of e) v x r first) c
      (ap (λ (z : List Connection). slice_get z i) (sym cs) ∙ there))
      (after_change t.live p i (joined.meant e at v (meaning_if x (meant v)) k) j
      (ap (λ (z : Sessions). slice_get z.live i) (sym ts) ∙ here)) judged
  live_by (asks_more x is number cs ts) i c j there here judged =
      add_by x number is i c j
      (after_add s.connections i (asked_by x) c (ap (λ (z : List Connection). slice_get z i) (sym cs) ∙ there))
      (after_add t.live i (asked number x.source t.room) j (ap (λ (z : Sessions). slice_get z.live i) (sym ts) ∙ here)) judged
  live_by (asks_again x is number p k at_joined free cs ts) i c j there here judged =
      again_by x number p is i c j
      (after_change s.connections p i (asked_by x) c (ap (λ (z : List Connection). slice_get z i) (sym cs) ∙ there))
      (after_change t.live p i (asked number x.source t.room) j (ap (λ (z : Sessions). slice_get z.live i) (sym ts) ∙ here)) judged

  all_lost : Does e at v s t (takes (way_of e) v s) → (i : ℕ) (c : Connection) (j : Joined) →
      slice_get told_state.connections i ≡ Some c → slice_get after.live i ≡ Some j → c.is_judged ≡ false → IsLost d c j
  all_lost (nowhere place cs ts) i c j there here lost =
      a.lost i c j (ap (λ (z : List Connection). slice_get z i) (sym cs) ∙ there)
      (ap (λ (z : Sessions). slice_get z.live i) (sym ts) ∙ here) lost
  all_lost (somewhere p first k x r place at_first at_joined one finding is far cs ts) i c j there here lost =
      lost_by p first k x r place at_first at_joined one finding is far i c j
      (after_change s.connections p i (connection_after (way_of e) v x r first) c
      (ap (λ (z : List Connection). slice_get z i) (sym cs) ∙ there))
      (after_change t.live p i (joined.meant e at v (meaning_if x (meant v)) k) j
      (ap (λ (z : Sessions). slice_get z.live i) (sym ts) ∙ here)) lost
  all_lost (asks_more x is number cs ts) i c j there here lost =
      add_lost x number i c j
      (after_add s.connections i (asked_by x) c (ap (λ (z : List Connection). slice_get z i) (sym cs) ∙ there))
      (after_add t.live i (asked number x.source t.room) j (ap (λ (z : Sessions). slice_get z.live i) (sym ts) ∙ here)) lost
  all_lost (asks_again x is number p k at_joined free cs ts) i c j there here lost =
      again_lost x number p i c j
      (after_change s.connections p i (asked_by x) c (ap (λ (z : List Connection). slice_get z i) (sym cs) ∙ there))
      (after_change t.live p i (asked number x.source t.room) j (ap (λ (z : Sessions). slice_get z.live i) (sym ts) ∙ here)) lost

  keep : (i : ℕ) (j : Joined) → slice_get t.done i ≡ Some j → Rests d deeds then_known j
  keep i j here = l.keeps i j here (a.done i j here)

  over_by : (x : Connect) → v ≡ request x → (p i : ℕ) (k j : Joined) → slice_get t.live p ≡ Some k →
      ((free : Connection) × (slice_get s.connections p ≡ Some free) × (free.is_judged ≡ true)) →
      ((i ≡ length t.done) × (j ≡ k)) ⊎ (slice_get t.done i ≡ Some j) → Rests d deeds then_known j
  over_by x is p i k j here (c, there, judged) (inl (m, same)) =
      subst (λ (z : Joined). Rests d deeds then_known z) (sym same)
      (l.moves x is k (stands_rest d deeds known put b c k (a.live p c k there here judged)))
  over_by x is p i k j here free (inr same) = keep i j same

  done_by : Does e at v s t (takes (way_of e) v s) → (i : ℕ) (j : Joined) → slice_get after.done i ≡ Some j → Rests d deeds then_known j
  done_by (nowhere place cs ts) i j here = keep i j (ap (λ (z : Sessions). slice_get z.done i) (sym ts) ∙ here)
  done_by (somewhere p first k x r place at_first at_joined one finding is far cs ts) i j here =
      keep i j (ap (λ (z : Sessions). slice_get z.done i) (sym ts) ∙ here)
  done_by (asks_more x is number cs ts) i j here = keep i j (ap (λ (z : Sessions). slice_get z.done i) (sym ts) ∙ here)
  done_by (asks_again x is number p k at_joined free cs ts) i j here =
      over_by x is p i k j at_joined free (after_add t.done i k j (ap (λ (z : Sessions). slice_get z.done i) (sym ts) ∙ here))

  room_by : Does e at v s t (takes (way_of e) v s) → after.room ≡ All
  room_by h = grind arith

  pub all_after : AllStand d deeds then_known later then_begun told_state after
  all_after = record {
    places = unit_places e at v s t a.places;
    apart = passes_apart (unit (way_of e) v) s a.apart;
    judged = still_judged (unit (way_of e) v) s a.judged;
    room = room_by (unit_does e at v s t a.places);
    live = live_by (unit_does e at v s t a.places);
    lost = all_lost (unit_does e at v s t a.places);
    done = done_by (unit_does e at v s t a.places);
  }
