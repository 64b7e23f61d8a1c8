-- Of each connection that the other side has closed at the judge, its DR is in flight to the end, as long as the end has the connection
-- open. So it is as packets begin and units pass, and as the end takes a turn, if it takes no DR for a connection that it has open after
-- it. For the sessions of an end after a DT or an AK on a connection that its sender had closed.
use Rattle.osi_blameless.proofs.Vocabulary.{[], ap, arith, Bool, false, inl, inr, length, List, None, Option, refl, Some, sym}
use Rattle.osi_blameless.proofs.Vocabulary.{true, ℕ, ◌++◌, ◌∙◌, ◌∷◌, ◌≡◌, ◌⊎◌, eq-eqb, append-nil, slice_get, acknowledge, confirm, Connect}
use Rattle.osi_blameless.proofs.Vocabulary.{data0, data2, disconnect, disconnected, error, request, Value, is_applied, begins, is_closing}
use Rattle.osi_blameless.proofs.Vocabulary.{is_silent, own, asked_by, connection_after, found_on, half_after, meaning_if, meant}
use Rattle.osi_blameless.proofs.Vocabulary.{Traffic as State, takes, Connection, Reach, Half, other, Direction, Right, all_begin}
use Rattle.osi_blameless.proofs.Vocabulary.{asked, Joined, reference_of, Sessions, taken, way_of, All, after_add, after_change, after_map}
use Rattle.osi_blameless.proofs.Vocabulary.{slice_get_within, HaveSamePlaces, IsOneOf}
use Rattle.osi_rules.specs.Traffic as traffic
use Rattle.osi_rules.specs.declared.directions.Direction.TheVariants as way
use Rattle.osi_judge.specs.Connections.{none, packet_begins}
use Rattle.osi_judge.specs.Connections as joined
use Rattle.osi_blameless.proofs.shown.a_unit_is_joined_where_it_is_named.{named_there, names_there}
use Rattle.osi_blameless.proofs.standing.all_connections_stand.{begun_judged, map_of, other_after, own_after}
use Rattle.osi_blameless.proofs.shown.connections_have_the_same_places.{at_same}
use Rattle.osi_blameless.proofs.putting.references_of_an_end_are_distinct.{named_shut}
use Rattle.osi_blameless.proofs.shown.what_a_judge_shows_goes_on.{named_added}
use Rattle.osi_blameless.proofs.standing.what_a_unit_does_at_its_place.{Does, asks_again, asks_more, nowhere, somewhere, unit_does}
use Rattle.osi_blameless.proofs.standing.what_holds_of_a_lost_connection.{was_judged}
use Rattle.osi_blameless.proofs.standing.what_is_left_for_an_end.{dr_last, dr_more, has_dr}
use Rattle.osi_blameless.proofs.standing.what_stands_of_a_connection.{named_begun, open_begun}
use Rattle.osi_blameless.proofs.shown.connections_have_the_same_places.{none_given as unnamed_so}

-- a connection to which this end gave a reference, and for which a DR is in flight if the end has it open
pub record IsShutAt (d : Direction) (is_live : ℕ → Bool) (coming : List Value) (j : Joined) : Type 0 where
  pub r : ℕ
  pub named : reference_of d j ≡ Some r
  pub dr : is_live r ≡ true → has_dr r coming ≡ true

-- each that the other side has closed, and that is judged, is such a one
pub record AreShut (d : Direction) (is_live : ℕ → Bool) (coming : List Value) (s : State) (t : Sessions) : Type 0 where
  pub each : (i : ℕ) (c : Connection) (j : Joined) → slice_get s.connections i ≡ Some c → slice_get t.live i ≡ Some j →
      c.is_judged ≡ true → is_closing (own (way_of (other d)) c).phase ≡ true → IsShutAt d is_live coming j

-- nothing has passed
pub first_shut : (d : Direction) (is_live : ℕ → Bool) (coming : List Value) → AreShut d is_live coming traffic.fresh none
first_shut d is_live coming = record { each = λ i c j there here. absurd (cc here) }

-- ---- a packet begins

pub begins_shut : (d e : Direction) (is_live : ℕ → Bool) (coming : List Value) (s : State) (t : Sessions) →
    AreShut d is_live coming s t → AreShut d is_live coming (traffic.packet_begins (way_of e) s) (all_begin e t)
begins_shut d e is_live coming s t h = record {
  each = λ i c j there here judged closing.
      let (x, at, is) = after_map (begins (way_of e)) s.connections i c there in
      let (y, so, same) = map_of (packet_begins e) t.live i j here in
      let was = ap is_closing (sym (open_begun (other d) e x))
      ∙ ap (λ (z : Connection). is_closing (own (way_of (other d)) z).phase) (sym is) ∙ closing in
      grind (arith, h.each i x y at so (begun_judged e x c true is judged) was, begun_judged e x c true is judged, named_begun d e y);
}

-- ---- a unit passes

-- what is in flight grows
grown : (d : Direction) (is_live : ℕ → Bool) (coming more : List Value) (j k : Joined) → reference_of d k ≡ reference_of d j →
    IsShutAt d is_live coming j → IsShutAt d is_live (coming ++ more) k
grown d is_live coming more j k same h = grind (arith, dr_more)

-- the half of the other side, after a unit of the end
pub theirs_after : (d : Direction) (v : Value) (b : Bool) (r : Reach) (c : Connection) →
    own (way_of (other d)) (connection_after (way_of d) v b r c) ≡ own (way_of (other d)) c
theirs_after d v b r c = grind (arith, other_after)

-- its own half, after a unit without an effect
none_after : (d : Direction) (v : Value) (r : Reach) (c : Connection) →
    own (way_of (other d)) (connection_after (way_of (other d)) v false r c) ≡ own (way_of (other d)) c
none_after d v r c = grind (arith, other_after)

cc_silent : (s : State) (n : ℕ) (x : Connect) (c : Connection) → is_applied (found_on way.Right s c (confirm n x)) ≡ true →
    is_silent c.right.phase ≡ true
cc_silent s n x c h = grind arith

none_some : {A : Type 0} (r : ℕ) (o : Option ℕ) → o ≡ None → o ≡ Some r → A
none_some r o e h = absurd (let both : None ≡ Some r = sym e ∙ h in cc)

-- the reference that this end gave it stays, unless a CC gives one
named_still : (d e : Direction) (at : ℕ) (v : Value) (j : Joined) → j.room ≡ All →
    ((n : ℕ) (x : Connect) → v ≡ confirm n x → d ≡ Right → ⊥) →
    reference_of d (joined.meant e at v (meaning_if true (meant v)) j) ≡ reference_of d j
named_still d e at v j room not = grind (arith, named_shut, named_added)

module _ (d e : Direction) (at : ℕ) (v : Value) (is_live : ℕ → Bool) (coming more : List Value) (s : State) (t : Sessions)
    (places : HaveSamePlaces s.connections t.live) (h : AreShut d is_live coming s t)
    (here_so : (p : ℕ) (first : Connection) (k : Joined) (x : Bool) (r : Reach) → (takes (way_of e) v s).told.place ≡ Some p →
    slice_get s.connections p ≡ Some first → slice_get t.live p ≡ Some k → IsOneOf first k →
    is_applied (found_on (way_of e) s first v) ≡ x → first.is_judged ≡ true →
    is_closing (own (way_of (other d)) (connection_after (way_of e) v x r first)).phase ≡ true →
    IsShutAt d is_live (coming ++ more) (joined.meant e at v (meaning_if x (meant v)) k)) where
  abbrev IsClosing : Connection → Type 0
  IsClosing c = (c.is_judged ≡ true) × (is_closing (own (way_of (other d)) c).phase ≡ true)

  abbrev Goes : Joined → Type 0
  Goes j = IsShutAt d is_live (coming ++ more) j

  abbrev after : Sessions
  after = taken e at v (takes (way_of e) v s).told.meaning (takes (way_of e) v s).told.place t

  still : (i : ℕ) (c : Connection) (j : Joined) → slice_get s.connections i ≡ Some c → slice_get t.live i ≡ Some j → IsClosing c → Goes j
  still i c j there here closing = grown d is_live coming more j j refl (h.each i c j there here closing.0 closing.1)

  place_by : (p : ℕ) (first : Connection) (k : Joined) (x : Bool) (r : Reach) → (takes (way_of e) v s).told.place ≡ Some p →
      slice_get s.connections p ≡ Some first → slice_get t.live p ≡ Some k → IsOneOf first k →
      is_applied (found_on (way_of e) s first v) ≡ x → (i : ℕ) (c : Connection) (j : Joined) → IsClosing c →
      ((i ≡ p) × (c ≡ connection_after (way_of e) v x r first)) ⊎ ((i ≡ p → ⊥) × (slice_get s.connections i ≡ Some c)) →
      ((i ≡ p) × (j ≡ joined.meant e at v (meaning_if x (meant v)) k)) ⊎ ((i ≡ p → ⊥) × (slice_get t.live i ≡ Some j)) → Goes j
  place_by p first k x r told at_first at_joined one is i c j closing (inl (m, so)) (inl (n, same)) = grind (arith, was_judged)
  place_by p first k x r told at_first at_joined one is i c j closing (inl (m, so)) (inr (n, same)) = absurd (n m)
  place_by p first k x r told at_first at_joined one is i c j closing (inr (m, so)) (inl (n, same)) = absurd (m n)
  place_by p first k x r told at_first at_joined one is i c j closing (inr (m, so)) (inr (n, same)) = still i c j so same closing

  add_by : (x : Connect) (number : ℕ) (i : ℕ) (c : Connection) (j : Joined) → IsClosing c →
      ((i ≡ length s.connections) × (c ≡ asked_by x)) ⊎ (slice_get s.connections i ≡ Some c) →
      ((i ≡ length t.live) × (j ≡ asked number x.source t.room)) ⊎ (slice_get t.live i ≡ Some j) → Goes j
  add_by x number i c j closing h same = grind (arith, at_same, slice_get_within, still)

  again_by : (x : Connect) (number p : ℕ) (i : ℕ) (c : Connection) (j : Joined) → IsClosing c →
      ((i ≡ p) × (c ≡ asked_by x)) ⊎ ((i ≡ p → ⊥) × (slice_get s.connections i ≡ Some c)) →
      ((i ≡ p) × (j ≡ asked number x.source t.room)) ⊎ ((i ≡ p → ⊥) × (slice_get t.live i ≡ Some j)) → Goes j
  again_by x number p i c j closing h same = grind (arith, still)

  each_by : Does e at v s t (takes (way_of e) v s) → (i : ℕ) (c : Connection) (j : Joined) →
      slice_get (takes (way_of e) v s).state.connections i ≡ Some c → slice_get after.live i ≡ Some j → IsClosing c → Goes j
  each_by (nowhere place cs ts) i c j there here closing = grind (arith, still)
  each_by (somewhere p first k x r place at_first at_joined one finding is far cs ts) i c j there here closing =
      place_by p first k x r place at_first at_joined one is i c j closing
      (after_change s.connections p i (connection_after (way_of e) v x r first) c
      (ap (λ (z : List Connection). slice_get z i) (sym cs) ∙ there))
      (after_change t.live p i (joined.meant e at v (meaning_if x (meant v)) k) j
      (ap (λ (z : Sessions). slice_get z.live i) (sym ts) ∙ here))
  each_by (asks_more x is number cs ts) i c j there here closing =
      add_by x number i c j closing
      (after_add s.connections i (asked_by x) c (ap (λ (z : List Connection). slice_get z i) (sym cs) ∙ there))
      (after_add t.live i (asked number x.source t.room) j (ap (λ (z : Sessions). slice_get z.live i) (sym ts) ∙ here))
  each_by (asks_again x is number p k at_joined free cs ts) i c j there here closing =
      again_by x number p i c j closing
      (after_change s.connections p i (asked_by x) c (ap (λ (z : List Connection). slice_get z i) (sym cs) ∙ there))
      (after_change t.live p i (asked number x.source t.room) j (ap (λ (z : Sessions). slice_get z.live i) (sym ts) ∙ here))

  unit_shut : AreShut d is_live (coming ++ more) (takes (way_of e) v s).state after
  unit_shut = record { each = λ i c j there here judged closing. each_by (unit_does e at v s t places) i c j there here (judged, closing) }

abbrev pub HaveRoom : Sessions → Type 0
HaveRoom t = (i : ℕ) (j : Joined) → slice_get t.live i ≡ Some j → j.room ≡ All

-- ---- a unit of the end

module _ (d : Direction) (at : ℕ) (v : Value) (is_live : ℕ → Bool) (coming : List Value) (s : State) (t : Sessions)
    (places : HaveSamePlaces s.connections t.live) (rooms : HaveRoom t) (h : AreShut d is_live coming s t) where
  own_here : (p : ℕ) (first : Connection) (k : Joined) (x : Bool) (r : Reach) → (takes (way_of d) v s).told.place ≡ Some p →
      slice_get s.connections p ≡ Some first → slice_get t.live p ≡ Some k → IsOneOf first k →
      is_applied (found_on (way_of d) s first v) ≡ x → first.is_judged ≡ true →
      is_closing (own (way_of (other d)) (connection_after (way_of d) v x r first)).phase ≡ true →
      IsShutAt d is_live (coming ++ []) (joined.meant d at v (meaning_if x (meant v)) k)
  own_here p first k false r told at_first at_joined one applied judged closing =
      grown d is_live coming [] k k refl
      (h.each p first k at_first at_joined judged (ap (λ (y : Half). is_closing y.phase) (sym (theirs_after d v false r first)) ∙ closing))
  own_here p first k true r told at_first at_joined one applied judged closing =
      let old = h.each p first k at_first at_joined judged
      (ap (λ (y : Half). is_closing y.phase) (sym (theirs_after d v true r first)) ∙ closing) in
      grown d is_live coming [] k (joined.meant d at v (meaning_if true (meant v)) k)
      (named_still d d at v k (rooms p k at_joined) (grind (arith, none_some, unnamed_so, cc_silent))) old

  pub own_shut : AreShut d is_live coming (takes (way_of d) v s).state
      (taken d at v (takes (way_of d) v s).told.meaning (takes (way_of d) v s).told.place t)
  own_shut = grind (arith, own_here, append-nil coming, unit_shut d d at v is_live coming [] s t places h own_here)

-- ---- a unit of the other side

module _ (d : Direction) (at : ℕ) (is_live : ℕ → Bool) (coming : List Value) (s : State) (t : Sessions)
    (places : HaveSamePlaces s.connections t.live) (rooms : HaveRoom t) (h : AreShut d is_live coming s t) where
  abbrev Here : Value → (p : ℕ) → Connection → Joined → Reach → Type 0
  Here v p first k r = slice_get s.connections p ≡ Some first → slice_get t.live p ≡ Some k → first.is_judged ≡ true →
      is_closing (half_after v (own (way_of (other d)) first)).phase ≡ true →
      IsShutAt d is_live (coming ++ v ∷ []) (joined.meant (other d) at v (meaning_if true (meant v)) k)

  here_by : (v : Value) (p : ℕ) (first : Connection) (k : Joined) (r : Reach) → (takes (way_of (other d)) v s).told.place ≡ Some p →
      IsOneOf first k → Here v p first k r
  here_by (request x) p first k r told one at_first at_joined judged closing =
      grind (arith, grown, named_still d (other d) at (request x) k (rooms p k at_joined) (λ m y e. absurd (cc e)))
  here_by (confirm n x) p first k r told one at_first at_joined judged closing = absurd (cc)
  here_by (disconnect n source reason user) p first k r told one at_first at_joined judged closing =
      let v : Value = disconnect n source reason user in
      record {
        r = n;
        named = named_shut d k ∙ sym (grind arith) ∙ named_there (other d) n first k one judged
            (names_there (way_of (other d)) v s n p first at_first refl told);
        dr = λ live. dr_last n v coming (eq-eqb n n refl);
      }
  here_by (disconnected n source) p first k r told one at_first at_joined judged closing = absurd (cc)
  here_by (data0 end user) p first k r told one at_first at_joined judged closing =
      grind (arith, grown, named_still d (other d) at (data0 end user) k (rooms p k at_joined) (λ m y e. absurd (cc e)))
  here_by (data2 n number end user) p first k r told one at_first at_joined judged closing =
      grind (arith, grown, named_still d (other d) at (data2 n number end user) k (rooms p k at_joined) (λ m y e. absurd (cc e)))
  here_by (acknowledge credit n number) p first k r told one at_first at_joined judged closing =
      grind (arith, grown, named_still d (other d) at (acknowledge credit n number) k (rooms p k at_joined) (λ m y e. absurd (cc e)))
  here_by (error n cause) p first k r told one at_first at_joined judged closing = absurd (cc)

  other_here : (v : Value) (p : ℕ) (first : Connection) (k : Joined) (x : Bool) (r : Reach) →
      (takes (way_of (other d)) v s).told.place ≡ Some p → slice_get s.connections p ≡ Some first → slice_get t.live p ≡ Some k →
      IsOneOf first k → is_applied (found_on (way_of (other d)) s first v) ≡ x → first.is_judged ≡ true →
      is_closing (own (way_of (other d)) (connection_after (way_of (other d)) v x r first)).phase ≡ true →
      IsShutAt d is_live (coming ++ v ∷ []) (joined.meant (other d) at v (meaning_if x (meant v)) k)
  other_here v p first k false r told at_first at_joined one applied judged closing =
      grown d is_live coming (v ∷ []) k k refl
      (h.each p first k at_first at_joined judged (ap (λ (y : Half). is_closing y.phase) (sym (none_after d v r first)) ∙ closing))
  other_here v p first k true r told at_first at_joined one applied judged closing =
      here_by v p first k r told one at_first at_joined judged
      (ap (λ (y : Half). is_closing y.phase) (sym (own_after (other d) v r first)) ∙ closing)

  pub other_shut : (v : Value) → AreShut d is_live (coming ++ v ∷ []) (takes (way_of (other d)) v s).state
      (taken (other d) at v (takes (way_of (other d)) v s).told.meaning (takes (way_of (other d)) v s).told.place t)
  other_shut v = unit_shut d (other d) at v is_live coming (v ∷ []) s t places h (other_here v)

-- ---- a turn of the end

pub turn_shut : (d : Direction) (is_live then_live : ℕ → Bool) (coming then_coming : List Value) (s : State) (t : Sessions) →
    ((i : ℕ) (c : Connection) (j : Joined) (r : ℕ) → slice_get s.connections i ≡ Some c → slice_get t.live i ≡ Some j →
    c.is_judged ≡ true → is_closing (own (way_of (other d)) c).phase ≡ true → reference_of d j ≡ Some r → then_live r ≡ true →
    (is_live r ≡ true) × (has_dr r coming ≡ true → has_dr r then_coming ≡ true)) → AreShut d is_live coming s t →
    AreShut d then_live then_coming s t
turn_shut d is_live then_live coming then_coming s t on h = record {
  each = λ i c j there here judged closing.
      grind (arith, h.each i c j there here judged closing);
}
