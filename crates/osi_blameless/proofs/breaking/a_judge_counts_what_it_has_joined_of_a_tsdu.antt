-- The rules of transport count as many octets of the unfinished TSDU of each side as a judge has joined of it, at each place, whatever
-- passes.
-- For a TSDU of the other side that becomes too long.
use Rattle.osi_blameless.proofs.Vocabulary.{◌≡◌, ◌∙◌, ◌⊎◌, inl, inr, refl, sym, ap, subst, ℕ, zero, suc, ◌+◌, ◌≤◌, Bool, true, false, List}
use Rattle.osi_blameless.proofs.Vocabulary.{[], ◌∷◌, ◌++◌, map, length, Some, is_some, arith, length-append, slice_get_within, set}
use Rattle.osi_blameless.proofs.Vocabulary.{slice_get, Value, acknowledge, confirm, data0, data2, disconnect, disconnected, error, request}
use Rattle.osi_blameless.proofs.Vocabulary.{longest_tsdu, other, Direction, Left, Connection, Reach, Half, is_applied, begins, own, State}
use Rattle.osi_blameless.proofs.Vocabulary.{asked_by, begun_after, closing_phase, connection_after, found_on, half_after, meaning_if, meant}
use Rattle.osi_blameless.proofs.Vocabulary.{takes, after_add, after_change, All, Joined, Sessions, adds, asked, spoken, taken, user_of}
use Rattle.osi_blameless.proofs.Vocabulary.{Cause, Course, marks_of, way_of, Spoken, added, begun_octets, HaveSamePlaces, moved}
use Rattle.osi_blameless.proofs.Vocabulary.{unread_mark, unread_moment}
use Rattle.osi_rules.specs.Traffic as traffic
use Rattle.osi_judge.specs.Connections as joined
use Rattle.osi_judge.specs.Courses.{fresh}
use Rattle.osi_blameless.proofs.keeping.a_break_ends_no_judging_or_all.{refused_traffic, refuses, unread_if}
use Rattle.osi_blameless.proofs.small_facts_that_many_lemmas_use.{same_one}
use Rattle.osi_blameless.proofs.steps.what_passes_keeps_a_claim.{IsClaim}
use Rattle.osi_blameless.proofs.standing.all_connections_stand.{map_of, other_after, own_after}
use Rattle.osi_blameless.proofs.shown.connections_have_the_same_places.{as_long, marked_leaves, packet_agrees, unit_joins, unit_knows}
use Rattle.osi_blameless.proofs.shown.connections_have_the_same_places.{unit_places}
use Rattle.osi_blameless.proofs.standing.what_a_unit_does_at_its_place.{Does, asks_again, asks_more, nowhere, somewhere, unit_does}

-- of this side of a connection
abbrev pub IsCountedOf : Direction → Connection → Joined → Type 0
IsCountedOf e c j = (own (way_of e) c).begun ≡ length (begun_octets (spoken e j).begun)

-- of both sides, and all of it is judged
pub record IsCounted (c : Connection) (j : Joined) : Type 0 where
  pub of : (e : Direction) → IsCountedOf e c j
  pub room : j.room ≡ All

-- ---- one connection

closing_begun : (b : Bool) (half : Half) → (closing_phase b half).begun ≡ half.begun
closing_begun b half = grind arith

added_begun : (at : ℕ) (end : Bool) (octets : List ℕ) (half : Half) (s : Spoken) → half.begun ≡ length (begun_octets s.begun) →
    half.begun + length octets ≤ longest_tsdu → begun_after half end (length octets) ≡ length (begun_octets (added at end octets s).begun)
added_begun at end octets half s h few = grind (arith, length-append)

-- what a DT adds
record Adds (d : Direction) (at : ℕ) (end : Bool) (octets : List ℕ) (j new : Joined) : Type 0 where
  mine : spoken d new ≡ added at end octets (spoken d j)
  theirs : spoken (other d) new ≡ spoken (other d) j
  room : new.room ≡ All

adds_there : (d : Direction) (at : ℕ) (end : Bool) (octets : List ℕ) (j : Joined) → j.room ≡ All →
    Adds d at end octets j (adds d at end octets j)
adds_there d at end octets j all = grind arith

-- its two sides
each_side : (d : Direction) (c : Connection) (j : Joined) → IsCountedOf d c j → IsCountedOf (other d) c j → j.room ≡ All → IsCounted c j
each_side d c j mine theirs room = grind arith

module _ (d : Direction) (at : ℕ) (v : Value) (r : Reach) (c : Connection) (j : Joined) (h : IsCounted c j) where
  -- what is joined stays
  record Same (new : Joined) : Type 0 where
    mine : begun_octets (spoken d new).begun ≡ begun_octets (spoken d j).begun
    theirs : begun_octets (spoken (other d) new).begun ≡ begun_octets (spoken (other d) j).begun
    room : new.room ≡ j.room

  none_same : Same j
  none_same = record { mine = refl; theirs = refl; room = refl }

  stays : (b : Bool) (new : Joined) → Same new → (own (way_of d) (connection_after (way_of d) v b r c)).begun ≡ (own (way_of d) c).begun →
      IsCounted (connection_after (way_of d) v b r c) new
  stays b new s same = search (arith, each_side, other_after)

  applied_same : (new : Joined) → Same new → (half_after v (own (way_of d) c)).begun ≡ (own (way_of d) c).begun →
      IsCounted (connection_after (way_of d) v true r c) new
  applied_same new s same = stays true new s (ap (λ (x : Half). x.begun) (own_after d v r c) ∙ same)

  data_added : (end : Bool) → (half_after v (own (way_of d) c)).begun ≡ begun_after (own (way_of d) c) end (length (user_of v)) →
      (own (way_of d) c).begun + length (user_of v) ≤ longest_tsdu →
      IsCounted (connection_after (way_of d) v true r c) (adds d at end (user_of v) j)
  data_added end is few =
      search (
        arith,
        each_side,
        adds_there d at end (user_of v) j h.room,
        own_after d v r c,
        added_begun at end (user_of v) (own (way_of d) c) (spoken d j) (h.of d) few,
        other_after Left v true r c,
      )

shut_same : (d : Direction) (at : ℕ) (v : Value) (r : Reach) (c : Connection) (j : Joined) (h : IsCounted c j) →
    Same d at v r c j h (joined.shut j)
shut_same d at v r c j h = grind arith

found_data0 : (d : Direction) (s : State) (c : Connection) (end : Bool) (user : List ℕ) →
    is_applied (found_on (way_of d) s c (data0 end user)) ≡ true → (own (way_of d) c).begun + length user ≤ longest_tsdu
found_data0 d s c end user h = grind arith

found_data2 : (d : Direction) (s : State) (c : Connection) (n number : ℕ) (end : Bool) (user : List ℕ) →
    is_applied (found_on (way_of d) s c (data2 n number end user)) ≡ true → (own (way_of d) c).begun + length user ≤ longest_tsdu
found_data2 d s c n number end user h = grind arith

counted_after : (d : Direction) (at : ℕ) (v : Value) (s : State) (b : Bool) (r : Reach) (c : Connection) (j : Joined) →
    is_applied (found_on (way_of d) s c v) ≡ b → IsCounted c j →
    IsCounted (connection_after (way_of d) v b r c) (joined.meant d at v (meaning_if b (meant v)) j)
counted_after d at v s false r c j is h = grind (arith, stays, none_same)
counted_after d at (request x) s true r c j is h = applied_same d at (request x) r c j h j (none_same d at (request x) r c j h) refl
counted_after d at (confirm n x) s true r c j is h =
    applied_same d at (confirm n x) r c j h _
    (grind arith) refl
counted_after d at (disconnect n source reason user) s true r c j is h =
    search (arith, applied_same, closing_begun, shut_same d at (disconnect n source reason user) r c j h)
counted_after d at (disconnected n source) s true r c j is h = search (arith, applied_same, none_same)
counted_after d at (data0 end user) s true r c j is h = search (arith, data_added, found_data0)
counted_after d at (data2 n number end user) s true r c j is h = search (arith, data_added, found_data2)
counted_after d at (acknowledge credit n number) s true r c j is h = search (arith, applied_same, none_same)
counted_after d at (error n cause) s true r c j is h = search (arith, applied_same, shut_same d at (error n cause) r c j h)

-- ---- all of them

-- of all connections that have a place
pub record AreCounted (s : State) (t : Sessions) : Type 0 where
  pub places : HaveSamePlaces s.connections t.live
  pub each : (i : ℕ) (c : Connection) (j : Joined) → slice_get s.connections i ≡ Some c → slice_get t.live i ≡ Some j → IsCounted c j
  pub room : t.room ≡ All

module _ (d : Direction) (at : ℕ) (v : Value) (s : State) (t : Sessions) (a : AreCounted s t) where
  abbrev Counts : List Connection → List Joined → Type 0
  Counts cs js = (i : ℕ) (c : Connection) (j : Joined) → slice_get cs i ≡ Some c → slice_get js i ≡ Some j → IsCounted c j

  at_change : (p : ℕ) (c : Connection) (j : Joined) → IsCounted c j → Counts (set s.connections p c) (set t.live p j)
  at_change p c j h i x y there here = search (arith, after_change s.connections p i c x there, after_change t.live p i j y here)

  at_end : (c : Connection) (j : Joined) → IsCounted c j → Counts (s.connections ++ c ∷ []) (t.live ++ j ∷ [])
  at_end c j h i x y there here = by (after_add s.connections i c x there) (after_add t.live i j y here)
    where
      long : length s.connections ≡ length t.live
      long = as_long s.connections t.live a.places

      by : ((i ≡ length s.connections) × (x ≡ c)) ⊎ (slice_get s.connections i ≡ Some x) →
          ((i ≡ length t.live) × (y ≡ j)) ⊎ (slice_get t.live i ≡ Some y) → IsCounted x y
      by (inl (m, so)) (inl (n, same)) = subst (λ (z : Connection). IsCounted z y) (sym so) (subst (IsCounted c) (sym same) h)
      by (inl (m, so)) (inr same) = absurd (let near = slice_get_within t.live i y same in omega (arith, near, m, long))
      by (inr so) (inl (n, same)) = absurd (let near = slice_get_within s.connections i x so in omega (arith, near, n, long))
      by (inr so) (inr same) = a.each i x y so same

  abbrev then_places : HaveSamePlaces (takes (way_of d) v s).state.connections
      (taken d at v (takes (way_of d) v s).told.meaning (takes (way_of d) v s).told.place t).live
  then_places = unit_places d at v s t a.places

  unit_counts : Does d at v s t (takes (way_of d) v s) →
      AreCounted (takes (way_of d) v s).state (taken d at v (takes (way_of d) v s).told.meaning (takes (way_of d) v s).told.place t)
  unit_counts (nowhere place same left) = search arith
  unit_counts (somewhere p c j b r place there here one finding is far same left) = record {
    places = then_places;
    each = λ i x y at_there at_here.
        at_change p (connection_after (way_of d) v b r c) (joined.meant d at v (meaning_if b (meant v)) j)
        (counted_after d at v s b r c j is (a.each p c j there here)) i x y
        (ap (λ (l : List Connection). slice_get l i) (sym same) ∙ at_there)
        (ap (λ (z : Sessions). slice_get z.live i) (sym left) ∙ at_here);
    room = ap (λ (x : Sessions). x.room) left ∙ a.room;
  }
  unit_counts (asks_more x request_is number same left) = record {
    places = then_places;
    each = λ i y z there here.
        at_end (asked_by x) (asked number x.source t.room) (grind arith) i y z
        (ap (λ (l : List Connection). slice_get l i) (sym same) ∙ there)
        (ap (λ (w : Sessions). slice_get w.live i) (sym left) ∙ here);
    room = ap (λ (x : Sessions). x.room) left ∙ a.room;
  }
  unit_counts (asks_again x request_is number p j was free same left) = record {
    places = then_places;
    each = λ i y z there here.
        at_change p (asked_by x) (asked number x.source t.room) (grind arith) i y z
        (ap (λ (l : List Connection). slice_get l i) (sym same) ∙ there)
        (ap (λ (w : Sessions). slice_get w.live i) (sym left) ∙ here);
    room = ap (λ (x : Sessions). x.room) left ∙ a.room;
  }

-- ---- at a judge

abbrev pub Counted : Course → Type 0
Counted c = AreCounted c.traffic c.sessions

unread_counts : (b : Bool) (d : Direction) (at : ℕ) (k : Cause) (c : Course) → Counted c → Counted (unread_if b d at k c)
unread_counts true d at k c h = h
unread_counts false d at k c h =
    subst (λ (s : State). AreCounted s (refuses d at k c).sessions) (sym (refused_traffic d at k c))
    (subst (AreCounted (traffic.refused (way_of d) c.traffic))
    (sym (marked_leaves (unread_mark d at k) (traffic.refused_reach (way_of d) c.traffic)
    (moved (unread_moment d at k c.sessions) (record c { traffic = traffic.refused (way_of d) c.traffic }))))
    (record { places = h.places; each = h.each; room = h.room }))

pub counted_claim : IsClaim Counted
counted_claim = record {
  begins = λ d c h. record {
    places = packet_agrees d c h.places;
    each = λ i x y there here.
        let (z, z_at, z_is) = connection_of d c.traffic.connections i x there in
        grind (arith, map_of);
    room = h.room;
  };
  passes = λ d at v c h.
      search (arith, unit_knows, unit_joins, unit_counts, unit_does);
  bad = λ d at k c h. unread_counts (is_some (marks_of d c).halted) d at k c h;
}
  where
    connection_of : (d : Direction) (xs : List Connection) (i : ℕ) (y : Connection) → slice_get (map (begins (way_of d)) xs) i ≡ Some y →
        (x : Connection) × (slice_get xs i ≡ Some x) × (y ≡ begins (way_of d) x)
    connection_of d [] i y h = absurd (cc)
    connection_of d (z ∷ xs) zero y h = (z, refl, sym (same_one (begins (way_of d) z) y h))
    connection_of d (z ∷ xs) (suc i) y h = connection_of d xs i y h

pub fresh_counted : Counted fresh
fresh_counted = record { places = tt; each = λ i c j there here. absurd (cc there); room = refl }
