-- No two connections of an end have one reference of it at a judge, also after a place was given to another, if each CR and CC of the end
-- gives a new one.
-- For all connections of an end and a judge.
use Rattle.osi_blameless.proofs.Vocabulary.{[], ap, Bool, inl, inr, length, List, set, Some, subst, sym, ℕ, ◌++◌, ◌∙◌, ◌∷◌, ◌≡◌, ◌⊎◌}
use Rattle.osi_blameless.proofs.Vocabulary.{slice_get, confirm, data2, request, Value, meaning_if, meant, Traffic as State, takes, other}
use Rattle.osi_blameless.proofs.Vocabulary.{Direction, Left, Right, all_begin, Joined, reference_of, Sessions, taken, way_of, All}
use Rattle.osi_blameless.proofs.Vocabulary.{after_add, after_change, HaveSamePlaces, arith, number_is}
use Rattle.osi_judge.specs.Connections as joined
use Rattle.osi_blameless.proofs.standing.all_connections_stand.{map_of}
use Rattle.osi_blameless.proofs.standing.right_units_leave_all_standing.{StaysElsewhere}
use Rattle.osi_blameless.proofs.shown.what_a_judge_shows_goes_on.{named_added}
use Rattle.osi_blameless.proofs.standing.what_is_left_for_an_end.{known_left, left_stays}
use Rattle.osi_blameless.proofs.standing.what_a_unit_does_at_its_place.{Does, asks_again, asks_more, nowhere, somewhere, unit_does}
use Rattle.osi_blameless.proofs.standing.what_stands_of_a_connection.{named_begun}

pub record AreDistinct (d : Direction) (t : Sessions) : Type 0 where
  pub live : (i k : ℕ) (j l : Joined) (r : ℕ) → slice_get t.live i ≡ Some j → slice_get t.live k ≡ Some l → reference_of d j ≡ Some r →
      reference_of d l ≡ Some r → i ≡ k
  pub done : (i k : ℕ) (j l : Joined) (r : ℕ) → slice_get t.live i ≡ Some j → slice_get t.done k ≡ Some l → reference_of d j ≡ Some r →
      reference_of d l ≡ Some r → ⊥

-- no connection has this reference
pub record IsUnused (d : Direction) (r : ℕ) (t : Sessions) : Type 0 where
  pub live : (i : ℕ) (j : Joined) → slice_get t.live i ≡ Some j → reference_of d j ≡ Some r → ⊥
  pub done : (i : ℕ) (j : Joined) → slice_get t.done i ≡ Some j → reference_of d j ≡ Some r → ⊥

-- what is joined has the reference of what was there, or a new one
abbrev IsFresh : (d : Direction) → Joined → Joined → Sessions → Type 0
IsFresh d old new t = (reference_of d new ≡ reference_of d old) ⊎ ((r : ℕ) → reference_of d new ≡ Some r → IsUnused d r t)

-- the same at a place
abbrev At : (p : ℕ) → Joined → Sessions → ℕ → Joined → Type 0
At p new t i j = ((i ≡ p) × (j ≡ new)) ⊎ ((i ≡ p → ⊥) × (slice_get t.live i ≡ Some j))

module _ (d : Direction) (p : ℕ) (old new : Joined) (t : Sessions) (there : slice_get t.live p ≡ Some old) (h : AreDistinct d t) where
  live_by : IsFresh d old new t → (i k : ℕ) (j l : Joined) (r : ℕ) → At p new t i j → At p new t k l → reference_of d j ≡ Some r →
      reference_of d l ≡ Some r → i ≡ k
  live_by fresh i k j l r (inl (a, x)) (inl (b, y)) e f = a ∙ sym b
  live_by fresh i k j l r (inr (a, x)) (inr (b, y)) e f = h.live i k j l r x y e f
  live_by (inl same) i k j l r (inl (a, x)) (inr (b, y)) e f = grind arith
  live_by (inl same) i k j l r (inr (a, x)) (inl (b, y)) e f = grind arith
  live_by (inr unused) i k j l r (inl (a, x)) (inr (b, y)) e f =
      absurd ((unused r (ap (reference_of d) (sym x) ∙ e)).live k l y f)
  live_by (inr unused) i k j l r (inr (a, x)) (inl (b, y)) e f =
      absurd ((unused r (ap (reference_of d) (sym y) ∙ f)).live i j x e)

  done_by : IsFresh d old new t → (i k : ℕ) (j l : Joined) (r : ℕ) → At p new t i j → slice_get t.done k ≡ Some l →
      reference_of d j ≡ Some r → reference_of d l ≡ Some r → ⊥
  done_by fresh i k j l r (inr (a, x)) y e f = h.done i k j l r x y e f
  done_by (inl same) i k j l r (inl (a, x)) y e f = grind arith
  done_by (inr unused) i k j l r (inl (a, x)) y e f = (unused r (ap (reference_of d) (sym x) ∙ e)).done k l y f

  set_distinct : IsFresh d old new t → AreDistinct d (record t { live = set t.live p new })
  set_distinct fresh = search (arith, live_by, after_change, done_by)

  -- the place of one that is over is given to another, with a new reference or none
  again_done : ((r : ℕ) → reference_of d new ≡ Some r → IsUnused d r t) → (i k : ℕ) (j l : Joined) (r : ℕ) → At p new t i j →
      ((k ≡ length t.done) × (l ≡ old)) ⊎ (slice_get t.done k ≡ Some l) → reference_of d j ≡ Some r → reference_of d l ≡ Some r → ⊥
  again_done unused i k j l r (inl (a, x)) (inl (b, y)) e f =
      (unused r (ap (reference_of d) (sym x) ∙ e)).live p old there (ap (reference_of d) (sym y) ∙ f)
  again_done unused i k j l r (inl (a, x)) (inr y) e f = (unused r (ap (reference_of d) (sym x) ∙ e)).done k l y f
  again_done unused i k j l r (inr (a, x)) (inl (b, y)) e f = grind arith
  again_done unused i k j l r (inr (a, x)) (inr y) e f = h.done i k j l r x y e f

  again_distinct : ((r : ℕ) → reference_of d new ≡ Some r → IsUnused d r t) →
      AreDistinct d (record t { live = set t.live p new; done = t.done ++ old ∷ [] })
  again_distinct unused = grind (arith, live_by, after_change, again_done, after_add)

-- one more
module _ (d : Direction) (new : Joined) (t : Sessions) (h : AreDistinct d t)
    (unused : (r : ℕ) → reference_of d new ≡ Some r → IsUnused d r t) where
  more_live : (i k : ℕ) (j l : Joined) (r : ℕ) → ((i ≡ length t.live) × (j ≡ new)) ⊎ (slice_get t.live i ≡ Some j) →
      ((k ≡ length t.live) × (l ≡ new)) ⊎ (slice_get t.live k ≡ Some l) → reference_of d j ≡ Some r → reference_of d l ≡ Some r → i ≡ k
  more_live i k j l r (inl (a, x)) (inl (b, y)) e f = a ∙ sym b
  more_live i k j l r (inl (a, x)) (inr y) e f = absurd ((unused r (ap (reference_of d) (sym x) ∙ e)).live k l y f)
  more_live i k j l r (inr x) (inl (b, y)) e f = absurd ((unused r (ap (reference_of d) (sym y) ∙ f)).live i j x e)
  more_live i k j l r (inr x) (inr y) e f = h.live i k j l r x y e f

  more_done : (i k : ℕ) (j l : Joined) (r : ℕ) → ((i ≡ length t.live) × (j ≡ new)) ⊎ (slice_get t.live i ≡ Some j) →
      slice_get t.done k ≡ Some l → reference_of d j ≡ Some r → reference_of d l ≡ Some r → ⊥
  more_done i k j l r (inl (a, x)) y e f = (unused r (ap (reference_of d) (sym x) ∙ e)).done k l y f
  more_done i k j l r (inr x) y e f = h.done i k j l r x y e f

  more_distinct : AreDistinct d (record t { live = t.live ++ new ∷ [] })
  more_distinct = grind (arith, more_live, after_add, more_done)

-- ---- what passes

pub begins_distinct : (d e : Direction) (t : Sessions) → AreDistinct d t → AreDistinct d (all_begin e t)
begins_distinct d e t h = search (arith, map_of, named_begun)

-- a CR of left and a CC of right give new references
abbrev pub GivesNew : Direction → Value → Sessions → Type 0
GivesNew Left (request x) t = IsUnused Left x.source t
GivesNew Right (confirm n x) t = IsUnused Right x.source t
GivesNew d v t = Unit {0}

pub named_shut : (d : Direction) (j : Joined) → reference_of d (joined.shut j) ≡ reference_of d j
named_shut d j = grind arith

distinct_by : (d e : Direction) (at : ℕ) (v : Value) (s : State) (t : Sessions) → AreDistinct d t → GivesNew d v t →
    ((i : ℕ) (j : Joined) → slice_get t.live i ≡ Some j → j.room ≡ All) → Does e at v s t (takes (way_of e) v s) →
    AreDistinct d (taken e at v (takes (way_of e) v s).told.meaning (takes (way_of e) v s).told.place t)
distinct_by d e at v s t h new rooms (nowhere place cs ts) = subst (AreDistinct d) (sym ts) h
distinct_by d e at v s t h new rooms (somewhere p c k x r place there here one finding is far cs ts) =
    subst (AreDistinct d) (sym ts)
    (set_distinct d p k (joined.meant e at v (meaning_if x (meant v)) k) t here h (grind (arith, number_is, named_shut, named_added)))
distinct_by d e at v s t h new rooms (asks_more x is number cs ts) = grind (arith, more_distinct)
distinct_by d e at v s t h new rooms (asks_again x is number p k here free cs ts) = grind (arith, again_distinct)

pub unit_distinct : (d e : Direction) (at : ℕ) (v : Value) (s : State) (t : Sessions) → HaveSamePlaces s.connections t.live →
    AreDistinct d t → GivesNew d v t → ((i : ℕ) (j : Joined) → slice_get t.live i ≡ Some j → j.room ≡ All) →
    AreDistinct d (taken e at v (takes (way_of e) v s).told.meaning (takes (way_of e) v s).told.place t)
unit_distinct d e at v s t places h new rooms = distinct_by d e at v s t h new rooms (unit_does e at v s t places)

-- ---- so a DT of the other side is in flight to one connection

pub stays_so : (d : Direction) (is_live : ℕ → Bool) (coming : List Value) (n number : ℕ) (end : Bool) (user : List ℕ) (s : State)
    (t : Sessions) (p : ℕ) (k : Joined) → AreDistinct d t → slice_get t.live p ≡ Some k → reference_of d k ≡ Some n →
    (takes (way_of (other d)) (data2 n number end user) s).told.place ≡ Some p →
    StaysElsewhere d (known_left is_live coming) (known_left is_live (coming ++ data2 n number end user ∷ [])) (data2 n number end user) s t
stays_so d is_live coming n number end user s t p k h there named place = record {
  live = λ q i j apart told here r later is sure.
      left_stays is_live coming n number end user r later
      (λ same. apart (h.live i p j k r here there is (named ∙ ap (λ (m : ℕ). Some m) same) ∙ number_is p q (sym place ∙ told))) sure;
  done = λ i j here r later is sure.
      left_stays is_live coming n number end user r later
      (λ same. h.done p i k j r there here (named ∙ ap (λ (m : ℕ). Some m) same) is) sure;
}
