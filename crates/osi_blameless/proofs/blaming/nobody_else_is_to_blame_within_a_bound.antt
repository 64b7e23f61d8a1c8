-- A unit makes nobody to blame for what a judge with a bound judges whom it doesn't make to blame for what a judge without one judges.
-- For the law on such a judge.
use Rattle.osi_blameless.proofs.Vocabulary.{arith, slice_get, ◌≡◌, ◌∙◌, refl, sym, ap, subst, ℕ, zero, suc, Bool, true, false, List, []}
use Rattle.osi_blameless.proofs.Vocabulary.{◌∷◌, ◌++◌, length, set, Option, Some, None, Meaning, Value, Direction, Room, Octets, IsToBlame}
use Rattle.osi_blameless.proofs.Vocabulary.{Joined, Sessions, adds_if, changed, placed, taken, taken_at, user_of, fits, kept_on, IsJudgedOf}
use Rattle.osi_rules.specs.declared.findings.Meaning.TheVariants as meaning
use Rattle.osi_judge.specs.Connections.{meant}
use Rattle.osi_judge.specs.Rooms.{is_over}
use Rattle.osi_blameless.proofs.standing.nobody_of_a_side_is_to_blame.{NoneIsToBlame}
use Rattle.osi_blameless.proofs.blaming.what_is_judged_within_a_bound.{AreBounded, BothAt, asked_so, at_place, meant_so}

-- ---- who is to blame, by what both sides said

blame_on : (d : Direction) (j w : Joined) → j.left ≡ w.left → j.right ≡ w.right → IsToBlame d j → IsToBlame d w
blame_on d j w left right b = grind arith

-- of a connection of which all was judged so far, who is to blame for it is to blame for the whole
either_way : (d : Direction) (j w : Joined) → IsJudgedOf j w → (IsToBlame d w → ⊥) → (is_over j.room ≡ true → IsToBlame d j → ⊥) →
    IsToBlame d j → ⊥
either_way d j w h whole past b = search (arith, blame_on)

-- ---- a unit after which no more is judged of its connection

module _ (d e : Direction) (at : ℕ) (end : Bool) (octets : List ℕ) (j : Joined) where
  goes_on_if : (b : Bool) → is_over j.room ≡ false → is_over (adds_if b e at end octets j).room ≡ true →
      IsToBlame d (adds_if b e at end octets j) → IsToBlame d j
  goes_on_if b goes over blame = grind (arith, blame_on)

  added_by : (room : Room) → j.room ≡ room → is_over (adds_if (fits room (kept_on j) (length octets)) e at end octets j).room ≡ true →
      IsToBlame d (adds_if (fits room (kept_on j) (length octets)) e at end octets j) → IsToBlame d j
  added_by room is over blame = grind (arith, goes_on_if, blame_on)

-- was to blame before it
meant_blame : (d e : Direction) (at : ℕ) (v : Value) (m : Meaning) (j : Joined) → is_over (meant e at v m j).room ≡ true →
    IsToBlame d (meant e at v m j) → IsToBlame d j
meant_blame d e at v meaning.Opens j over blame = blame_on d (meant e at v meaning.Opens j) j refl refl blame
meant_blame d e at v meaning.Closes j over blame = blame_on d (meant e at v meaning.Closes j) j refl refl blame
meant_blame d e at v (meaning.Adds end) j over blame = added_by d e at end (user_of v) j j.room refl over blame
meant_blame d e at v meaning.Asks j over blame = blame
meant_blame d e at v meaning.Nothing j over blame = blame

-- ---- nobody of some connections

abbrev NoneOf : Direction → List Joined → Type 0
NoneOf d [] = Unit {0}
NoneOf d (j ∷ js) = (IsToBlame d j → ⊥) × NoneOf d js

listed : (d : Direction) (js : List Joined) → ((i : ℕ) (j : Joined) → slice_get js i ≡ Some j → IsToBlame d j → ⊥) → NoneOf d js
listed d [] h = tt
listed d (j ∷ js) h = (h zero j refl, listed d js (λ i k here. h (suc i) k here))

of_one : (d : Direction) (js : List Joined) → NoneOf d js → (i : ℕ) (j : Joined) → slice_get js i ≡ Some j → IsToBlame d j → ⊥
of_one d [] h i j here blame = absurd (let no : None ≡ Some j = here in cc)
of_one d (x ∷ js) h zero j here blame = h.0 (subst (IsToBlame d) (sym (grind arith)) blame)
of_one d (x ∷ js) h (suc i) j here blame = of_one d js h.1 i j here blame

set_none : (d : Direction) (js : List Joined) (i : ℕ) (x : Joined) → NoneOf d js → (IsToBlame d x → ⊥) → NoneOf d (set js i x)
set_none d [] i x h k = tt
set_none d (j ∷ js) zero x h k = (k, h.1)
set_none d (j ∷ js) (suc i) x h k = (h.0, set_none d js i x h.1 k)

of_set : (d : Direction) (js : List Joined) (i : ℕ) (j x : Joined) → slice_get js i ≡ Some j → NoneOf d (set js i x) → IsToBlame d x → ⊥
of_set d [] i j x here h = absurd (let no : None ≡ Some j = here in cc)
of_set d (y ∷ js) zero j x here h = h.0
of_set d (y ∷ js) (suc i) j x here h = of_set d js i j x here h.1

more_none : (d : Direction) (js : List Joined) (x : Joined) → NoneOf d js → (IsToBlame d x → ⊥) → NoneOf d (js ++ x ∷ [])
more_none d [] x h k = (k, tt)
more_none d (j ∷ js) x h k = (h.0, more_none d js x h.1 k)

of_last : (d : Direction) (js : List Joined) (x : Joined) → NoneOf d (js ++ x ∷ []) → IsToBlame d x → ⊥
of_last d [] x h = h.0
of_last d (j ∷ js) x h = of_last d js x h.1

-- ---- nobody of all connections

record NoneIs (d : Direction) (s : Sessions) : Type 0 where
  live : NoneOf d s.live
  done : NoneOf d s.done

changed_none : (d : Direction) (i : ℕ) (f : Joined → Joined) (s t : Sessions) (o p : Option Joined) → slice_get s.live i ≡ o →
    slice_get t.live i ≡ p → BothAt o p → ((j w : Joined) → IsJudgedOf j w → IsJudgedOf (f j) (f w)) →
    ((j : Joined) → is_over (f j).room ≡ true → IsToBlame d (f j) → IsToBlame d j) → NoneIs d s → NoneIs d (changed i f t p) →
    NoneIs d (changed i f s o)
changed_none d i f s t None p here there both step back before after = before
changed_none d i f s t (Some j) None here there both step back before after = absurd both
changed_none d i f s t (Some j) (Some w) here there both step back before after = record {
  live = set_none d s.live i (f j) before.live
      (either_way d (f j) (f w) (step j w both) (of_set d t.live i w (f w) there after.live)
      (λ over blame. of_one d s.live before.live i j here (back j over blame)));
  done = before.done;
}

placed_none : (d : Direction) (i : ℕ) (j w : Joined) (s t : Sessions) (o p : Option Joined) → slice_get s.live i ≡ o →
    slice_get t.live i ≡ p → BothAt o p → IsJudgedOf j w → (is_over j.room ≡ true → ⊥) → NoneIs d s → NoneIs d (placed i w t p) →
    NoneIs d (placed i j s o)
placed_none d i j w s t None None here there both k goes before after = grind (arith, more_none, either_way, of_last d t.live w after.live)
placed_none d i j w s t None (Some y) here there both k goes before after = absurd both
placed_none d i j w s t (Some x) None here there both k goes before after = absurd both
placed_none d i j w s t (Some x) (Some y) here there both k goes before after =
    search (arith, set_none, either_way, of_set, more_none, of_one)

goes_on : (most : ℕ) (room : Room) → room ≡ Octets most → is_over room ≡ true → ⊥
goes_on most room is over = absurd (let no : false ≡ true = sym (ap is_over is) ∙ over in cc)

module _ (most : ℕ) (d e : Direction) (at : ℕ) (v : Value) (s t : Sessions) (h : AreBounded most s t) (before : NoneIs d s) where
  at_so : (m : Meaning) (i : ℕ) → NoneIs d (taken_at e at v m i t) → NoneIs d (taken_at e at v m i s)
  at_so meaning.Asks i after = search (arith, placed_none, at_place, asked_so, goes_on)
  at_so meaning.Opens i after = search (arith, changed_none, at_place, meant_so, meant_blame)
  at_so meaning.Closes i after = search (arith, changed_none, at_place, meant_so, meant_blame)
  at_so (meaning.Adds end) i after = search (arith, changed_none, at_place, meant_so, meant_blame)
  at_so meaning.Nothing i after = search (arith, changed_none, at_place, meant_so, meant_blame)

  taken_so : (m : Meaning) (place : Option ℕ) → NoneIs d (taken e at v m place t) → NoneIs d (taken e at v m place s)
  taken_so m place after = grind (arith, at_so)

none_listed : (d : Direction) (s : Sessions) → NoneIsToBlame d s → NoneIs d s
none_listed d s h = record { live = listed d s.live h.live; done = listed d s.done h.done }

pub taken_none : (most : ℕ) (d e : Direction) (at : ℕ) (v : Value) (s t : Sessions) → AreBounded most s t → (m : Meaning)
    (place : Option ℕ) → NoneIsToBlame d s → NoneIsToBlame d (taken e at v m place t) → NoneIsToBlame d (taken e at v m place s)
taken_none most d e at v s t h m place before after =
    let none = taken_so most d e at v s t h (none_listed d s before) m place (none_listed d (taken e at v m place t) after) in
    search (arith, of_one)
