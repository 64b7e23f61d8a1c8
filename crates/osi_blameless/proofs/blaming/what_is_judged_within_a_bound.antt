-- What a judge with a bound judges of each connection is what a judge without one does, until more has passed than it judges.
-- For the law on such a judge.
use Rattle.osi_blameless.proofs.Vocabulary.{arith, slice_get, ◌≡◌, refl, ap, ℕ, zero, suc, Bool, List, [], ◌∷◌, ◌++◌, length, map, set}
use Rattle.osi_blameless.proofs.Vocabulary.{Option, Some, None, Meaning, Value, offset_of, Direction, All, Octets, Joined, Sessions, adds}
use Rattle.osi_blameless.proofs.Vocabulary.{all_begin, asked, changed, count, placed, taken, taken_at, number_at, number_of, AreJudgedOf}
use Rattle.osi_blameless.proofs.Vocabulary.{IsJudgedOf, SessionsOf, option_map}
use Rattle.osi_rules.specs.declared.findings.Meaning.TheVariants as meaning
use Rattle.osi_judge.specs.Connections.{meant, packet_begins}

-- ---- lists of connections

abbrev pub BothAt : Option Joined → Option Joined → Type 0
BothAt None None = Unit {0}
BothAt None (Some w) = ⊥
BothAt (Some j) None = ⊥
BothAt (Some j) (Some w) = IsJudgedOf j w

pub at_place : (js ws : List Joined) (i : ℕ) → AreJudgedOf js ws → BothAt (slice_get js i) (slice_get ws i)
at_place [] [] i h = tt
at_place [] (w ∷ ws) i h = absurd h
at_place (j ∷ js) [] i h = absurd h
at_place (j ∷ js) (w ∷ ws) zero h = h.0
at_place (j ∷ js) (w ∷ ws) (suc i) h = at_place js ws i h.1

pub as_many : (js ws : List Joined) → AreJudgedOf js ws → length js ≡ length ws
as_many [] [] h = refl
as_many [] (w ∷ ws) h = absurd h
as_many (j ∷ js) [] h = absurd h
as_many (j ∷ js) (w ∷ ws) h = ap suc (as_many js ws h.1)

set_at : (js ws : List Joined) (i : ℕ) (j w : Joined) → IsJudgedOf j w → AreJudgedOf js ws → AreJudgedOf (set js i j) (set ws i w)
set_at [] [] i j w k h = tt
set_at [] (x ∷ ws) i j w k h = absurd h
set_at (x ∷ js) [] i j w k h = absurd h
set_at (x ∷ js) (y ∷ ws) zero j w k h = (k, h.1)
set_at (x ∷ js) (y ∷ ws) (suc i) j w k h = (h.0, set_at js ws i j w k h.1)

one_more : (js ws : List Joined) (j w : Joined) → IsJudgedOf j w → AreJudgedOf js ws → AreJudgedOf (js ++ j ∷ []) (ws ++ w ∷ [])
one_more [] [] j w k h = (k, tt)
one_more [] (x ∷ ws) j w k h = absurd h
one_more (x ∷ js) [] j w k h = absurd h
one_more (x ∷ js) (y ∷ ws) j w k h = (h.0, one_more js ws j w k h.1)

-- ---- a packet begins

all_begun : (d : Direction) (js ws : List Joined) → AreJudgedOf js ws → AreJudgedOf (map (packet_begins d) js) (map (packet_begins d) ws)
all_begun d [] [] h = tt
all_begun d [] (w ∷ ws) h = absurd h
all_begun d (j ∷ js) [] h = absurd h
all_begun d (j ∷ js) (w ∷ ws) h = (grind arith, all_begun d js ws h.1)

-- ---- a DT

-- after one that is judged there was room before it
module _ (d : Direction) (at : ℕ) (end : Bool) (octets : List ℕ) (j w : Joined) (h : IsJudgedOf j w) where
  adds_so : IsJudgedOf (adds d at end octets j) (adds d at end octets w)
  adds_so = search arith

-- ---- a unit for a connection

pub meant_so : (d : Direction) (at : ℕ) (v : Value) (m : Meaning) (j w : Joined) → IsJudgedOf j w →
    IsJudgedOf (meant d at v m j) (meant d at v m w)
meant_so d at v m j w h = grind (arith, adds_so)

-- ---- all connections of a byte connection

pub record AreBounded (most : ℕ) (s t : Sessions) : Type 0 where
  pub of : SessionsOf s t
  pub bound : s.room ≡ Octets most
  pub all : t.room ≡ All

pub begun_bounded : (most : ℕ) (d : Direction) (s t : Sessions) → AreBounded most s t → AreBounded most (all_begin d s) (all_begin d t)
begun_bounded most d s t h = grind (arith, all_begun)

changed_by : (most i : ℕ) (f : Joined → Joined) (s t : Sessions) (o p : Option Joined) → BothAt o p →
    ((j w : Joined) → IsJudgedOf j w → IsJudgedOf (f j) (f w)) → AreBounded most s t → AreBounded most (changed i f s o) (changed i f t p)
changed_by most i f s t o p h step h2 = grind (arith, set_at)

placed_by : (most i : ℕ) (j w : Joined) (s t : Sessions) (o p : Option Joined) → BothAt o p → IsJudgedOf j w → AreBounded most s t →
    AreBounded most (placed i j s o) (placed i w t p)
placed_by most i j w s t o p h k h2 = grind (arith, one_more, set_at)

pub asked_so : (most calling : ℕ) (s t : Sessions) → AreBounded most s t →
    IsJudgedOf (asked (offset_of (count s)) calling s.room) (asked (offset_of (count t)) calling t.room)
asked_so most calling s t h = grind (arith, as_many)

module _ (most : ℕ) (d : Direction) (at : ℕ) (v : Value) (s t : Sessions) (h : AreBounded most s t) where
  at_so : (m : Meaning) (i : ℕ) → AreBounded most (taken_at d at v m i s) (taken_at d at v m i t)
  at_so meaning.Asks i = search (arith, placed_by, at_place, asked_so)
  at_so meaning.Opens i = search (arith, changed_by, at_place, meant_so)
  at_so meaning.Closes i = search (arith, changed_by, at_place, meant_so)
  at_so (meaning.Adds end) i = search (arith, changed_by, at_place, meant_so)
  at_so meaning.Nothing i = search (arith, changed_by, at_place, meant_so)

  pub taken_bounded : (m : Meaning) (place : Option ℕ) → AreBounded most (taken d at v m place s) (taken d at v m place t)
  taken_bounded m None = h
  taken_bounded m (Some i) = at_so m i

-- the number of the one at a place
number_by : (o p : Option Joined) → BothAt o p → option_map number_of o ≡ option_map number_of p
number_by o p h = grind arith

pub same_number : (most : ℕ) (place : Option ℕ) (s t : Sessions) → AreBounded most s t → number_at place s ≡ number_at place t
same_number most place s t h = grind (arith, number_by, at_place)
