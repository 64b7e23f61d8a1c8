-- A unit that an end of class 2 puts is for one of its connections alone: each that it has open has a place at the judge, and there no two
-- have one reference of the other side.
-- For all connections of an end and a judge.
use Rattle.osi_blameless.proofs.Vocabulary.{◌≡◌, ◌∙◌, refl, ap, ℕ, ◌<◌, Bool, true, false, List, [], ◌∷◌, Option, Some, arith, ◌==◌}
use Rattle.osi_blameless.proofs.Vocabulary.{slice_get, AllByRecursion, eq-eqb, eqb-true, Value, acknowledge, confirm, data0, data2}
use Rattle.osi_blameless.proofs.Vocabulary.{disconnect, disconnected, error, request, other, Direction, Connection, is_open, own, State}
use Rattle.osi_blameless.proofs.Vocabulary.{Deeds, Marked, all_units, units_at, Joined, Sessions, reference_of, way_of, differ}
use Rattle.osi_blameless.proofs.shown.a_right_dt_has_one_place.{AreUsedApart, one_use}
use Rattle.osi_blameless.proofs.standing.all_connections_stand.{AllStand, one_at}
use Rattle.osi_blameless.proofs.putting.references_of_an_end_are_distinct.{AreDistinct}
use Rattle.osi_blameless.proofs.putting.what_a_turn_puts_waits.{Agree, marks_wait}
use Rattle.osi_blameless.proofs.standing.what_stands_of_a_connection.{Known, is_for, names_it, waiting_for}
use Rattle.osi_blameless.proofs.small_facts_that_many_lemmas_use.{same_one, same_bool}
use Rattle.osi_blameless.proofs.standing.right_units_leave_all_standing.{names_so}

-- a connection with these references, which this end has not closed, at the judge
pub record HasHome (d : Direction) (r peer : ℕ) (s : State) (t : Sessions) : Type 0 where
  pub place : ℕ
  pub connection : Connection
  pub joined : Joined
  pub there : slice_get s.connections place ≡ Some connection
  pub here : slice_get t.live place ≡ Some joined
  pub lives : is_open (own (way_of d) connection).phase ≡ true
  pub mine : reference_of d joined ≡ Some r
  pub theirs : reference_of (other d) joined ≡ Some peer

module _ (d : Direction) (deeds : ℕ → Deeds) (known : Known) (put : List Value) (b : Bool) (s : State) (t : Sessions)
    (a : AllStand d deeds known put b s t) (apart : AreUsedApart d s.connections) where
  -- the reference of the other side tells which it is
  pub one_home : (q r peer : ℕ) → HasHome d q peer s t → HasHome d r peer s t → q ≡ r
  one_home q r peer h k =
      let same : h.place ≡ k.place = search (arith, one_use, one_at) in
      grind (arith, same_one)

-- Of a unit that is put: the judge knows its connection by these references, and this end has not closed it there. Or its CC has not
-- passed: then no connection has its reference, and none that is open is for the same reference of the other side.
pub data IsHomed (d : Direction) (q n : ℕ) (s : State) (t : Sessions) : Type 0 where
  known : HasHome d q n s t → IsHomed d q n s t
  unknown : ((i : ℕ) (c : Connection) (j : Joined) → slice_get s.connections i ≡ Some c → slice_get t.live i ≡ Some j →
      is_open (own (way_of d) c).phase ≡ true → reference_of (other d) j ≡ Some n → ⊥) →
      ((i : ℕ) (j : Joined) → slice_get t.live i ≡ Some j → reference_of d j ≡ Some q → ⊥) → IsHomed d q n s t

-- a DT or an AK of class 2 for this reference
abbrev pub IsFor : ℕ → Value → Type 0
IsFor n (data2 m number end user) = m ≡ n
IsFor n (acknowledge credit m number) = m ≡ n
IsFor n (data0 end user) = ⊥
IsFor n (request x) = ⊥
IsFor n (confirm m x) = ⊥
IsFor n (disconnect m source reason user) = ⊥
IsFor n (disconnected m source) = ⊥
IsFor n (error m cause) = ⊥

-- A unit with the mark of a connection is a DT or an AK, with a home; one without is for no connection.
pub data IsMarked (d : Direction) (s : State) (t : Sessions) (m : Marked) : Type 0 where
  of_one : (n : ℕ) → IsFor n m.1 → IsHomed d m.0 n s t → IsMarked d s t m
  of_none : m.0 ≡ 0 → ((o : Option ℕ) → is_for o m.1 ≡ false) → IsMarked d s t m

for_is : (n : ℕ) (v : Value) (o : Option ℕ) → IsFor n v → is_for o v ≡ names_it o n
for_is n v o h = grind (arith, names_it)

names_back : (o : Option ℕ) (n : ℕ) → o ≡ Some n → names_it o n ≡ true
names_back o n e = ap (λ (x : Option ℕ). names_it x n) e ∙ eq-eqb n n refl

module _ (d : Direction) (deeds : ℕ → Deeds) (known_so : Known) (put : List Value) (b : Bool) (s : State) (t : Sessions)
    (a : AllStand d deeds known_so put b s t) (apart : AreUsedApart d s.connections) (distinct : AreDistinct d t) (i : ℕ) (c : Connection)
    (j : Joined) (r : ℕ) (there : slice_get s.connections i ≡ Some c) (here : slice_get t.live i ≡ Some j)
    (mine : reference_of d j ≡ Some r) (live : is_open (own (way_of d) c).phase ≡ true) (some : 0 < r) where
  -- it is of this connection exactly if it is for the reference that the other side gave it
  marked_one : (m : Marked) (n : ℕ) → IsFor n m.1 → IsHomed d m.0 n s t → (m.0 == r) ≡ is_for (reference_of (other d) j) m.1
  marked_one m n is (unknown no_open no_name) = grind (arith, same_bool, is_for, eqb-true, names_so, for_is)
  marked_one m n is (known h) =
      same_bool (m.0 == r) (is_for (reference_of (other d) j) m.1)
      (grind (arith, eqb-true, same_one, for_is, names_back))
      (λ e.
      let home : HasHome d r n s t = grind (arith, names_so, for_is) in
      eq-eqb m.0 r (one_home d deeds known_so put b s t a apart m.0 r n h home))

  marked_agree : (units : List Marked) → AllByRecursion (IsMarked d s t) units → Agree r (reference_of (other d) j) units
  marked_agree [] h = tt
  marked_agree (m ∷ units) h = (by h.0, marked_agree units h.1)
    where
      by : IsMarked d s t m → (m.0 == r) ≡ is_for (reference_of (other d) j) m.1
      by (of_one n is home) = marked_one m n is home
      by (of_none zero_is none) =
          same_bool (m.0 == r) (is_for (reference_of (other d) j) m.1)
          (λ e. let same = eqb-true m.0 r e in absurd (omega (arith, same, zero_is, some)))
          (λ e. differ (is_for (reference_of (other d) j) m.1) e (none (reference_of (other d) j)))

  -- so what the end put there is what waits there now
  pub puts_wait : (units : List Marked) → AllByRecursion (IsMarked d s t) units → (own_put : List Value) → own_put ≡ units_at r units →
      own_put ≡ waiting_for (reference_of (other d) j) (all_units units)
  puts_wait units h own_put is = is ∙ marks_wait r (reference_of (other d) j) units (marked_agree units h)
