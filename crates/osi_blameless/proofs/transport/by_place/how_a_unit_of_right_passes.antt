-- A unit of the called side that is right on its connection passes: what the judge has then, by the kind of the unit.
-- For the law on a whole called end.
use Rattle.osi_blameless.proofs.transport.Vocabulary.{[], ap, arith, Bool, confirm, Connect, Connection, Course, course_after, false}
use Rattle.osi_blameless.proofs.transport.Vocabulary.{found_on, is_named}
use Rattle.osi_blameless.proofs.transport.Vocabulary.{Kept, List, Named, None, not, one_told, Option, Outcome, position, Right, route}
use Rattle.osi_blameless.proofs.transport.Vocabulary.{sent_on, set}
use Rattle.osi_blameless.proofs.transport.Vocabulary.{slice_get, Some, takes, Traffic, true, Value, ℕ, ◌&&◌, ◌∙◌, ◌∷◌, ◌≡◌}
use Rattle.osi_carrier.specs.State.{State}
use Rattle.osi_blameless.proofs.transport.small_facts_that_many_lemmas_use.{first_is, rest_is}
use Rattle.osi_blameless.proofs.transport.by_place.each_connection_has_its_place.{AreAbove, AreStrays}
use Rattle.osi_blameless.proofs.transport.connections.units_by_their_place.{Placed, values}

-- ---- small facts

pub no_list : {A : Type 0} (v : Value) (vs l : List Value) → l ≡ v ∷ vs → l ≡ [] → A
no_list v vs l h e = absurd (cc)

pub use_so : (a b c : Bool) → c ≡ false → (not a && (not b && c)) ≡ false
use_so a b c h = grind arith

-- ---- a unit of right that names a connection

module _ (u : Value) (s : Traffic) (n p : ℕ) (c : Connection) (right : s.course.right_stopped ≡ false)
    (named : route Right s.course u ≡ Named n) (first : position (is_named Right n) s.connections ≡ Some p)
    (at : slice_get s.connections p ≡ Some c) where
  pub takes_so : takes Right u s ≡ one_told Right p c u s
  takes_so = grind arith

  module _ (kept : found_on Right s c u ≡ Kept) where
    pub finding_kept : (takes Right u s).told.finding ≡ Kept
    finding_kept = ap (λ (o : Outcome). o.told.finding) takes_so ∙ kept

    pub conns_kept : (takes Right u s).state.connections ≡ set s.connections p (sent_on Right u c)
    conns_kept = grind (arith, takes_so)

    pub course_kept : (takes Right u s).state.course ≡ course_after Right c u true s.course
    course_kept = grind (arith, takes_so)

-- ---- the course after it

pub class_seen_same : (c : Connection) (u : Value) (course : Course) → (course_after Right c u true course).class_seen ≡ course.class_seen
class_seen_same c u course = grind arith

pub strays_more : (shut : ℕ → Bool) (end : State) (refs : ℕ → Option ℕ) (home : ℕ → ℕ) (a b : Bool) (ts : List Placed) →
    (b ≡ false → a ≡ false) → AreStrays shut end refs home a ts → AreStrays shut end refs home b ts
strays_more shut end refs home a b [] h k = tt
strays_more shut end refs home a b ((None, v) ∷ ts) h (one, more) = grind (arith, strays_more shut end refs home a b ts h more)
strays_more shut end refs home a b ((Some p, v) ∷ ts) h (one, more) = (tt, strays_more shut end refs home a b ts h more)

-- ---- the first unit and its place

pub record Head (u : Value) (rest : List Value) (ts : List Placed) : Type 0 where
  pub o : Option ℕ
  pub later : List Placed
  pub is : ts ≡ (o, u) ∷ later
  pub values_are : rest ≡ values later

pub head_of : (u : Value) (rest : List Value) (ts : List Placed) → u ∷ rest ≡ values ts → Head u rest ts
head_of u rest [] e = absurd (cc e)
head_of u rest ((o, v) ∷ ts) e = search (arith, first_is, rest_is)

pub above_next : (given n : ℕ) (v : Value) (vs : List Value) → ((m : ℕ) (x : Connect) → v ≡ confirm m x → ⊥) → AreAbove given n (v ∷ vs) →
    AreAbove given n vs
above_next given n v vs none h = grind arith
