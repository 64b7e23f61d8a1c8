-- In class 0 one connection was opened, and each other one was refused: there is one place for a DT of either side.
-- For the session of the connection of an end in class 0.
use Rattle.osi_blameless.proofs.Vocabulary.{ap, Bool, false, is_some, List, not, Some, true, ℕ, ◌&&◌, ◌∙◌, ◌≡◌, position, slice_get, ◌||◌}
use Rattle.osi_blameless.proofs.Vocabulary.{data0, Zero, is_closed, is_closing, is_live, is_open, is_over, is_refused, own, at_found}
use Rattle.osi_blameless.proofs.Vocabulary.{at_place, class_for, is_stopped, one_told, route_zero, routed, Traffic as State, takes}
use Rattle.osi_blameless.proofs.Vocabulary.{Connection, Way, Phase, other, Direction, Joined, reference_of, way_of, only_first, AreJudged}
use Rattle.osi_blameless.proofs.Vocabulary.{NamesApart as AreApart, Sound, IsOneOf, named_by, has_broken, arith, is_false}
use Rattle.osi_rules.specs.Sides as sides
use Rattle.osi_blameless.proofs.transport.small_facts_that_many_lemmas_use.{both}
use Rattle.osi_blameless.proofs.transport.requests.one_request_waits.{open_not_refused}

-- The connection at this place is open for both sides. All others are refused, and left knows that as soon as it knows the class.
pub record IsOnly (s : State) : Type 0 where
  pub place : ℕ
  pub connection : Connection
  pub there : slice_get s.connections place ≡ Some connection
  pub left : is_open connection.left.phase ≡ true
  pub right : is_open connection.right.phase ≡ true
  pub others : (i : ℕ) (e : Connection) → slice_get s.connections i ≡ Some e → (i ≡ place → ⊥) → is_refused e.right.phase ≡ true
  pub known : s.course.class_seen ≡ Some Zero → (i : ℕ) (e : Connection) → slice_get s.connections i ≡ Some e → (i ≡ place → ⊥) →
      is_refused e.seen_by_left.phase ≡ true

-- ---- small facts

over_mine : (p k : Phase) → is_refused p ≡ true →
    (is_refused p || (is_refused k || (is_closed p || (is_closing p && (is_closing k || is_closed k))))) ≡ true
over_mine p k h = grind arith

over_known : (p k : Phase) → is_refused k ≡ true →
    (is_refused p || (is_refused k || (is_closed p || (is_closing p && (is_closing k || is_closed k))))) ≡ true
over_known p k h = grind arith

open_goes : (p k : Phase) → is_open p ≡ true → is_refused k ≡ false →
    (is_refused p || (is_refused k || (is_closed p || (is_closing p && (is_closing k || is_closed k))))) ≡ false
open_goes p k h e = grind arith

and_not : (a b : Bool) → b ≡ false → not (a && b) ≡ true
and_not a b h = grind arith

-- ---- the place

module _ (s : State) (judged : AreJudged s) (firm : s.course.loose ≡ false) (apart : AreApart s.connections) (o : IsOnly s) where
  sound : Sound o.connection
  sound = apart.sound o.place o.connection o.there (judged firm o.place o.connection o.there)

  -- it is over for no side
  pub is_live_there : (d : Way) → is_live d o.connection ≡ true
  is_live_there d = grind (arith, and_not, open_goes, is_false, open_not_refused, sound)

  -- all others are
  others_over : (d : Way) → class_for d s.course ≡ Some Zero → (i : ℕ) (e : Connection) → slice_get s.connections i ≡ Some e →
      (i ≡ o.place → ⊥) → is_over d e ≡ true
  others_over d class i e there apart_from = grind (arith, both, over_known, over_mine)

  pub only_place : (d : Way) → class_for d s.course ≡ Some Zero → position (is_live d) s.connections ≡ Some o.place
  only_place d class = search (arith, only_first, is_live_there, others_over)

-- ---- a unit in class 0

data_routed : (d : Way) (b end : Bool) (user : List ℕ) (s : State) →
    routed d (data0 end user) s (route_zero d b (data0 end user)) ≡ at_place d (data0 end user) s (position (is_live d) s.connections)
data_routed d b end user s = grind arith

-- a DT is for the connection at the one place
pub dt_takes : (d : Way) (end : Bool) (user : List ℕ) (s : State) → AreJudged s → s.course.loose ≡ false → AreApart s.connections →
    (o : IsOnly s) → is_stopped d s.course ≡ false → class_for d s.course ≡ Some Zero →
    takes d (data0 end user) s ≡ one_told d o.place o.connection (data0 end user) s
dt_takes d end user s judged firm apart o goes class =
    (grind arith)
    ∙ data_routed d (has_broken (sides.other d) s.course) end user s
    ∙ ap (at_place d (data0 end user) s) (only_place s judged firm apart o d class)
    ∙ ap (at_found d (data0 end user) s o.place) o.there

-- ---- its references

pub named_open : (p : Phase) (r : ℕ) → is_open p ≡ true → is_some (named_by p r) ≡ true
named_open p r h = grind arith

-- both sides gave it one
pub both_named : (e : Direction) (c : Connection) (j : Joined) → IsOneOf c j → is_open c.right.phase ≡ true →
    is_some (reference_of e j) ≡ true
both_named e c j one h = grind (arith, named_open)

-- a refused one is not open for its called side, and has no reference for its calling side
pub other_none : (d : Direction) (c : Connection) (j : Joined) → IsOneOf c j → is_refused c.right.phase ≡ true →
    is_open (own (way_of d) c).phase ≡ true → is_some (reference_of (other d) j) ≡ false
other_none d c j one refused live = grind (arith, open_not_refused)
