-- No unit of a whole end is a break as it passes, as long as the other side is judged: what the proofs of transport say of it.
-- For the laws that an end is blamed nowhere.
use Rattle.osi_blameless.proofs.Vocabulary.{false, true, ◌≡◌, ◌⊎◌, ◌∷◌, List, Some, Local, Value, Direction, Left, Right, Finding, Broke}
use Rattle.osi_blameless.proofs.Vocabulary.{Outside, Kept, NotJudged, TooMany, Zero, is_stopped, takes, Event, HappenAlong, Whole}
use Rattle.osi_blameless.proofs.Vocabulary.{calls_from, way_of, arith}
use Rattle.osi_blameless.proofs.transport.by_line.an_end_is_fair as by_line
use Rattle.osi_blameless.proofs.transport.by_place.an_end_is_fair as by_place
use Rattle.osi_blameless.proofs.transport.by_place.an_end_is_fair_in_class_0 as by_place_in_class_0
use Rattle.osi_rules.specs.Sides as sides
use Rattle.osi_blameless.specs.transport.Wholes.{begin}

-- this is no break
abbrev pub IsNoBreak : Finding → Type 0
IsNoBreak (Broke rule) = ⊥
IsNoBreak Outside = ⊥
IsNoBreak _ = Unit {0}

right_or_not_judged : {A : Type 0} (f : Finding) → (f ≡ Kept) ⊎ ((f ≡ NotJudged) × A) → IsNoBreak f
right_or_not_judged f h = grind arith

right_or_too_many : {A : Type 0} (f : Finding) → (f ≡ Kept) ⊎ ((f ≡ TooMany) ⊎ ((f ≡ NotJudged) × A)) → IsNoBreak f
right_or_too_many f h = grind arith

-- no unit of a whole end is a break as it passes, as long as the other side is judged
pub is_fair : (d : Direction) (local : Local) (events : List Event) (w : Whole) (unit : Value) (rest : List Value) →
    HappenAlong (way_of d) (begin (calls_from d) local) events w → w.begun ≡ true → w.put ≡ unit ∷ rest →
    is_stopped (sides.other (way_of d)) w.judge.course ≡ false → IsNoBreak (takes (way_of d) unit w.judge).told.finding
is_fair Left local events w unit rest along begun put judged =
    right_or_too_many _ (by_line.end_is_fair local events w unit rest along begun put judged)
is_fair Right local events w unit rest along begun put judged =
    right_or_not_judged _ (by_place.end_is_fair local events w unit rest along begun put judged)

-- in class 0 each is right, as long as its own side is judged
pub is_right_in_class_0 : (d : Direction) (local : Local) (events : List Event) (w : Whole) (unit : Value) (rest : List Value) →
    HappenAlong (way_of d) (begin (calls_from d) local) events w → w.begun ≡ true → w.put ≡ unit ∷ rest →
    is_stopped (way_of d) w.judge.course ≡ false → w.judge.course.loose ≡ false → w.judge.course.class ≡ Some Zero →
    (takes (way_of d) unit w.judge).told.finding ≡ Kept
is_right_in_class_0 Left local events w unit rest along begun put judged firm zero =
    by_line.fair_in_class_0 local events w unit rest along begun put judged zero
is_right_in_class_0 Right local events w unit rest along begun put judged firm zero =
    by_place_in_class_0.fair_in_class_0 local events w unit rest along begun put judged zero
