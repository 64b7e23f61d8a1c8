-- Steps after what nobody can read keep a claim on what has passed; and a unit of an end that alone is judged, in class 0, is right.
-- For the law that no session of an end is to blame after a break.
use Rattle.osi_blameless.proofs.Vocabulary.{◌≡◌, ℕ, List, [], ◌∷◌, sym, ap, subst, Value, Local, other, Direction, Kept, calls_from}
use Rattle.osi_blameless.proofs.Vocabulary.{takes, Course, way_of, Joint, Step, Steps, begins_other, begins_own, passes_other}
use Rattle.osi_blameless.proofs.Vocabulary.{passes_own, turns, LaterAlong, LaterSteps, StepsAlong, units_by}
use Rattle.osi_blameless.specs.transport.Wholes as wholes
use Rattle.osi_blameless.proofs.keeping.in_class_0_one_side_alone_is_judged.{IsAlone}
use Rattle.osi_blameless.proofs.keeping.steps_are_events.{whole_of, IsFollowed}
use Rattle.osi_blameless.proofs.keeping.no_unit_of_a_whole_end_is_a_break.{is_right_in_class_0}
use Rattle.osi_blameless.proofs.steps.what_passes_keeps_a_claim.{IsClaim, step_kept, units_kept}
use Rattle.osi_blameless.proofs.transport.what_each_thing_keeps_all_of_them_keep.{along_keeps}

-- ---- steps one after the other

-- each step is one after what can't be read too
pub later_too : (d : Direction) (step : Step) (old new : Joint) → Steps d step old new → LaterSteps d step old new
later_too d (turns turn) old new t = t
later_too d begins_own old new step = step
later_too d begins_other old new step = step
later_too d (passes_own at v) old new step = step
later_too d (passes_other at packet units) old new (octets, read, is) = (octets, ap units_by read, is)

pub along_too : (d : Direction) (steps : List Step) (old new : Joint) → StepsAlong d old steps new → LaterAlong d old steps new
along_too d [] old new is = is
along_too d (step ∷ steps) old new (mid, one, more) = (mid, later_too d step old mid one, along_too d steps mid new more)

-- what a unit or a packet keeps
later_one : (P : Course → Type 0) → IsClaim P → (d : Direction) (step : Step) (old new : Joint) → LaterSteps d step old new →
    P old.judge → P new.judge
later_one P k d (turns turn) old new t h = step_kept P k d (turns turn) old new t h
later_one P k d begins_own old new is h = step_kept P k d begins_own old new is h
later_one P k d (passes_own at v) old new is h = step_kept P k d (passes_own at v) old new is h
later_one P k d begins_other old new is h = step_kept P k d begins_other old new is h
later_one P k d (passes_other at packet units) old new (octets, read, is) h =
    subst (λ (j : Joint). P j.judge) (sym is) (units_kept P k (other d) at units old.judge h)

pub later_kept : (P : Course → Type 0) → IsClaim P → (d : Direction) (steps : List Step) (old new : Joint) → LaterAlong d old steps new →
    P old.judge → P new.judge
later_kept P k d = along_keeps (LaterSteps d) (λ j. P j.judge) (later_one P k d)

pub own_alone : (d : Direction) (local : Local) (at : ℕ) (v : Value) (old new : Joint) → Steps d (passes_own at v) old new →
    IsFollowed d (wholes.begin (calls_from d) local) old → IsAlone d old.judge →
    (takes (way_of d) v old.judge.traffic).told.finding ≡ Kept
own_alone d local at v old new (read, octets, (put, begun, is)) f a =
    is_right_in_class_0 d local f.events (whole_of f) v new.put f.along begun put a.own a.firm a.zero
