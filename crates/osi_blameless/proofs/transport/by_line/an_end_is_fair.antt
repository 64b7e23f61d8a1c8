-- A whole calling end is fair as long as the other side is judged, whatever classes it offers: by its stages.
-- For the law of that name.
use Rattle.osi_blameless.proofs.transport.Vocabulary.{[], arith, begin, Course, Event, false, HappenAlong, Happens, inl, is_stopped, Kept}
use Rattle.osi_blameless.proofs.transport.Vocabulary.{Left, List}
use Rattle.osi_blameless.proofs.transport.Vocabulary.{Local, NotJudged, passes, request, Right, rubbish, Some, sym, takes, TooMany}
use Rattle.osi_blameless.proofs.transport.Vocabulary.{Traffic, true}
use Rattle.osi_blameless.proofs.transport.Vocabulary.{Two, unit as passing, Value, Whole, Zero, ◌∙◌, ◌∷◌, ◌≡◌, ◌⊎◌}
use Rattle.osi_blameless.proofs.transport.class_0.an_end_goes_on_in_class_zero.{zeroed_passes}
use Rattle.osi_blameless.proofs.transport.by_line.an_end_is_fair_in_class_2.{IsFine, Joined, fine_request, first_joined, goes}
use Rattle.osi_blameless.proofs.transport.by_line.an_end_is_fair_in_class_2.{mild_of, next_joined}
use Rattle.osi_blameless.proofs.transport.requests.how_requests_go_on.{Stage, asks, known, zero, answered, ended, quiet, refused, waits}
use Rattle.osi_blameless.proofs.transport.requests.no_request_is_blamed.{Holds as Staged, holds_first, holds_next, is_right}
use Rattle.osi_blameless.proofs.transport.by_line.the_end_is_judged_as_the_other_side_is.{other_judged, own_judged}
use Rattle.osi_blameless.proofs.transport.requests.what_lasts_at_the_judge.{lasts_passing}
use Rattle.osi_blameless.proofs.transport.connections.what_the_other_side_closes.{IsOngoing}
use Rattle.osi_blameless.proofs.transport.what_each_thing_keeps_all_of_them_keep.{along_keeps}

-- as long as the other side is judged, the end is
abbrev IsJudged : Course → Type 0
IsJudged c = c.right_stopped ≡ false → c.left_stopped ≡ false

record Stands (local : Local) (w : Whole) : Type 0 where
  staged : Staged local w
  two : local.class2 ≡ true → Joined local w
  judged : IsJudged w.judge.course

-- ---- the unit that is passing

pub none_put : {A : Type 0} (v : Value) (rest put : List Value) → put ≡ v ∷ rest → put ≡ [] → A
none_put v rest put e none = absurd (cc (sym e ∙ none))

first_of : (u v : Value) (xs ys : List Value) → u ∷ xs ≡ v ∷ ys → v ≡ u
first_of u v xs ys e = cc

going_two : (c : Course) → c.class ≡ Some Two → c.left_stopped ≡ false → c.right_stopped ≡ false → IsOngoing c
going_two c two left right = record { sure = record { left = left; right = right }; two = λ zero. cc (sym two ∙ zero) }

module _ (local : Local) (w : Whole) (v : Value) (rest : List Value) (j : Stands local w) (e : w.put ≡ v ∷ rest) (begun : w.begun ≡ true)
    (right : w.judge.course.right_stopped ≡ false) where
  left : w.judge.course.left_stopped ≡ false
  left = j.judged right

  by_stage : Stage local w → IsFine w v
  by_stage (ended none h) = none_put v rest w.put e none
  by_stage (quiet is none not_begun cs strays judge done dcs) = none_put v rest w.put e none
  by_stage (asks x put is offers cs strays judge done dcs all) =
      let same = first_of v (request x) rest [] (sym e ∙ put) in
      grind (arith, fine_request, left, is_right local x [] w put begun left j.staged.newer (j.staged.stage left))
  by_stage (waits r is none not_begun cs strays judge p o offers waiting dcs) = none_put v rest w.put e none
  by_stage (refused r is none not_begun cs strays judge done dcs u more coming are refusal too) = none_put v rest w.put e none
  by_stage (answered r is none not_begun dcs n x more coming are class has after so z) = none_put v rest w.put e none
  by_stage (zero has z) = inl (zeroed_passes Left w.end w.put w.begun w.judge v rest left e begun z).0
  by_stage (known two seen has) =
      (goes local w (j.two has) v rest e begun (going_two w.judge.course two left right)).fine

  is_fine : IsFine w v
  is_fine = by_stage (j.staged.stage left)

-- ---- whatever happens

own_stays : (local : Local) (w : Whole) (v : Value) (rest : List Value) → Stands local w → w.put ≡ v ∷ rest → w.begun ≡ true →
    IsJudged (takes Left v w.judge).state.course
own_stays local w v rest j e begun right =
    let l = lasts_passing (passing Left v) w.judge in
    own_judged Left v w.judge (mild_of w v (is_fine local w v rest j e begun (l.right right))) (j.judged (l.right right)) right

rubbish_stays : (local : Local) (w : Whole) → Stands local w → IsJudged (passes (rubbish Right) w.judge).course
rubbish_stays local w j right = grind (arith, lasts_passing)

other_stays : (v : Value) (s : Traffic) → IsJudged s.course → IsJudged (takes Right v s).state.course
other_stays v s j right = other_judged Left v s (j ((lasts_passing (passing Right v) s).right right)) right

next_judged : (local : Local) (event : Event) (w new : Whole) → Happens Left event w new → Stands local w → IsJudged new.judge.course
next_judged local event w new is j = search (arith, own_stays, lasts_passing, other_stays, rubbish_stays)

all_stand : (local : Local) (events : List Event) (w new : Whole) → HappenAlong Left w events new → Stands local w → Stands local new
all_stand local = along_keeps (Happens Left) (Stands local) (λ event old new first j. record {
  staged = holds_next local event old new first j.staged;
  two = λ has. next_joined local event old new first (j.two has);
  judged = next_judged local event old new first j;
})

pub end_is_fair : (local : Local) (events : List Event) (w : Whole) (v : Value) (rest : List Value) →
    HappenAlong Left (begin true local) events w → w.begun ≡ true → w.put ≡ v ∷ rest → is_stopped Right w.judge.course ≡ false →
    ((takes Left v w.judge).told.finding ≡ Kept) ⊎ (((takes Left v w.judge).told.finding ≡ TooMany)
    ⊎ (((takes Left v w.judge).told.finding ≡ NotJudged) × ((w.judge.course.disconnects.strays ≡ true) ⊎ (w.judge.course.loose ≡ true))))
end_is_fair local events w v rest along begun e right =
    is_fine local w v rest (all_stand local events (begin true local) w along (search (arith, first_joined, holds_first))) e begun right

-- ---- in class 0

module _ (local : Local) (w : Whole) (v : Value) (rest : List Value) (e : w.put ≡ v ∷ rest) (begun : w.begun ≡ true)
    (left : w.judge.course.left_stopped ≡ false) (class : w.judge.course.class ≡ Some Zero) where
  zero_by : Stage local w → (takes Left v w.judge).told.finding ≡ Kept
  zero_by (ended none h) = none_put v rest w.put e none
  zero_by (quiet is none not_begun cs strays judge done dcs) = none_put v rest w.put e none
  zero_by (asks x put is offers cs strays judge done dcs all) = grind arith
  zero_by (waits r is none not_begun cs strays judge p o offers waiting dcs) = none_put v rest w.put e none
  zero_by (refused r is none not_begun cs strays judge done dcs u more coming are refusal too) = none_put v rest w.put e none
  zero_by (answered r is none not_begun dcs n x more coming are class_of has after so z) = none_put v rest w.put e none
  zero_by (zero has z) = (zeroed_passes Left w.end w.put w.begun w.judge v rest left e begun z).0
  zero_by (known two seen has) = absurd (cc (sym two ∙ class))

pub fair_in_class_0 : (local : Local) (events : List Event) (w : Whole) (v : Value) (rest : List Value) →
    HappenAlong Left (begin true local) events w → w.begun ≡ true → w.put ≡ v ∷ rest → is_stopped Left w.judge.course ≡ false →
    w.judge.course.class ≡ Some Zero → (takes Left v w.judge).told.finding ≡ Kept
fair_in_class_0 local events w v rest along begun e left class =
    let j = all_stand local events (begin true local) w along (search (arith, first_joined, holds_first)) in
    zero_by local w v rest e begun left class (j.staged.stage left)
