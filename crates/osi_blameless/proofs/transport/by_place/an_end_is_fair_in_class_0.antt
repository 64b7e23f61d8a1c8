-- A whole called end is fair in class 0 as long as it is judged, also after the judging of the other side has ended.
-- For the law on a whole called end.
use Rattle.osi_blameless.proofs.transport.Vocabulary.{ap, arith, arrives, begin, begins_other, begins_own, Bool, calls, Class, Course}
use Rattle.osi_blameless.proofs.transport.Vocabulary.{Event, false}
use Rattle.osi_blameless.proofs.transport.Vocabulary.{HappenAlong, Happens, is_stopped, Kept, List, Local, None, Option, passes_rubbish}
use Rattle.osi_blameless.proofs.transport.Vocabulary.{refl, Right, Some}
use Rattle.osi_blameless.proofs.transport.Vocabulary.{subst, sym, takes, true, Two, Value, Whole, Zero, ◌∙◌, ◌∷◌, ◌≡◌, ◌⊎◌}
use Rattle.osi_blameless.specs.transport.Wholes.{passes_other, passes_own}
use Rattle.osi_blameless.proofs.transport.small_facts_that_many_lemmas_use.{differ}
use Rattle.osi_blameless.proofs.transport.by_place.an_end_is_fair.{Joined, Stage, first_joined, lines, mild, next_joined, passes_stage}
use Rattle.osi_blameless.proofs.transport.by_place.an_end_is_fair.{selected}
use Rattle.osi_blameless.proofs.transport.by_place.an_end_is_fair.{selecting}
use Rattle.osi_blameless.proofs.transport.by_line.the_end_is_judged_as_the_other_side_is.{alone_zero, other_kept}
use Rattle.osi_blameless.proofs.transport.class_0.an_end_goes_on_in_class_zero.{IsZeroed, zeroed_begins, zeroed_calls, zeroed_elsewhere}
use Rattle.osi_blameless.proofs.transport.class_0.an_end_goes_on_in_class_zero.{zeroed_passes}
use Rattle.osi_blameless.proofs.transport.class_0.an_end_goes_on_in_class_zero.{zeroed_refused, zeroed_takes}
use Rattle.osi_blameless.proofs.transport.class_0.what_comes_to_an_end_of_class_zero.{selected_comes}
use Rattle.osi_blameless.proofs.transport.names.what_keeps_names_apart.{AreApart}
use Rattle.osi_blameless.proofs.transport.requests.what_lasts_at_the_judge.{lasts_happening}
use Rattle.osi_blameless.proofs.transport.connections.which_unit_of_the_other_side_passes.{IsCalm}
use Rattle.osi_blameless.proofs.transport.what_each_thing_keeps_all_of_them_keep.{along_keeps}

-- ---- whatever happens

abbrev IsZeroAt : Whole → Type 0
IsZeroAt w = IsZeroed Right w.end w.put w.begun w.judge

zeroed_next : (event : Event) (w new : Whole) → Happens Right event w new → AreApart w.judge.connections →
    w.judge.course.right_stopped ≡ false → IsZeroAt w → IsZeroAt new
zeroed_next arrives w new (u, coming, is) apart right f = subst IsZeroAt (sym is) (zeroed_takes Right w.end w.put w.begun w.judge f u)
zeroed_next (calls call) w new (may, is) apart right f =
    subst IsZeroAt (sym is) (zeroed_calls Right w.end w.put w.begun w.judge f call may)
zeroed_next begins_own w new (some, not_begun, is) apart right f =
    subst IsZeroAt (sym is) (zeroed_begins Right w.end w.put w.begun w.judge f)
zeroed_next passes_own w new (v, (put, begun, is)) apart right f =
    subst IsZeroAt (sym is) (zeroed_passes Right w.end w.put w.begun w.judge v new.put right put begun f).1
zeroed_next begins_other w new is apart right f = subst IsZeroAt (sym is) (zeroed_elsewhere Right w.end w.put w.begun w.judge f)
zeroed_next (passes_other v) w new (ranges, is) apart right f =
    subst IsZeroAt (sym is) (selected_comes w.end w.put w.begun w.judge f apart v)
zeroed_next passes_rubbish w new is apart right f = subst IsZeroAt (sym is) (zeroed_refused Right w.end w.put w.begun w.judge f)

-- ---- the other side is not judged any more, and the end is

abbrev Alone : Whole → Type 0
Alone w = w.judge.course.right_stopped ≡ false → w.judge.course.left_stopped ≡ true → IsZeroAt w

not_zero : {A : Type 0} (k : Option Class) → k ≡ Some Zero → (k ≡ None) ⊎ (k ≡ Some Two) → A
not_zero k h l = grind arith

-- in class 0 the CC has passed
by_class : (local : Local) (w : Whole) → w.judge.course.class ≡ Some Zero → Stage local w → IsZeroAt w
by_class local w h (lines f c named) = not_zero w.judge.course.class h f.class
by_class local w h (selecting z) = absurd (cc (sym h ∙ z.class))
by_class local w h (selected z) = z

by_seen_class : (local : Local) (w : Whole) → w.judge.course.class_seen ≡ Some Zero → Stage local w → IsZeroAt w
by_seen_class local w h (lines f c named) = not_zero w.judge.course.class_seen h f.class_seen
by_seen_class local w h (selecting z) = absurd (cc (sym h ∙ z.class_seen))
by_seen_class local w h (selected z) = z

calm_so : (w : Whole) → w.judge.course.right_stopped ≡ false → w.judge.course.left_stopped ≡ false → IsCalm w.judge.course
calm_so w right left = record { left = left; right = right }

-- only what it sends in class 0 ends its judging alone
alone_first : (local : Local) (event : Event) (w new : Whole) → Happens Right event w new → Joined local w →
    w.judge.course.right_stopped ≡ false → w.judge.course.left_stopped ≡ false → new.judge.course.right_stopped ≡ false →
    new.judge.course.left_stopped ≡ true → w.judge.course.class_seen ≡ Some Zero
alone_first local arrives w new (u, coming, is) j right was still left = grind (arith, differ)
alone_first local (calls call) w new (may, is) j right was still left = grind (arith, differ)
alone_first local begins_own w new (some, not_begun, is) j right was still left = grind (arith, differ)
alone_first local passes_own w new (v, (put, begun, is)) j right was still left =
    let calm = calm_so w right was in
    let course_is = ap (λ (x : Whole). x.judge.course) (sym is) in
    let kept = other_kept Right v w.judge (mild w v (passes_stage local w j v new.put put begun calm (j.stage calm)).0)
    (ap (λ (c : Course). c.right_stopped) course_is ∙ still) in
    differ w.judge.course.left_stopped (sym kept ∙ ap (λ (c : Course). c.left_stopped) course_is ∙ left) was
alone_first local begins_other w new is j right was still left = grind (arith, differ)
alone_first local (passes_other v) w new (ranges, is) j right was still left = grind (arith, alone_zero)
alone_first local passes_rubbish w new is j right was still left = grind (arith, differ)

next_alone : (local : Local) (event : Event) (w new : Whole) → Happens Right event w new → Joined local w → Alone w → Alone new
next_alone local event w new h j a still left = by w.judge.course.left_stopped refl
  where
    right : w.judge.course.right_stopped ≡ false
    right = (lasts_happening Right event w new h).right still

    by : (b : Bool) → w.judge.course.left_stopped ≡ b → IsZeroAt new
    by true was = zeroed_next event w new h j.sound.apart right (a right was)
    by false was =
        zeroed_next event w new h j.sound.apart right
        (by_seen_class local w (alone_first local event w new h j right was still left) (j.stage (calm_so w right was)))

all_alone : (local : Local) (events : List Event) (w new : Whole) → HappenAlong Right w events new → Joined local w × Alone w →
    Joined local new × Alone new
all_alone local = along_keeps (Happens Right) (λ w. Joined local w × Alone w) (λ event old new first (j, a).
    (next_joined local event old new first j, next_alone local event old new first j a))

zero_so : (local : Local) (w : Whole) → Joined local w → Alone w → (b : Bool) → w.judge.course.left_stopped ≡ b →
    w.judge.course.right_stopped ≡ false → w.judge.course.class ≡ Some Zero → IsZeroAt w
zero_so local w j a true was right zero = a right was
zero_so local w j a false was right zero = by_class local w zero (j.stage (calm_so w right was))

pub fair_in_class_0 : (local : Local) (events : List Event) (w : Whole) (v : Value) (rest : List Value) →
    HappenAlong Right (begin false local) events w → w.begun ≡ true → w.put ≡ v ∷ rest → is_stopped Right w.judge.course ≡ false →
    w.judge.course.class ≡ Some Zero → (takes Right v w.judge).told.finding ≡ Kept
fair_in_class_0 local events w v rest along begun e right zero =
    let (j, a) = all_alone local events (begin false local) w along (first_joined local, λ k left. differ false left refl) in
    (zeroed_passes Right w.end w.put w.begun w.judge v rest right e begun
    (zero_so local w j a w.judge.course.left_stopped refl right zero)).0
