-- A unit of an end, of either class, leaves all its connections standing at a judge, if it is no break; and nobody of the end is to blame
-- while they stand. For the session of each connection of an end.
use Rattle.osi_blameless.proofs.Vocabulary.{arith, ◌≡◌, sym, subst, ℕ, Bool, true, false, List, ◌∷◌, Option, Some, Value, Class, Zero}
use Rattle.osi_blameless.proofs.Vocabulary.{Direction, class_for, is_stopped, takes, End}
use Rattle.osi_blameless.proofs.Vocabulary.{Deeds, unit_passes, way_of, Joint, Steps, passes_own, calls_from}
use Rattle.osi_blameless.specs.ends.Courses.{Course}
use Rattle.osi_judge.specs.Courses.{Course as Passed}
use Rattle.osi_blameless.proofs.keeping.no_unit_of_a_whole_end_is_a_break.{IsNoBreak}
use Rattle.osi_blameless.proofs.keeping.what_a_taker_passes_over.{IsMild}
use Rattle.osi_blameless.proofs.standing.a_dt_of_class_0_leaves_all_standing as zero
use Rattle.osi_blameless.proofs.standing.a_turn_leaves_all_standing.{all_blameless}
use Rattle.osi_blameless.proofs.standing.nobody_of_a_side_is_to_blame.{IsMute, NoneIsToBlame, mute_none}
use Rattle.osi_blameless.proofs.shown.a_session_that_is_shown_is_not_to_blame.{SessionLaws}
use Rattle.osi_blameless.proofs.standing.all_connections_stand.{AllStand}
use Rattle.osi_blameless.proofs.standing.each_step_leaves_class_0_one_connection.{Sure, is_zero}
use Rattle.osi_blameless.proofs.standing.steps_leave_all_standing.{Standing}
use Rattle.osi_blameless.proofs.standing.what_passes_leaves_all_standing as two
use Rattle.osi_blameless.proofs.standing.what_passes_leaves_all_standing.{IsReady}
use Rattle.osi_blameless.proofs.standing.what_stands_of_a_connection.{Known}

-- a side is judged, and this unit of it is no break
pub record IsRight (d : Direction) (v : Value) (c : Passed) : Type 0 where
  pub firm : c.traffic.course.loose ≡ false
  pub goes : is_stopped (way_of d) c.traffic.course ≡ false
  pub none : IsNoBreak (takes (way_of d) v c.traffic).told.finding

-- and it is one that its taker passes over, if it is a break
pub record IsTolerable (d : Direction) (v : Value) (c : Passed) : Type 0 where
  pub firm : c.traffic.course.loose ≡ false
  pub goes : is_stopped (way_of d) c.traffic.course ≡ false
  pub mild : IsMild v (takes (way_of d) v c.traffic).told.finding

-- a side knows class 0, or not
abbrev pub InZero : Direction → Passed → Type 0
InZero d c = class_for (way_of d) c.traffic.course ≡ Some Zero

pub zero_by : {A : Type 0} (k : Option Class) → (k ≡ Some Zero → A) → ((k ≡ Some Zero → ⊥) → A) → A
zero_by h f g = grind arith

-- ---- a unit of the end

own_stands : (d : Direction) (deeds : ℕ → Deeds) (known : Known) (at : ℕ) (v : Value) (rest : List Value) (c : Passed) → Sure c →
    IsRight d v c → ((InZero d c → ⊥) → IsReady d deeds known v rest c.traffic c.sessions) →
    AllStand d deeds known (v ∷ rest) true c.traffic c.sessions →
    AllStand d deeds known rest false (unit_passes d at v c).traffic (unit_passes d at v c).sessions
own_stands d deeds known at v rest c sure r ready a =
    zero_by (class_for (way_of d) c.traffic.course)
    (λ h. zero.own_stands d deeds known at v rest c (is_zero d c.traffic sure r.firm r.goes h) r.none a)
    (λ not. two.own_stands_firm d deeds known at v rest c r.firm r.goes not r.none (ready not) a)

pub any_passes_own : (d : Direction) (deeds : ℕ → Deeds) (known : Known) (at : ℕ) (v : Value) (old new : Joint) →
    Steps d (passes_own at v) old new → Sure old.judge → IsRight d v old.judge →
    ((InZero d old.judge → ⊥) → IsReady d deeds known v new.put old.judge.traffic old.judge.sessions) →
    Standing d deeds known old → Standing d deeds known new
any_passes_own d deeds known at v old new step sure right ready h =
    subst (Standing d deeds known) (sym step.2.2) (record {
      all = own_stands d deeds known at v new.put old.judge sure right ready
          (grind arith);
    })

-- ---- nobody is to blame

-- all connections of an end stand, or it has said nothing
pub data StandsOrSilent (d : Direction) (deeds : ℕ → Deeds) (put : List Value) (b : Bool) (c : Passed) : Type 1 where
  all_stand : (known : Known) → AllStand d deeds known put b c.traffic c.sessions → StandsOrSilent d deeds put b c
  silent : IsMute d c.sessions → StandsOrSilent d deeds put b c

pub none_so : (laws : SessionLaws) (d : Direction) (deeds : ℕ → Deeds) (put : List Value) (b : Bool) (e : End) (c : Passed) →
    ((r : ℕ) → Course (calls_from d) r (deeds r) e) → StandsOrSilent d deeds put b c → NoneIsToBlame d c.sessions
none_so laws d deeds put b e c courses (silent m) = mute_none d c.sessions m
none_so laws d deeds put b e c courses (all_stand known a) =
    let (live, done) = all_blameless laws d deeds known put b e courses c.traffic c.sessions a in record { live = live; done = done }
