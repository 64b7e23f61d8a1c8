-- Steps of an end of class 2 and of a judge leave all its connections standing, as long as nobody breaks a rule.
-- For the session of each connection of an end.
use Rattle.osi_blameless.proofs.Vocabulary.{arith, ◌≡◌, ◌≢◌, sym, subst, ℕ, ◌^◌, ◌<◌, Bool, true, false, [], ◌++◌, length, Some, slice_get}
use Rattle.osi_blameless.proofs.Vocabulary.{Value, Zero, other, Direction, class_for, is_stopped, takes, Deeds, then_did, Turn, Joined}
use Rattle.osi_blameless.proofs.Vocabulary.{spoken, way_of, heard, Joint, Steps, TakesTurn, begins_other, begins_own, passes_own}
use Rattle.osi_blameless.proofs.Vocabulary.{calls_from}
use Rattle.osi_blameless.specs.ends.Courses.{Course}
use Rattle.osi_judge.specs.Courses.{Course as Passed}
use Rattle.osi_blameless.proofs.keeping.no_unit_of_a_whole_end_is_a_break.{IsNoBreak}
use Rattle.osi_blameless.proofs.shown.a_right_dt_has_one_place.{AreUsedApart}
use Rattle.osi_blameless.proofs.standing.a_turn_leaves_all_standing.{Turns, all_turn}
use Rattle.osi_blameless.proofs.standing.all_connections_stand.{AllStand, all_begin_other, all_begin_own}
use Rattle.osi_blameless.proofs.standing.what_passes_leaves_all_standing.{IsReady, LinksGoOn, own_stands}
use Rattle.osi_blameless.proofs.standing.what_stands_of_a_connection.{Known}

-- all connections stand at a judge, beside what was done at the end
pub record Standing (d : Direction) (deeds : ℕ → Deeds) (known : Known) (j : Joint) : Type 0 where
  pub all : AllStand d deeds known j.put j.begun j.judge.traffic j.judge.sessions

-- A side is judged, in class 2 or before a class is known, and this unit of it is no break. If it is a DT or an AK, not all judging ends.
pub record IsProper (d : Direction) (v : Value) (c : Passed) : Type 0 where
  pub goes : is_stopped (way_of d) c.traffic.course ≡ false
  pub two : class_for (way_of d) c.traffic.course ≢ Some Zero
  pub none : IsNoBreak (takes (way_of d) v c.traffic).told.finding
  pub links : LinksGoOn d v c.traffic

module _ (d : Direction) (deeds : ℕ → Deeds) (known : Known) where
  pub step_begins_own : (old new : Joint) → Steps d begins_own old new →
      ((r : ℕ) → Course (calls_from d) r (deeds r) old.end.end) →
      ((i : ℕ) (j : Joined) → slice_get old.judge.sessions.live i ≡ Some j → length (heard (spoken (other d) j)) < 2 ^ 64) →
      Standing d deeds known old → Standing d deeds known new
  step_begins_own old new step courses few h =
      subst (Standing d deeds known) (sym step.2) (record {
        all = all_begin_own d deeds known old.put old.end.end old.judge.traffic old.judge.sessions courses few
            (subst (λ (b : Bool). AllStand d deeds known old.put b old.judge.traffic old.judge.sessions) step.1 h.all);
      })

  pub step_begins_other : (old new : Joint) → Steps d begins_other old new → Standing d deeds known old → Standing d deeds known new
  step_begins_other old new step h =
      grind (arith, all_begin_other d deeds known old.put old.begun old.judge.traffic old.judge.sessions h.all)

  pub step_passes_own : (at : ℕ) (unit : Value) (old new : Joint) → Steps d (passes_own at unit) old new → IsProper d unit old.judge →
      AreUsedApart d old.judge.traffic.connections → IsReady d deeds known unit new.put old.judge.traffic old.judge.sessions →
      Standing d deeds known old → Standing d deeds known new
  step_passes_own at unit old new step proper apart ready h =
      subst (Standing d deeds known) (sym step.2.2) (record {
        all = own_stands d deeds known at unit new.put old.judge apart proper.goes proper.two proper.none proper.links ready
            (grind arith);
      })

  -- what a turn of the end does
  pub step_turns : (turn : Turn) (more : ℕ → Deeds) (then_known : Known) (old new : Joint) (step : TakesTurn turn old new) →
      (old.begun ≡ true → old.put ≢ []) → Turns d more known then_known step.units old.judge.traffic old.judge.sessions →
      Standing d deeds known old → Standing d (λ r. then_did (deeds r) (more r)) then_known new
  step_turns turn more then_known old new step some turns h =
      let after : ℕ → Deeds = λ r. then_did (deeds r) (more r) in
      let all : AllStand d after then_known (old.put ++ step.units) old.begun old.judge.traffic old.judge.sessions =
      all_turn d deeds more known then_known old.put step.units old.begun old.judge.traffic old.judge.sessions some turns h.all in
      grind arith
