-- No session of an end is to blame, whatever the other side breaks, as long as class 0 is not selected: what stands of an end at each step
-- stands also after a connection of class 2 has lost its judgement.
-- For the law that no session of an end is to blame after a break.
use Rattle.osi_blameless.proofs.Vocabulary.{◌≡◌, ◌∙◌, ◌⊎◌, inl, inr, refl, sym, subst, ℕ, List, arith, [], Option, Value, Class, Zero}
use Rattle.osi_blameless.proofs.Vocabulary.{Local, Capture, other, Direction, Reach, class_for, takes, Deeds, Holding, IsFresh}
use Rattle.osi_blameless.proofs.Vocabulary.{Cause, units_pass, unread, way_of, comes_to, Joint, Step, calls_from, LaterAlong, spoilt, Some}
use Rattle.osi_rules.specs.declared.findings.Reach.TheVariants as reach
use Rattle.osi_blameless.specs.Packets.{units_in}
use Rattle.osi_judge.specs.Courses.{Course as Passed}
use Rattle.osi_blameless.specs.Spoilt.{GoesOn}
use Rattle.osi_blameless.proofs.keeping.a_break_ends_no_judging_or_all.{IsGoing, nothing_goes, part_goes, side_known}
use Rattle.osi_blameless.proofs.steps.all_is_judged_or_nothing.{IsOver}
use Rattle.osi_blameless.proofs.keeping.an_end_that_is_judged_alone_stays_so.{later_kept}
use Rattle.osi_blameless.proofs.steps.what_the_turns_among_steps_do.{ComesByDoing}
use Rattle.osi_blameless.proofs.blaming.each_step_keeps_an_end_blameless.{Comes, IsDone, RestsSo, SoFar, Stood, all_done, at_last, ended}
use Rattle.osi_blameless.proofs.blaming.each_step_keeps_an_end_blameless.{done_claim, goes, is_done, is_taken, rested}
use Rattle.osi_blameless.proofs.standing.nobody_of_a_side_is_to_blame.{NeverToBlame, never_unread}
use Rattle.osi_blameless.proofs.in_class_2.what_is_asked_of_what_holds_at_each_step.{IsTakenOn, IsWithout, Keeps, knows_zero, lasts_so}
use Rattle.osi_blameless.proofs.in_class_2.what_is_asked_of_what_holds_at_each_step.{side_goes}

-- nothing else ever holds
abbrev NoRest : Joint → Type 0
NoRest j = ⊥

module _ (d : Direction) (local : Local) (Inv : (ℕ → Deeds) → Joint → Type 0) (k : Keeps Zero d local Inv) where
  -- ---- a unit of the other side

  module _ (at : ℕ) (front : List Value) (v : Value) (old : Passed) (so : SoFar Zero d at front old) (new : Joint) where
    abbrev c : Passed
    c = units_pass (other d) at front old

    abbrev how_far : Reach
    how_far = (takes (way_of (other d)) v c.traffic).told.reach

    taken_on : (how_far ≡ reach.Everything → ⊥) → IsTakenOn d v c
    taken_on far = record {
      goes = side_goes (other d) c so.judged;
      lasts = lasts_so Zero c so.judged so.not;
      two = λ zero. so.not (knows_zero (other d) c so.sure zero);
      far = far;
      loses = λ part. so.never.now;
    }

    one_by : (r : Reach) → how_far ≡ r → Comes Zero d NoRest at v c new
    one_by reach.Nothing far =
        is_taken (taken_on (λ all. let no : reach.Nothing ≡ reach.Everything = sym far ∙ all in cc))
        (nothing_goes (other d) at v c far so.judged)
    one_by reach.Connection far =
        is_taken (taken_on (λ all. let no : reach.Connection ≡ reach.Everything = sym far ∙ all in cc))
        (part_goes (other d) at v c far so.judged)
    one_by reach.Side far = absurd (so.not (side_known (other d) at v c far (so.sure.agrees Zero)))
    one_by reach.Everything far = is_done (all_done d (other d) at v c far so.never)

  so_rests : RestsSo Zero d local Inv k NoRest
  so_rests = record {
    unit = λ deeds old g at octets front back v all read so followed.
        one_by at front v old.judge so _ (takes (way_of (other d)) v (units_pass (other d) at front old.judge).traffic).told.reach refl;
    step = λ step old new does few none. none;
  }

  -- ---- the capture

  abbrev StoodAt : Joint → Type 0
  StoodAt j = Stood Zero d local Inv k NoRest so_rests j

  never_so : (j : Joint) → StoodAt j → NeverToBlame d j.judge
  never_so j (deeds, goes g) = g.never
  never_so j (deeds, ended s) = s.never
  never_so j (deeds, rested none) = absurd none

  -- the other side sends what can't be read, and then anything passes
  module _ (at : ℕ) (cause_is : Cause) (packets : List (List ℕ)) (none_in : units_in packets ≡ []) (j : Joint)
      (within : IsWithout Zero j.judge) where
    abbrev bad : Joint
    bad = spoilt d at cause_is packets j

    over_by : (x : Option Class) → IsGoing j.judge → class_for (way_of (other d)) j.judge.traffic.course ≡ x →
        (class_for (way_of (other d)) j.judge.traffic.course ≡ Some Zero → ⊥) → IsOver (unread (other d) at cause_is j.judge)
    over_by x going is not = grind arith

    unread_so : StoodAt j → IsDone d bad.judge
    unread_so (deeds, goes g) = record {
      over = over_by (class_for (way_of (other d)) j.judge.traffic.course) g.judged refl
          (λ zero. within.not (knows_zero (other d) j.judge g.sure zero));
      never = never_unread d (other d) at cause_is j.judge g.never;
    }
    unread_so (deeds, ended s) = (done_claim d).bad (other d) at cause_is j.judge s
    unread_so (deeds, rested none) = absurd none

    after_bad : (steps : List Step) (end : Joint) → LaterAlong d bad steps end → StoodAt j → NeverToBlame d end.judge
    after_bad steps end along s =
        let last = later_kept (IsDone d) (done_claim d) d steps bad end along (unread_so s) in last.never

  pub never_to_blame : (h : Holding) (capture : Capture) → IsFresh (calls_from d) local h → ComesByDoing d (calls_from d) capture h →
      IsWithout Zero (comes_to capture).course → NeverToBlame d (comes_to capture).course
  never_to_blame h capture fresh comes within = by comes.on
    where
      last : IsWithout Zero comes.last.judge × StoodAt comes.last
      last = at_last Zero d local Inv k NoRest so_rests h capture fresh comes within

      by : ((comes_to capture).course ≡ comes.last.judge) ⊎ GoesOn d capture comes.last → NeverToBlame d (comes_to capture).course
      by (inl is) = subst (NeverToBlame d) (sym is) (never_so comes.last last.1)
      by (inr g) = subst (NeverToBlame d) (sym g.all)
          (after_bad g.at g.cause g.packets g.none comes.last last.0 g.steps g.end g.along last.1)
