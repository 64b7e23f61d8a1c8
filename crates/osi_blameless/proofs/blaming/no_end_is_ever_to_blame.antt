-- No session of an end is ever to blame, whatever the other side breaks, whichever class is selected; so the first break of all is of the
-- other side. For the laws that no session of an end is to blame after a break, nor blamed first.
use Rattle.osi_blameless.proofs.Vocabulary.{slice_get, ◌⊎◌, ℕ, inl, inr, ◌≡◌, ◌^◌, ◌<◌, List, length, Option, Some, Class, Zero, Local}
use Rattle.osi_blameless.proofs.Vocabulary.{Capture, Direction, other, Holding, IsFresh, IsSeen, Run, Turn, Known, IsToBlame, Joined}
use Rattle.osi_blameless.proofs.Vocabulary.{Sessions, Course, comes_to, AreOctets, differ, BreaksFirst, First, calls_from}
use Rattle.osi_blameless.proofs.steps.a_capture_is_steps.{capture_steps}
use Rattle.osi_blameless.proofs.keeping.in_class_0_one_side_alone_is_judged.{IsLoose}
use Rattle.osi_blameless.proofs.keeping.no_unit_of_an_end_breaks_a_rule.{always_unbroken}
use Rattle.osi_blameless.proofs.small_facts_that_many_lemmas_use.{zero_two}
use Rattle.osi_blameless.proofs.steps.what_the_turns_among_steps_do.{ComesByDoing, comes_by_steps}
use Rattle.osi_blameless.proofs.breaking.an_end_of_class_0_has_begun_what_a_judge_has_joined.{begun_until_two}
use Rattle.osi_blameless.proofs.standing.nobody_of_a_side_is_to_blame.{NeverToBlame, NoneIsToBlame}
use Rattle.osi_blameless.proofs.in_class_0.what_an_end_keeps_until_class_2.{StandsUntilTwo, keeps_until_two}
use Rattle.osi_blameless.proofs.in_class_2.what_an_end_keeps_unless_in_class_0.{UnlessZero, keeps_unless_zero}
use Rattle.osi_blameless.proofs.blaming.no_session_is_to_blame_unless_class_2_is_selected.{ends_well}
use Rattle.osi_blameless.proofs.blaming.no_session_is_to_blame_unless_class_0_is_selected.{never_to_blame}
use Rattle.osi_blameless.proofs.blaming.a_loss_is_in_class_2_at_a_judge.{capture_two, firm_in_zero}
use Rattle.osi_blameless.proofs.standing.steps_of_either_class_leave_all_standing.{zero_by}
use Rattle.osi_blameless.proofs.blaming.the_first_break_of_all_is_of_the_other_side.{IsUnblamed, capture_unblamed, first_of_all}
use Rattle.osi_blameless.proofs.shown.a_session_that_is_shown_is_not_to_blame.{SessionLaws}

pub none_among : (d : Direction) (s : Sessions) (i : ℕ) (j : Joined) → NoneIsToBlame d s →
    (slice_get s.live i ≡ Some j) ⊎ (slice_get s.done i ≡ Some j) → IsToBlame d j → ⊥
none_among d s i j none (inl here) = none.live i j here
none_among d s i j none (inr here) = none.done i j here

-- no session of this side is ever to blame, and its transport is blamed nowhere
pub record IsBlameless (d : Direction) (c : Course) : Type 0 where
  pub never : NeverToBlame d c
  pub transport : IsUnblamed d c

-- so the first break of all is of the other side
pub blameless_first : (d : Direction) (f : First) (c : Course) → IsBlameless d c → BreaksFirst f c.past → f.direction ≡ other d
blameless_first d f c h b = first_of_all d f c.past h.never.past h.transport.past b

module _ (known : Known) (laws : SessionLaws) (local : Local) (capture : Capture) where
  abbrev course : Course
  course = (comes_to capture).course

  abbrev selected : Option Class
  selected = course.traffic.course.class

  abbrev NeverIf : Direction → Type 0 → Type 0
  NeverIf d P = (begin : Holding) → IsFresh (calls_from d) local begin → ComesByDoing d (calls_from d) capture begin →
      length course.past < 2 ^ 64 → P → NeverToBlame d course

  -- in class 0 no connection loses its judgement
  by_class_0 : (d : Direction) → selected ≡ Some Zero → NeverToBlame d course ⊎ IsLoose course → NeverToBlame d course
  by_class_0 d zero (inl never) = never
  by_class_0 d zero (inr loose) = differ course.traffic.course.loose loose (firm_in_zero course zero (capture_two capture))

  in_zero : (d : Direction) → NeverIf d (selected ≡ Some Zero)
  in_zero d begin fresh comes few zero =
      by_class_0 d zero
      (ends_well known d local (StandsUntilTwo d local) (keeps_until_two local laws d)
      (begun_until_two d local) begin capture fresh comes (record { not = λ two. zero_two selected zero two; few = few }))

  without : (d : Direction) → NeverIf d (selected ≡ Some Zero → ⊥)
  without d begin fresh comes few not =
      never_to_blame d local (UnlessZero d local) (keeps_unless_zero local laws d) begin
      capture fresh comes (record { not = not; few = few })

  -- ---- so an end is blameless

  pub blameless : (d : Direction) (begin end : Holding) (turns : List Turn) → IsFresh (calls_from d) local begin → Run begin turns end →
      AreOctets capture → IsSeen d turns capture → length course.past < 2 ^ 64 → IsBlameless d course
  blameless d begin end turns fresh run octets seen few =
      let comes = capture_steps known d (calls_from d) local begin end turns capture fresh run octets seen in
      record {
        never = zero_by selected (in_zero d begin fresh comes few) (without d begin fresh comes few);
        transport = capture_unblamed d capture (always_unbroken d local begin capture fresh
            (comes_by_steps d (calls_from d) capture begin comes));
      }
