-- At a judge a connection loses its judgement in class 2 alone: in class 0 none has lost it.
-- For the law that no session of an end is blamed after a break of the other side.
use Rattle.osi_blameless.proofs.Vocabulary.{Bool, false, if◌then◌else◌, is_some, Some, subst, sym, ℕ, ◌∙◌, ◌≡◌, Two, Zero, Traffic as State}
use Rattle.osi_blameless.proofs.Vocabulary.{Capture, Direction, way_of, marked, marks_of, moved, unread_mark, unread_moment, comes_to}
use Rattle.osi_blameless.proofs.Vocabulary.{Cause, packet, unit, arith, IsOfTwo, firm_unless_two, still_two, Course}
use Rattle.osi_rules.specs.Traffic as traffic
use Rattle.osi_judge.specs.States.{begin}
use Rattle.osi_blameless.proofs.steps.what_passes_keeps_a_claim.{IsClaim, after_kept}
use Rattle.osi_blameless.proofs.shown.connections_have_the_same_places.{marked_traffic, unit_knows}

abbrev IsOfTwoAt : Course → Type 0
IsOfTwoAt c = IsOfTwo c.traffic.course

bad_by : (b : Bool) (d : Direction) (at : ℕ) (cause : Cause) (c : Course) → IsOfTwoAt c →
    IsOfTwoAt (if b then c else marked (unread_mark d at cause) (traffic.refused_reach (way_of d) c.traffic)
    (moved (unread_moment d at cause c.sessions) (record c { traffic = traffic.refused (way_of d) c.traffic })))
bad_by b d at cause c h = grind (arith, marked_traffic, still_two)

two_claim : IsClaim IsOfTwoAt
two_claim = record {
  begins = λ d c h. still_two (packet (way_of d)) c.traffic h;
  passes = λ d at v c h.
      subst (λ (s : State). IsOfTwo s.course) (sym (unit_knows d at v c)) (still_two (unit (way_of d) v) c.traffic h);
  bad = λ d at cause c h. bad_by (is_some (marks_of d c).halted) d at cause c h;
}

pub capture_two : (capture : Capture) → IsOfTwo (comes_to capture).course.traffic.course
capture_two capture = after_kept IsOfTwoAt two_claim capture begin (record { lost = λ e. absurd (cc e); seen = λ e. absurd (cc e) })

pub firm_in_zero : (c : Course) → c.traffic.course.class ≡ Some Zero → IsOfTwo c.traffic.course → c.traffic.course.loose ≡ false
firm_in_zero c zero h = firm_unless_two c.traffic.course h (λ two. let no : Some Zero ≡ Some Two = sym zero ∙ two in cc)
