-- What the other side sends and nobody can read is an event of a whole end, and so are the steps that follow.
-- For the law that the transport of an end is blamed nowhere.
use Rattle.osi_blameless.proofs.Vocabulary.{[], ap, Bool, Err, false, is_some, List, Ok, refl, Result, true, ℕ, ◌++◌, ◌∙◌, ◌∷◌, ◌≡◌}
use Rattle.osi_blameless.proofs.Vocabulary.{append-nil, AllByRecursion, Fits, IsOctets, units_by, units_fit, units_found, units_of, Value}
use Rattle.osi_blameless.proofs.Vocabulary.{TpduFault, other, Direction, way_of, marks_of, unread, Cause, Whole, begins_other, begins_own}
use Rattle.osi_blameless.proofs.Vocabulary.{Joint, passes_other, passes_own, Step, turns, arith, Course, LaterSteps, spoilt, None, Traffic}
use Rattle.osi_blameless.proofs.Vocabulary.{units_in}
use Rattle.osi_blameless.specs.transport.Wholes as wholes
use Rattle.osi_rules.specs.Sides as sides
use Rattle.osi_rules.specs.Traffic as traffic
use Rattle.osi_blameless.proofs.keeping.a_break_ends_no_judging_or_all.{refused_traffic, refuses, unread_if}
use Rattle.osi_blameless.proofs.keeping.steps_are_events.{IsFollowed, passes_other_so, seen, step_followed, then_happens, turned, whole_of}
use Rattle.osi_blameless.proofs.transport.small_facts_that_many_lemmas_use.{units_join}

fits_by : (r : Result (List Value) TpduFault) (packet : List ℕ) → IsOctets packet → units_of packet ≡ r → AllByRecursion Fits (units_by r)
fits_by (Ok units) packet octets is = units_fit units packet (units_found packet units octets is)
fits_by (Err fault) packet octets is = tt

module _ (d : Direction) (first : Whole) where
  pub later_followed : (step : Step) (old new : Joint) → LaterSteps d step old new → IsFollowed d first old →
      IsFollowed d first new
  later_followed (turns turn) old new t f = step_followed d first (turns turn) old new t f
  later_followed begins_own old new is f = step_followed d first begins_own old new is f
  later_followed (passes_own at unit) old new is f = step_followed d first (passes_own at unit) old new is f
  later_followed begins_other old new is f = step_followed d first begins_other old new is f
  later_followed (passes_other at packet units) old new (octets, read, is) f = grind (arith, passes_other_so, fits_by)

  module _ (at : ℕ) (cause : Cause) (packets : List (List ℕ)) (none : units_in packets ≡ []) (j : Joint) (f : IsFollowed d first j) where
    abbrev spoilt_now : Joint
    spoilt_now = spoilt d at cause packets j

    still : j.end.end.carrier.ended ≡ None → f.come ≡ units_in (j.coming ++ packets)
    still lasts = f.coming lasts ∙ (grind (arith, units_join, append-nil))

    spoilt_by : (b : Bool) → is_some (marks_of (other d) j.judge).halted ≡ b → IsFollowed d first spoilt_now
    spoilt_by true halted =
        let same : unread (other d) at cause j.judge ≡ j.judge = ap (λ (b : Bool). unread_if b (other d) at cause j.judge) halted in
        then_happens d first j spoilt_now f f.end f.come []
        (ap (λ (c : Course). record (whole_of f) { judge = c.traffic }) same) still f.like
    spoilt_by false goes =
        let is : unread (other d) at cause j.judge ≡ refuses (other d) at cause j.judge =
        ap (λ (b : Bool). unread_if b (other d) at cause j.judge) goes in
        let refused : spoilt_now.judge.traffic ≡ traffic.refused (sides.other (way_of d)) j.judge.traffic =
        grind (arith, turned, refused_traffic) in
        then_happens d first j spoilt_now f f.end f.come (wholes.passes_rubbish ∷ [])
        (seen spoilt_now f.end f.come, ap (λ (t : Traffic). record (whole_of f) { judge = t }) refused, refl) still f.like

    pub spoilt_followed : IsFollowed d first (spoilt d at cause packets j)
    spoilt_followed = spoilt_by (is_some (marks_of (other d) j.judge).halted) refl
