-- An ER breaks no rule after a unit of the other side has broken one, once the class is known to its sender: for the law of
-- that name. By the class, and by the connection that the ER names.
use Rattle.std.proofs.Common.{arith}
use Rattle.osi_rules.proofs.Vocabulary.{◌≡◌, ◌≢◌, ℕ, Bool, true, false, [], ◌∷◌, Option, Some, None, refl, if◌then◌else◌, slice_get}
use Rattle.osi_rules.proofs.Vocabulary.{position, not, ◌||◌, Value, error, Class, Zero, Two, Connection, Direction, Left, Right, Finding}
use Rattle.osi_rules.proofs.Vocabulary.{Broke, NotJudged, Route, is_break, first_failed, error_tests, is_named, is_silent, other, State}
use Rattle.osi_rules.proofs.Vocabulary.{Outcome, at_found, at_place, class_for, has_erred, in_doubt, is_stopped, may_answer, none_told}
use Rattle.osi_rules.proofs.Vocabulary.{one_told}
use Rattle.osi_rules.proofs.Vocabulary.{route}
use Rattle.osi_rules.proofs.Vocabulary.{route_in, routed, takes, unnamed_by, unnamed_told}
use Rattle.osi_rules.specs.declared.findings.Rule.TheVariants as rule

-- no rule is broken
abbrev IsMild : Outcome → Type 0
IsMild o = is_break o.told.finding ≡ false

report_mild : (erred : Bool) (f : Finding) → erred ≡ true → is_break (if erred then NotJudged else f) ≡ false
report_mild true f h = refl
report_mild false f h = cc

tests_mild : (silent erred : Bool) → erred ≡ true →
    is_break (first_failed ((silent || not erred, NotJudged) ∷ (silent, Broke rule.WrongForm) ∷ [])) ≡ false
tests_mild true erred h = refl
tests_mild false true h = refl
tests_mild false false h = cc

judged_mild : (judged : Bool) (f : Finding) → is_break f ≡ false → is_break (if judged then f else NotJudged) ≡ false
judged_mild true f h = h
judged_mild false f h = refl

last : (a b : Bool) → b ≡ true → (a || b) ≡ true
last true b h = refl
last false b h = h

module _ (n cause : ℕ) (s : State) where
  by_one : (d : Direction) (p : ℕ) (c : Connection) → has_erred (other d) s.course ≡ true → IsMild (one_told d p c (error n cause) s)
  by_one Left p c h =
      judged_mild c.is_judged (first_failed (error_tests Left s.course.right_erred c))
      (tests_mild (is_silent c.left.phase) s.course.right_erred h)
  by_one Right p c h =
      judged_mild c.is_judged (first_failed (error_tests Right s.course.left_erred c))
      (tests_mild (is_silent c.right.phase) s.course.left_erred h)

  module _ (d : Direction) (erred : has_erred (other d) s.course ≡ true) where
    by_none : IsMild (unnamed_told d (error n cause) s)
    by_none =
        report_mild (has_erred (other d) s.course)
        (if s.course.loose then in_doubt (unnamed_by (may_answer d s.course.disconnects) (error n cause))
        else unnamed_by (may_answer d s.course.disconnects) (error n cause)) erred

    by_item : (p : ℕ) (c : Option Connection) → IsMild (at_found d (error n cause) s p c)
    by_item p None = by_none
    by_item p (Some c) = by_one d p c erred

    by_place : (p : Option ℕ) → IsMild (at_place d (error n cause) s p)
    by_place None = by_none
    by_place (Some p) = by_item p (slice_get s.connections p)

by_class : (n cause : ℕ) (s : State) (d : Direction) (k : Option Class) (broke : Bool) → k ≢ None → broke ≡ true →
    has_erred (other d) s.course ≡ true → IsMild (routed d (error n cause) s (route_in k d broke (error n cause)))
by_class n cause s d None broke known h erred = absurd (known refl)
by_class n cause s Left (Some Zero) true known h erred = refl
by_class n cause s Right (Some Zero) true known h erred = refl
by_class n cause s d (Some Zero) false known h erred = cc
by_class n cause s d (Some Two) broke known h erred = by_place n cause s d erred (position (is_named d n) s.connections)

if_judged : (stopped : Bool) (d : Direction) (v : Value) (s : State) (r : Route) → IsMild (routed d v s r) →
    IsMild (if stopped then none_told d NotJudged s else routed d v s r)
if_judged true d v s r h = refl
if_judged false d v s r h = h

pub is_no_break : (d : Direction) (n cause : ℕ) (s : State) → class_for d s.course ≢ None → has_erred (other d) s.course ≡ true →
    IsMild (takes d (error n cause) s)
is_no_break d n cause s known erred =
    if_judged (is_stopped d s.course) d (error n cause) s (route d s.course (error n cause))
    (grind (arith, by_class, last))
