-- A DT that breaks no rule is right, as long as its side and its connection are judged.
-- For the law on places.
use Rattle.osi_blameless.proofs.Vocabulary.{[], Bool, false, if◌then◌else◌, inl, inr, is_some, List, None, Option, refl, Some, subst, sym}
use Rattle.osi_blameless.proofs.Vocabulary.{true, ℕ, ◌∷◌, ◌≡◌, AllByRecursion, slice_get, data0, data2, Value, unit_parts, Class, Two}
use Rattle.osi_blameless.proofs.Vocabulary.{Zero, data0_tests, first_failed, Test, at_found, at_place, found, is_stopped, route_in, routed}
use Rattle.osi_blameless.proofs.Vocabulary.{Traffic as State, in_doubt, takes, unnamed_by, uses_source, Connection, Rules, Way, Finding}
use Rattle.osi_blameless.proofs.Vocabulary.{Broke, Kept, NotJudged, Rule, Capture, Direction, user_of, marked, marks_of, moved, unread_mark}
use Rattle.osi_blameless.proofs.Vocabulary.{unread_moment, way_of, comes_to, Cause, no_item, AreJudged, still_judged, packet, unit}
use Rattle.osi_blameless.proofs.Vocabulary.{is_report, arith, Course}
use Rattle.osi_rules.specs.declared.directions.Direction.TheVariants as way
use Rattle.osi_rules.specs.declared.findings.Rule.TheVariants as rule
use Rattle.osi_rules.specs.Sides as sides
use Rattle.osi_rules.specs.Traffic as traffic
use Rattle.osi_judge.specs.States.{begin}
use Rattle.osi_blameless.proofs.steps.what_passes_keeps_a_claim.{IsClaim, after_kept}
use Rattle.osi_blameless.proofs.shown.connections_have_the_same_places.{marked_traffic, unit_knows}
use Rattle.osi_blameless.proofs.Vocabulary.{◌⊎◌}

-- it is right, or breaks a rule
abbrev pub IsClear : Finding → Type 0
IsClear f = (f ≡ Kept) ⊎ ((r : Rule) × (f ≡ Broke r))

abbrev BreaksARule : Test → Type 0
BreaksARule t = (r : Rule) × (t.1 ≡ Broke r)

clear_by : (b : Bool) (f g : Finding) → IsClear f → IsClear g → IsClear (if b then f else g)
clear_by b f g h k = grind arith

pub clear_tests : (ts : List Test) → AllByRecursion BreaksARule ts → IsClear (first_failed ts)
clear_tests [] h = inl refl
clear_tests (t ∷ ts) h = clear_by t.0 (first_failed ts) t.1 (clear_tests ts h.1) (inr h.0)

zero_clear : (d : Way) (c : Connection) (octets : ℕ) → IsClear (first_failed (data0_tests d c octets))
zero_clear d c octets = clear_tests (data0_tests d c octets) ((rule.TsduTooLong, refl), ((rule.SizeExceeded, refl), tt))

pub found_two : (d : Way) (n number : ℕ) (end : Bool) (user : List ℕ) (course : Rules) (in_use : Bool) (c : Connection) →
    IsClear (found d course in_use c (data2 n number end user))
found_two way.Left n number end user course in_use c = grind (arith, clear_tests)
found_two way.Right n number end user course in_use c = grind (arith, clear_tests)

-- ---- by its place

judged_clear : (b : Bool) (f : Finding) → b ≡ true → IsClear f → IsClear (if b then f else NotJudged)
judged_clear b f h k = grind arith

loose_clear : (b : Bool) (f : Finding) → b ≡ false → IsClear f → IsClear (if b then in_doubt f else f)
loose_clear b f h k = grind arith

report_clear : (b : Bool) (f : Finding) → b ≡ false → IsClear f → IsClear (if b then NotJudged else f)
report_clear b f h k = grind arith

module _ (d : Way) (v : Value) (s : State) (firm : s.course.loose ≡ false) (judged : AreJudged s)
    (plain : is_report (traffic.has_erred (sides.other d) s.course) v ≡ false)
    (nowhere : IsClear (unnamed_by (traffic.may_answer d s.course.disconnects) v))
    (clear : (c : Connection) → IsClear (found d s.course (uses_source d s.connections v) c v)) where
  clear_one : (i : ℕ) (o : Option Connection) → slice_get s.connections i ≡ o → IsClear (at_found d v s i o).told.finding
  clear_one i None e = grind (arith, report_clear, loose_clear)
  clear_one i (Some c) e = search (arith, judged_clear)

  pub clear_any : (o : Option ℕ) → IsClear (at_place d v s o).told.finding
  clear_any o = grind (arith, clear_one)

nowhere_two : (b : Bool) (n number : ℕ) (end : Bool) (user : List ℕ) → IsClear (unnamed_by b (data2 n number end user))
nowhere_two b n number end user = grind arith

nowhere_zero : (b : Bool) (end : Bool) (user : List ℕ) → IsClear (unnamed_by b (data0 end user))
nowhere_zero b end user = grind arith

routed_two : (k : Option Class) (d : Way) (b : Bool) (n number : ℕ) (end : Bool) (user : List ℕ) (s : State) →
    s.course.loose ≡ false → AreJudged s →
    IsClear (routed d (data2 n number end user) s (route_in k d b (data2 n number end user))).told.finding
routed_two None way.Left b n number end user s firm judged = inr (rule.UnexpectedUnit, refl)
routed_two None way.Right b n number end user s firm judged = inr (rule.UnexpectedUnit, refl)
routed_two (Some Zero) way.Left b n number end user s firm judged = inr (rule.WrongForm, refl)
routed_two (Some Zero) way.Right b n number end user s firm judged = inr (rule.WrongForm, refl)
routed_two (Some Two) way.Left b n number end user s firm judged = search (arith, clear_any, nowhere_two, found_two)
routed_two (Some Two) way.Right b n number end user s firm judged = search (arith, clear_any, nowhere_two, found_two)

routed_zero : (k : Option Class) (d : Way) (b : Bool) (end : Bool) (user : List ℕ) (s : State) → s.course.loose ≡ false → AreJudged s →
    IsClear (routed d (data0 end user) s (route_in k d b (data0 end user))).told.finding
routed_zero (Some Zero) way.Left b end user s firm judged = search (arith, clear_any, nowhere_zero, zero_clear)
routed_zero (Some Zero) way.Right b end user s firm judged = search (arith, clear_any, nowhere_zero, zero_clear)
routed_zero _ way.Left b end user s firm judged = inr (rule.UnexpectedUnit, refl)
routed_zero _ way.Right b end user s firm judged = inr (rule.UnexpectedUnit, refl)

pub dt_clear : (d : Way) (v : Value) (end : Bool) (s : State) → unit_parts v ≡ (end, user_of v) ∷ [] → is_stopped d s.course ≡ false →
    s.course.loose ≡ false → AreJudged s → IsClear (takes d v s).told.finding
dt_clear d (data0 e user) end s parts goes firm judged = grind (arith, routed_zero)
dt_clear d (data2 n number e user) end s parts goes firm judged = grind (arith, routed_two)
dt_clear d _ end s parts goes firm judged = absurd (cc)

right_by : (f : Finding) → IsClear f → ((r : Rule) → f ≡ Broke r → ⊥) → f ≡ Kept
right_by f h none = grind arith

pub dt_right : (d : Way) (v : Value) (end : Bool) (s : State) → unit_parts v ≡ (end, user_of v) ∷ [] → is_stopped d s.course ≡ false →
    s.course.loose ≡ false → AreJudged s → ((r : Rule) → (takes d v s).told.finding ≡ Broke r → ⊥) →
    (takes d v s).told.finding ≡ Kept
dt_right d v end s parts goes firm judged none = right_by (takes d v s).told.finding (dt_clear d v end s parts goes firm judged) none

-- ---- all connections are judged as long as none has lost its judgement

abbrev pub Judged : Course → Type 0
Judged c = AreJudged c.traffic

bad_by : (b : Bool) (d : Direction) (at : ℕ) (cause : Cause) (c : Course) → Judged c →
    Judged (if b then c else marked (unread_mark d at cause) (traffic.refused_reach (way_of d) c.traffic)
    (moved (unread_moment d at cause c.sessions) (record c { traffic = traffic.refused (way_of d) c.traffic })))
bad_by b d at cause c h = search (arith, marked_traffic, still_judged)

pub judged_claim : IsClaim Judged
judged_claim = record {
  begins = λ d c h. still_judged (packet (way_of d)) c.traffic h;
  passes = λ d at v c h. subst AreJudged (sym (unit_knows d at v c)) (still_judged (unit (way_of d) v) c.traffic h);
  bad = λ d at cause c h. bad_by (is_some (marks_of d c).halted) d at cause c h;
}

pub capture_judged : (capture : Capture) → Judged (comes_to capture).course
capture_judged capture = after_kept Judged judged_claim capture begin (λ h i c at. no_item i c at)
