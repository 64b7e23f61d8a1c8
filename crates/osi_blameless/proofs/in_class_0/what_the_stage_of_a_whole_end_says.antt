-- What the stage of a whole end says that runs along with an end and a judge: of a calling end before a class is selected, which unit of it
-- passes, and how it is when a CC comes; and of an end in class 0, what it has put, and what has come for a connection that may still open.
-- For the session of the connection of an end in class 0.
use Rattle.osi_blameless.proofs.Vocabulary.{[], ap, Bool, length, List, None, Option, refl, Some, subst, sym, true, ℕ, ◌∙◌, ◌∷◌, ◌≡◌}
use Rattle.osi_blameless.proofs.Vocabulary.{eqb-true, AllByRecursion, confirm, Connect, data0, request, Value, Class, Two, Zero, Local}
use Rattle.osi_blameless.proofs.Vocabulary.{has_given, Traffic as State, takes, Connection, Offer, early, past, stage_at, stage_is, IsOver}
use Rattle.osi_blameless.proofs.Vocabulary.{one, answered, Calling, known, quiet, refused, begun_by, anyhow, zero_puts, PutsData}
use Rattle.osi_blameless.proofs.Vocabulary.{calm_judge, done_takes, GoesOn, Waits, Whole, arith, ended, waits, Stage as CalledStage}
use Rattle.osi_blameless.proofs.Vocabulary.{Direction, Left, Carrier, calls_from, IsFirm, Joint, IsInZero}
use Rattle.osi_blameless.proofs.Vocabulary.{lines, selected, selecting, stage_there, ◌≤◌, ◌<◌, is_some, units_in, Steps, passes_own}
use Rattle.osi_blameless.proofs.Vocabulary.{Disconnects}
use Rattle.osi_rules.specs.declared.directions.Direction.TheVariants.{Right}
use Rattle.osi_side.specs.declared.directions.Direction.TheVariants as side
use Rattle.osi_blameless.specs.transport.Wholes as wholes
use Rattle.osi_blameless.proofs.transport.requests.how_requests_go_on.{Stage, asks, zero}
use Rattle.osi_blameless.proofs.small_facts_that_many_lemmas_use.{early_lasts, given_so, none_some}
use Rattle.osi_blameless.proofs.small_facts_that_many_lemmas_use as small
use Rattle.osi_blameless.proofs.keeping.steps_are_events.{whole_of, IsFollowed}
use Rattle.osi_blameless.proofs.putting.a_whole_end_runs_along.{joined_by_place}
use Rattle.osi_blameless.proofs.putting.each_reference_of_an_end_is_new.{IsAhead, IsWithin}
use Rattle.osi_blameless.proofs.keeping.a_carrier_does_events.{none_of}
use Rattle.osi_blameless.proofs.in_class_0.units_of_class_0_come_after_its_cc.{HasCc}
use Rattle.osi_blameless.proofs.transport.by_line.an_end_is_fair.{none_put as some_put}
pub use Rattle.osi_blameless.proofs.keeping.what_is_judged_beside_a_halted_side.{IsDt0}
pub use Rattle.osi_blameless.proofs.putting.a_whole_end_runs_along.{runs_staged}

-- ---- small facts

class_not : {A : Type 0} (k : Option Class) (a b : Class) → k ≡ Some a → k ≡ Some b → (a ≡ b → ⊥) → A
class_not k a b h e apart = absurd (let same : a ≡ b = cc in apart same)

zero_two : Zero ≡ Two → ⊥
zero_two e = cc

calm_class : (w : Whole) (cs : List Connection) (drs : Disconnects) → w.judge ≡ calm_judge cs drs → w.judge.course.class ≡ None
calm_class w cs drs judge = ap (λ (t : State). t.course.class) judge

-- ---- DTs of class 0

none_all : {units : List Value} → units ≡ [] → AllByRecursion IsDt0 units
none_all e = subst (AllByRecursion IsDt0) (sym e) tt

pub all_data : (limit begun : ℕ) (units : List Value) → PutsData limit anyhow begun units → AllByRecursion IsDt0 units
all_data limit begun [] h = tt
all_data limit begun (data0 end user ∷ units) h = (tt, all_data limit (begun_by begun end (length user)) units h.2)
all_data limit begun _ h = absurd h

-- ---- a unit of the end

-- a CR before the class is known, or a DT of class 0 once it is
pub data PassesOwn (w : Whole) (v : Value) : Type 0 where
  asking : (x : Connect) → v ≡ request x → w.judge.course.class ≡ None → PassesOwn w v
  adding : (end : Bool) (user : List ℕ) → v ≡ data0 end user → w.judge.course.class ≡ Some Zero → w.judge.course.class_seen ≡ Some Zero →
      PassesOwn w v

data_first : (w : Whole) (limit begun : ℕ) (v : Value) (rest : List Value) → w.judge.course.class ≡ Some Zero →
    w.judge.course.class_seen ≡ Some Zero → PutsData limit anyhow begun (v ∷ rest) → PassesOwn w v
data_first w limit begun (data0 end user) rest class seen h = adding end user refl class seen
data_first w limit begun _ rest class seen h = absurd h

first_of : (v x : Value) (rest more put : List Value) → put ≡ v ∷ rest → put ≡ x ∷ more → v ≡ x
first_of v x rest more put e h = let same : v ∷ rest ≡ x ∷ more = sym e ∙ h in cc

-- the end is over, or its one CR waits for the answer
pub data AwaitsAnswer (local : Local) (w : Whole) : Type 0 where
  gone : IsOver w.end → AwaitsAnswer local w
  awaits : (r p : ℕ) (o : Offer) (cs : List Connection) (drs : Disconnects) → Calling local (one r) w.end → w.judge ≡ calm_judge cs drs →
      Waits r p o cs → AwaitsAnswer local w

module _ (local : Local) (w : Whole) where
  pub own_unit : (v : Value) (rest : List Value) → Stage local w → w.put ≡ v ∷ rest → w.begun ≡ true →
      (w.judge.course.class ≡ Some Two → ⊥) → PassesOwn w v
  own_unit v rest (ended none h) e begun not_two = some_put v rest w.put e none
  own_unit v rest (quiet is none not_begun cs drs judge done dcs) e begun not_two = some_put v rest w.put e none
  own_unit v rest (asks x put is offers cs drs judge done dcs all) e begun not_two =
      asking x (first_of v (request x) rest [] w.put e put) (calm_class w cs drs judge)
  own_unit v rest (waits r is none not_begun cs drs judge p o offers waiting dcs) e begun not_two = some_put v rest w.put e none
  own_unit v rest (refused r is none not_begun cs drs judge done dcs u more coming are refusal too) e begun not_two =
      some_put v rest w.put e none
  own_unit v rest (answered r is none not_begun dcs n x more coming are class has after so z) e begun not_two = grind (arith, some_put)
  own_unit v rest (zero has z) e begun not_two =
      data_first w z.judge.limit z.judge.c.left.begun v rest z.judge.class (z.judge.class_seen begun)
      (subst (PutsData z.judge.limit anyhow z.judge.c.left.begun) e (zero_puts z.judge.limit w.end z.judge.c.left.begun w.put z.goes))
  own_unit v rest (known two seen has) e begun not_two = absurd (not_two two)

  -- ---- a CC comes

  pub cc_comes : (n : ℕ) (x : Connect) → Stage local w → w.judge.course.class ≡ None → GoesOn (takes Right (confirm n x) w.judge).state →
      (w.put ≡ []) × AwaitsAnswer local w
  cc_comes n x (ended none h) class goes = (none, gone h)
  cc_comes n x (quiet is none not_begun cs drs judge done dcs) class goes = grind (arith, done_takes)
  cc_comes n x (asks y put is offers cs drs judge done dcs all) class goes = grind (arith, done_takes)
  cc_comes n x (waits r is none not_begun cs drs judge p o offers waiting dcs) class goes = (none, awaits r p o cs drs is judge waiting)
  cc_comes n x (refused r is none not_begun cs drs judge done dcs u more coming are refusal too) class goes = grind (arith, done_takes)
  cc_comes n x (answered r is none not_begun dcs m y more coming are k has after so z) class goes = grind (arith, none_some)
  cc_comes n x (zero has z) class goes = none_some w.judge.course.class Zero class z.judge.class
  cc_comes n x (known two seen has) class goes = none_some w.judge.course.class Two class two

  -- ---- what it has put in class 0

  pub dts_put : Stage local w → w.judge.course.class ≡ Some Zero → AllByRecursion IsDt0 w.put
  dts_put (ended none h) class = none_all none
  dts_put (quiet is none not_begun cs drs judge done dcs) class = none_all none
  dts_put (asks x put is offers cs drs judge done dcs all) class = grind (arith, none_some, calm_class)
  dts_put (waits r is none not_begun cs drs judge p o offers waiting dcs) class = none_all none
  dts_put (refused r is none not_begun cs drs judge done dcs u more coming are refusal too) class = none_all none
  dts_put (answered r is none not_begun dcs n x more coming are k has after so z) class = none_all none
  dts_put (zero has z) class = search (arith, all_data, zero_puts)
  dts_put (known two seen has) class = class_not w.judge.course.class Zero Two class two zero_two

  -- ---- a connection that may still open

  module _ (r : ℕ) (lasts : w.end.ended ≡ None) (given : has_given r w.end ≡ true) (may : stage_at r w.end ≡ early) where
    -- its CC has come, if class 0 is selected
    pub cc_waits : Stage local w → w.judge.course.class ≡ Some Zero → HasCc w.coming
    cc_waits h class = grind (arith, none_some, calm_class, class_not, zero_two)

  -- an end with one CR has no other connection under way
  pub one_early : (q r : ℕ) → Calling local (one r) w.end → has_given q w.end ≡ true → (q ≡ r → ⊥) → stage_at q w.end ≡ past
  one_early q r is given apart = grind (arith, stage_at, past, eqb-true, stage_is)

-- ---- of a called end

-- its connection is open, or over
open_or_over : (limit begun r : ℕ) (s : Carrier) (units : List Value) → IsInZero limit s begun units → 0 < r → r ≤ s.given →
    s.ended ≡ None → stage_at r s ≡ early → ⊥
open_or_over limit begun r s units h some up lasts may = grind (arith, stage_is, stage_there)

module _ (local : Local) (w : Whole) (class : w.judge.course.class ≡ Some Zero) where
  dts_put_by_place : CalledStage local w → AllByRecursion IsDt0 w.put
  dts_put_by_place (lines h c named) = grind (arith, none_some, small.zero_two)
  dts_put_by_place (selecting z) = none_some w.judge.course.class Zero z.class class
  dts_put_by_place (selected z) =
      all_data z.judge.limit z.judge.c.right.begun w.put (zero_puts z.judge.limit w.end z.judge.c.right.begun w.put z.goes)

  not_early : (r : ℕ) → 0 < r → r ≤ w.end.given → w.end.ended ≡ None → stage_at r w.end ≡ early → CalledStage local w → ⊥
  not_early r some up lasts may (lines h c named) = grind (arith, none_some, small.zero_two)
  not_early r some up lasts may (selecting z) = none_some w.judge.course.class Zero z.class class
  not_early r some up lasts may (selected z) = open_or_over z.judge.limit z.judge.c.right.begun r w.end w.put z.goes some up lasts may

-- ---- of either

abbrev pub StageOf : Direction → Local → Whole → Type 0
StageOf side.Left local w = Stage local w
StageOf side.Right local w = CalledStage local w

-- as long as all is judged
pub stage_of : (d : Direction) (local : Local) (j : Joint) (f : IsFollowed d (wholes.begin (calls_from d) local) j) →
    IsFirm j.judge.traffic.course → StageOf d local (whole_of f)
stage_of side.Left local j f firm = (runs_staged local j f).stage firm.left
stage_of side.Right local j f firm = (joined_by_place local j f).stage (grind arith)

-- it has put DTs alone in class 0
pub zero_put : (d : Direction) (local : Local) (w : Whole) → w.judge.course.class ≡ Some Zero → StageOf d local w →
    AllByRecursion IsDt0 w.put
zero_put side.Left local w class h = dts_put local w h class
zero_put side.Right local w class h = dts_put_by_place local w class h

-- so a unit of it that passes is one
pub own_is_dt : (local : Local) (d : Direction) (at : ℕ) (v : Value) (old new : Joint) → Steps d (passes_own at v) old new →
    IsFollowed d (wholes.begin (calls_from d) local) old → IsFirm old.judge.traffic.course → old.judge.traffic.course.class ≡ Some Zero →
    IsDt0 v
own_is_dt local d at v old new step f firm class =
    (subst (AllByRecursion IsDt0) step.2.0 (zero_put d local (whole_of f) class (stage_of d local old f firm))).0

-- The CC has come for a connection that may still open. A called end has none such: it opens the connection with its own CC.
abbrev pub AwaitsCc : Direction → List Value → Type 0
AwaitsCc side.Left coming = HasCc coming
AwaitsCc side.Right coming = ⊥

awaits_by : (d : Direction) (local : Local) (w : Whole) (r : ℕ) → w.judge.course.class ≡ Some Zero → 0 < r → r ≤ w.end.given →
    w.end.ended ≡ None → stage_at r w.end ≡ early → StageOf d local w → AwaitsCc d w.coming
awaits_by side.Left local w r class some given lasts may h = cc_waits local w r lasts (given_so r w.end some given) may h class
awaits_by side.Right local w r class some given lasts may h = absurd (not_early local w class r some given lasts may h)

pub zero_awaits : (d : Direction) (local : Local) (j : Joint) (a : IsAhead d (wholes.begin (calls_from d) local) j) (r : ℕ) →
    IsFirm j.judge.traffic.course → j.judge.traffic.course.class ≡ Some Zero → IsWithin a.bound r →
    stage_at r j.end.end.carrier ≡ early → AwaitsCc d (units_in j.coming)
zero_awaits d local j a r firm class within may =
    let f = a.followed in
    let w = (whole_of f) in
    let end = j.end.end.carrier in
    let lasts = early_lasts r end may in
    let whole_lasts = none_of w.end.ended (sym f.like.over ∙ ap is_some lasts) in
    let stage = stage_of d local j f firm in
    let given : r ≤ w.end.given =
    (let low = a.above.given in let up = within.1 in omega (arith, low, up)) in
    subst (AwaitsCc d) (f.coming lasts)
    (awaits_by d local w r class within.0 given whole_lasts (ap (stage_at r) (f.like.lasts whole_lasts) ∙ may) stage)
