-- Once class 0 is selected and an end has taken the CC, it has its one connection open in class 0, or is over.
-- For the sessions of an end after a break of the other side in class 0.
use Rattle.osi_blameless.proofs.Vocabulary.{ap, is_some, List, None, Some, subst, sym, true, ℕ, ◌++◌, ◌∙◌, ◌∷◌, ◌≡◌, AllByRecursion}
use Rattle.osi_blameless.proofs.Vocabulary.{confirm, Connect, Value, Standing, Zero, Local, Carrier, Traffic as State, Connection, Left}
use Rattle.osi_blameless.proofs.Vocabulary.{Right, Direction, answered, known, quiet, refused, IsInZero, calm_judge, Whole, Joint, IsFirm}
use Rattle.osi_blameless.proofs.Vocabulary.{arith, may_be_followed, ended, waits, IsZeroAt, calls_from, Disconnects, units_in}
use Rattle.osi_blameless.specs.transport.Wholes as wholes
use Rattle.osi_blameless.proofs.transport.requests.how_requests_go_on.{asks, zero}
use Rattle.osi_blameless.proofs.keeping.a_carrier_does_events.{none_of}
use Rattle.osi_blameless.proofs.small_facts_that_many_lemmas_use.{none_some, over_none, zero_two}
use Rattle.osi_blameless.proofs.keeping.steps_are_events.{whole_of, IsFollowed}
use Rattle.osi_blameless.proofs.in_class_0.what_the_stage_of_a_whole_end_says.{StageOf, stage_of}
use Rattle.osi_blameless.proofs.putting.what_a_turn_puts_goes_to_its_peer.{one_of}

-- its one connection is open in class 0
pub record IsOpenIn (c : Carrier) : Type 0 where
  pub r : ℕ
  pub peer : ℕ
  pub link : Standing
  pub at : IsZeroAt r peer link c

-- others follow this unit in its packet, or may: it is no CC
abbrev pub MayBeFollowed : Value → Type 0
MayBeFollowed v = may_be_followed v ≡ true

open_in : (limit : ℕ) (s c : Carrier) (begun : ℕ) (units : List Value) → s.ended ≡ None → c.ended ≡ None → s.class ≡ c.class →
    s.live ≡ c.live → IsInZero limit s begun units → IsOpenIn c
open_in limit s c begun units still lasts class live h = grind (arith, over_none)

-- ---- before class 0 is selected

calm_not : {A : Type 0} (w : Whole) (cs : List Connection) (drs : Disconnects) → w.judge ≡ calm_judge cs drs →
    w.judge.course.class ≡ Some Zero →
    A
calm_not w cs drs judge class = none_some w.judge.course.class Zero (ap (λ (t : State). t.course.class) judge) class

cc_alone : {A : Type 0} (n : ℕ) (x : Connect) (dcs more coming : List Value) → coming ≡ dcs ++ confirm n x ∷ more →
    AllByRecursion MayBeFollowed coming → A
cc_alone n x dcs more coming is all = grind (arith, one_of)

module _ (local : Local) (w : Whole) (c : Carrier) (still : w.end.ended ≡ None) (lasts : c.ended ≡ None) (class : w.end.class ≡ c.class)
    (live : w.end.live ≡ c.live) (is : w.judge.course.class ≡ Some Zero) where
  opens_by : (d : Direction) → StageOf d local w → AllByRecursion MayBeFollowed w.coming → IsOpenIn c
  opens_by Left (ended none h) all = over_none w.end.ended h still
  opens_by Left (quiet there none not_begun cs drs judge done dcs) all = calm_not w cs drs judge is
  opens_by Left (asks x put there offers cs drs judge done dcs begun) all = calm_not w cs drs judge is
  opens_by Left (waits r there none not_begun cs drs judge p o offers waiting dcs) all = calm_not w cs drs judge is
  opens_by Left (refused r there none not_begun cs drs judge done dcs u more coming are refusal too) all = calm_not w cs drs judge is
  opens_by Left (answered r there none not_begun dcs n x more coming are k has after so z) all = cc_alone n x dcs more w.coming coming all
  opens_by Left (zero has z) all = open_in z.judge.limit w.end c z.judge.c.left.begun w.put still lasts class live z.goes
  opens_by Left (known two seen has) all = zero_two w.judge.course.class is two
  opens_by Right h all = grind (arith, none_some, open_in)

-- ---- at a judge

module _ (local : Local) where
  pub end_opens : (d : Direction) (j : Joint) → IsFollowed d (wholes.begin (calls_from d) local) j → IsFirm j.judge.traffic.course →
      j.judge.traffic.course.class ≡ Some Zero → AllByRecursion MayBeFollowed (units_in j.coming) → j.end.end.carrier.ended ≡ None →
      IsOpenIn j.end.end.carrier
  end_opens d j f firm class all lasts =
      let still = none_of f.end.ended (sym f.like.over ∙ ap is_some lasts) in
      let same = f.like.lasts still in
      opens_by local (whole_of f) j.end.end.carrier still lasts (ap (λ (c : Carrier). c.class) same)
      (ap (λ (c : Carrier). c.live) same) class d (stage_of d local j f firm)
      (subst (AllByRecursion MayBeFollowed) (sym (f.coming lasts)) all)
