-- What holds of an end of class 2 alone beside a judge: of what it has put and not yet passed, and of what has come. So it is at the
-- beginning, as packets begin, and as those of the other side pass.
-- For all connections of an end and a judge.
use Rattle.osi_blameless.proofs.Vocabulary.{◌≡◌, ◌⊎◌, inl, refl, sym, subst, ℕ, ◌<◌, ◌≤◌, List, [], ◌∷◌, ◌++◌, Some, arith, AllByRecursion}
use Rattle.osi_blameless.proofs.Vocabulary.{Value, Local, Direction, Left, Right, other, Holding, Deeds, no_deeds, units_in, units_taken}
use Rattle.osi_blameless.proofs.Vocabulary.{IsFresh, stage_is, packet_begins, units_pass, Joint, Steps, begin, begins_other}
use Rattle.osi_blameless.proofs.Vocabulary.{begins_own, passes_other, calls_from, true}
use Rattle.osi_carrier.specs.State.{State as Carrier}
use Rattle.osi_blameless.specs.transport.Wholes as wholes
use Rattle.osi_blameless.proofs.small_facts_that_many_lemmas_use.{all_join}
use Rattle.osi_blameless.proofs.putting.a_turn_does_what_its_deeds_say.{units_more}
use Rattle.osi_blameless.proofs.putting.each_reference_of_an_end_is_new.{AreUpTo, IsAhead, begins_other_ahead, begins_own_ahead}
use Rattle.osi_blameless.proofs.putting.each_reference_of_an_end_is_new.{first_ahead, passes_other_ahead}
use Rattle.osi_blameless.proofs.coming.nothing_comes_before_a_cc_passes.{IsBelow, below_higher}
use Rattle.osi_blameless.proofs.putting.nothing_is_done_before_a_cr_passes.{AreUndone, IsNoZero}
use Rattle.osi_blameless.proofs.putting.ccs_among_units.{AnswersTwo, AreOrdered, HasCc}
use Rattle.osi_blameless.proofs.standing.what_stands_of_a_connection.{waiting_for}

-- An end that calls: nothing is done at a connection whose CR has not passed, and no DT of class 0 has come.
pub record AsksInTwo (b : ℕ) (deeds : ℕ → Deeds) (end : Carrier) (coming : List Value) : Type 0 where
  pub undone : AreUndone b deeds end
  pub zero : AllByRecursion IsNoZero coming

-- One that is called: what was put at a connection whose CC has not passed waits after it. At a connection without a CC nothing was put,
-- and at either nothing was taken.
pub record AnswersInTwo (b : ℕ) (deeds : ℕ → Deeds) (put coming : List Value) : Type 0 where
  pub below : AllByRecursion (IsBelow b) coming
  pub unheard : (r : ℕ) → b < r → units_taken (deeds r).calls ≡ []
  pub waits : (n r : ℕ) → HasCc n r put → (deeds r).put ≡ waiting_for (Some n) put
  pub spent : (r : ℕ) → b < r → ((deeds r).put ≡ []) ⊎ ((n : ℕ) × HasCc n r put)
  pub ordered : AreOrdered put
  pub two : AllByRecursion AnswersTwo put

-- A calling end opens a connection with its CR, and a called end with its CC: what it does there waits for that unit to pass.
abbrev pub IsInTwo : Direction → ℕ → (ℕ → Deeds) → Carrier → (put coming : List Value) → Type 0
IsInTwo Left b deeds end put coming = AsksInTwo b deeds end coming
IsInTwo Right b deeds end put coming = AnswersInTwo b deeds put coming

-- with references up to this one at the judge
pub record OwnInTwo (d : Direction) (local : Local) (deeds : ℕ → Deeds) (j : Joint) : Type 0 where
  pub ahead : IsAhead d (wholes.begin (calls_from d) local) j
  pub holds : IsInTwo d ahead.bound deeds j.end.end.carrier j.put (units_in j.coming)

-- ---- at the beginning

pub two_first : (d : Direction) (local : Local) (h : Holding) → IsFresh (calls_from d) local h → OwnInTwo d local (λ r. no_deeds) (begin h)
two_first d local h fresh =
    let a = first_ahead d local h fresh in record { ahead = a; holds = by d a.bound fresh }
  where
    by : (d : Direction) (b : ℕ) → IsFresh (calls_from d) local h → IsInTwo d b (λ r. no_deeds) h.end.carrier [] []
    by Left b fresh = record { undone = grind (arith, stage_is); zero = tt }
    by Right b fresh = record {
      below = tt;
      unheard = λ r less. refl;
      waits = λ n r has. absurd has;
      spent = λ r less. inl refl;
      ordered = tt;
      two = tt;
    }

-- ---- at a higher reference

pub in_higher : (d : Direction) (b n : ℕ) (deeds : ℕ → Deeds) (end : Carrier) (put coming : List Value) → b ≤ n →
    IsInTwo d b deeds end put coming → IsInTwo d n deeds end put coming
in_higher Left b n deeds end put coming up h = record { undone = λ r less. h.undone r (omega (arith, less, up)); zero = h.zero }
in_higher Right b n deeds end put coming up h = record {
  below = below_higher b n coming up h.below;
  unheard = λ r less. h.unheard r (omega (arith, less, up));
  waits = h.waits;
  spent = λ r less. h.spent r (omega (arith, less, up));
  ordered = h.ordered;
  two = h.two;
}

-- ---- more units come

-- what may come: no DT of class 0; or what is for no connection that the end has not answered
abbrev pub MayCome : Direction → ℕ → List Value → Type 0
MayCome Left b vs = AllByRecursion IsNoZero vs
MayCome Right b vs = AllByRecursion (IsBelow b) vs

in_more : (d : Direction) (b : ℕ) (deeds : ℕ → Deeds) (end : Carrier) (put coming units : List Value) → MayCome d b units →
    IsInTwo d b deeds end put coming → IsInTwo d b deeds end put (coming ++ units)
in_more Left b deeds end put coming units may h = record { undone = h.undone; zero = all_join IsNoZero coming units h.zero may }
in_more Right b deeds end put coming units may h = record {
  below = all_join (IsBelow b) coming units h.below may;
  unheard = h.unheard;
  waits = h.waits;
  spent = h.spent;
  ordered = h.ordered;
  two = h.two;
}

-- ---- what passes

module _ (d : Direction) (local : Local) (deeds : ℕ → Deeds) where
  abbrev first : wholes.Whole
  first = wholes.begin (calls_from d) local

  abbrev Own : Joint → Type 0
  Own j = OwnInTwo d local deeds j

  pub two_own_begins : (old new : Joint) → Steps d begins_own old new → Own old → Own new
  two_own_begins old new (some, none, is) h =
      let mid : Joint = record old { begun = true; judge = packet_begins d old.judge } in
      let g = begins_own_ahead d first old mid (some, none, refl) h.ahead in
      subst Own (sym is) (record {
        ahead = g.ahead;
        holds = in_higher d h.ahead.bound g.ahead.bound deeds old.end.end.carrier old.put (units_in old.coming) g.rises h.holds;
      })

  pub two_other_begins : (old new : Joint) → Steps d begins_other old new → Own old → Own new
  two_other_begins old new is h =
      let mid : Joint = record old { judge = packet_begins (other d) old.judge } in
      let g = begins_other_ahead d first old mid refl h.ahead in
      subst Own (sym is) (record {
        ahead = g.ahead;
        holds = in_higher d h.ahead.bound g.ahead.bound deeds old.end.end.carrier old.put (units_in old.coming) g.rises h.holds;
      })

  pub two_other_passes : (at : ℕ) (packet : List ℕ) (units : List Value) (old new : Joint) →
      Steps d (passes_other at packet units) old new →
      (h : Own old) → MayCome d h.ahead.bound units → AreUpTo d h.ahead.bound new.judge.sessions → Own new
  two_other_passes at packet units old new (octets, read, is) h may up =
      let mid : Joint = record old { judge = units_pass (other d) at units old.judge; coming = old.coming ++ packet ∷ [] } in
      let all = units_more old.coming packet units read in
      let b = h.ahead.bound in
      let end = old.end.end.carrier in
      let g = passes_other_ahead d first at packet units old mid (octets, read, refl) h.ahead
      (subst (λ (j : Joint). AreUpTo d b j.judge.sessions) is up) in
      subst Own (sym is) (record {
        ahead = g.ahead;
        holds = in_higher d b g.ahead.bound deeds end old.put (units_in mid.coming) g.rises
            (subst (λ (l : List Value). IsInTwo d b deeds end old.put l) all
            (in_more d b deeds end old.put (units_in old.coming) units may h.holds));
      })
