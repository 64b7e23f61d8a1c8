-- Steps of an end and a judge, with what each turn among them does at each connection of the end: it puts the units that are put for
-- them, and no others.
-- For the sessions of an end, and for the law that a capture of an end is steps.
use Rattle.osi_blameless.proofs.Vocabulary.{[], ap, Bool, List, None, Option, refl, Some, sym, ℕ, ◌++◌, ◌∙◌, ◌∷◌, ◌≡◌, ◌≢◌, ◌⊎◌, ArePackets}
use Rattle.osi_blameless.proofs.Vocabulary.{Holding, Capture, Direction, EndReason, all_did, Continues, Deeds, no_deeds, Takes, FirstOf}
use Rattle.osi_blameless.proofs.Vocabulary.{Life, stage_at, ◌<◌, Value, units_in, all_units, Turn, comes_to, begins_other, begins_own}
use Rattle.osi_blameless.proofs.Vocabulary.{Joint, passes_other, passes_own, Step, Steps, StepsAlong, TakesTurn, turns, ComesBySteps}
use Rattle.osi_blameless.proofs.Vocabulary.{TurnsBad, begin}
use Rattle.osi_blameless.specs.Spoilt.{GoesOn}
use Rattle.osi_blameless.proofs.steps.the_packets_that_an_end_took_come_first.{are_first}
use Rattle.osi_blameless.proofs.transport.small_facts_that_many_lemmas_use.{units_join}

-- what a turn does at each connection, at which this was done before
pub record TurnDoes (is_caller : Bool) (deeds : ℕ → Deeds) (turn : Turn) (old new : Joint) (t : TakesTurn turn old new) : Type 0 where
  pub on : Continues is_caller deeds old.end turn new.end
  pub life : (r : ℕ) → 0 < r → Life is_caller r (stage_at r old.end.end.carrier) on.took on.put (stage_at r new.end.end.carrier)
  -- if the connection awaits its CC
  pub first : (r : ℕ) → 0 < r → FirstOf is_caller r old.end.end.carrier on.took on.put new.end.end.carrier
  pub units : t.units ≡ all_units on.put

-- and what each turn among these steps does
abbrev pub StepsDo : (d : Direction) (is_caller : Bool) → (ℕ → Deeds) → (old : Joint) (steps : List Step) (new : Joint) →
    StepsAlong d old steps new → Type 0
StepsDo d is_caller deeds old [] new along = Unit {0}
StepsDo d is_caller deeds old (turns turn ∷ steps) new along = (does : TurnDoes is_caller deeds turn old along.0 along.1)
    × StepsDo d is_caller (all_did deeds does.on.more) along.0 steps new along.2
StepsDo d is_caller deeds old (begins_own ∷ steps) new along = StepsDo d is_caller deeds along.0 steps new along.2
StepsDo d is_caller deeds old (passes_own at unit ∷ steps) new along = StepsDo d is_caller deeds along.0 steps new along.2
StepsDo d is_caller deeds old (begins_other ∷ steps) new along = StepsDo d is_caller deeds along.0 steps new along.2
StepsDo d is_caller deeds old (passes_other at packet units ∷ steps) new along = StepsDo d is_caller deeds along.0 steps new along.2

-- the units of these packets that an end took, and those that it left
pub record TakesFirst (old : Holding) (used : List (List ℕ)) (took : List Value) (new : Holding) : Type 0 where
  pub left : List Value
  pub first : old.end.carrier.ended ≡ None → units_in used ≡ took ++ left
  pub none_left : new.end.carrier.ended ≡ None → left ≡ []

module _ (is_caller : Bool) (deeds : ℕ → Deeds) (turn : Turn) (j : Joint) (new : Holding) (takes : Takes j.end turn new)
    (on : Continues is_caller deeds j.end turn new) (used later : List (List ℕ)) (rest : List ℕ) (coming : j.coming ≡ used ++ later)
    (cut : j.end.end.carrier.ended ≡ None → ArePackets used (j.end.held.octets ++ turn.used) rest)
    (held : new.end.carrier.ended ≡ None → rest ≡ new.held.octets)
    (all : j.end.end.carrier.ended ≡ None → new.end.carrier.ended ≢ None → (more : List (List ℕ)) (last : List ℕ) →
    ArePackets more rest last → more ≡ []) where
  pub first_by : (o : Option EndReason) → j.end.end.carrier.ended ≡ o → TakesFirst j.end used (units_in on.used) new
  first_by (Some reason) over = record {
    left = [];
    first = λ lasts. absurd (let no : Some reason ≡ None = sym over ∙ lasts in cc);
    none_left = λ still. refl;
  }
  first_by None lasts =
      let a = are_first on.used used (j.end.held.octets ++ turn.used) on.rest rest new.end.carrier.ended on.cut (cut lasts)
      (λ still. on.held still ∙ sym (held still)) (all lasts) in
      record {
        left = units_in a.more;
        first = λ l. ap units_in a.is ∙ units_join on.used a.more;
        none_left = λ still. ap units_in (a.all still);
      }

  -- so an end takes this turn whose connections go on so, with these packets of those that have passed
  abbrev pub takes_turn : TakesTurn turn j (record j { end = new; put = j.put ++ all_units on.put; coming = later })
  takes_turn =
      let f = first_by j.end.end.carrier.ended refl in
      record {
        takes = takes;
        units = all_units on.put;
        written = on.written;
        can = on.can;
        put = refl;
        used = used;
        coming = coming;
        rest = rest;
        cut = cut;
        held = held;
        all = all;
        took = units_in on.used;
        there = on.there;
        makes = on.makes;
        same = on.same;
        left = f.left;
        first = f.first;
        none_left = f.none_left;
        begun = refl;
        course = refl;
      }

-- a step that is no turn
abbrev pub IsOfJudge : Step → Type 0
IsOfJudge (turns turn) = ⊥
IsOfJudge step = Unit {0}

pub judge_first : (d : Direction) (is_caller : Bool) (deeds : ℕ → Deeds) (step : Step) → IsOfJudge step → (steps : List Step)
    (old mid new : Joint) (one : Steps d step old mid) (along : StepsAlong d mid steps new) →
    StepsDo d is_caller deeds mid steps new along → StepsDo d is_caller deeds old (step ∷ steps) new (mid, one, along)
judge_first d is_caller deeds (turns turn) judge steps old mid new one along does = absurd judge
judge_first d is_caller deeds _ judge steps old mid new one along does = does

-- What a capture comes to is what some steps come to, or these are all until the other side sends what can't be read; and this is what
-- the turns among them do, from the beginning.
pub record ComesByDoing (d : Direction) (is_caller : Bool) (capture : Capture) (first : Holding) : Type 0 where
  pub steps : List Step
  pub last : Joint
  pub along : StepsAlong d (begin first) steps last
  pub does : StepsDo d is_caller (λ r. no_deeds) (begin first) steps last along
  pub all : ((comes_to capture).course ≡ last.judge) ⊎ TurnsBad d capture last.judge
  pub on : ((comes_to capture).course ≡ last.judge) ⊎ GoesOn d capture last

pub comes_by_steps : (d : Direction) (is_caller : Bool) (capture : Capture) (first : Holding) → ComesByDoing d is_caller capture first →
    ComesBySteps d capture first
comes_by_steps d is_caller capture first c = record { steps = c.steps; last = c.last; along = c.along; all = c.all; on = c.on }
