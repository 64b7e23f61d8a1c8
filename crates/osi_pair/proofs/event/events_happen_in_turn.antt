-- Events that happen one after the other, and their steps of the machine.
-- For events and the code of `Pair`.
use Rattle.osi_pair.proofs.Vocabulary.{◌∙◌, ◌||◌, Bool, false, List, [], ◌∷◌, ◌++◌, Option, Some, None, refl, ap, subst, Applied}
use Rattle.osi_pair.proofs.Vocabulary.{append_assoc, append-nil, EndReason, Step, connects, breaks, StandsAfter, asked_of, TwoEnds}
use Rattle.osi_pair.proofs.Vocabulary.{end_at, Happens, HappenAll, AreStepsOf, StandsBehind, RunsThrough, offer_in, StandsAt, StandsAtTold}
use Rattle.osi_pair.proofs.Vocabulary.{Event, Connect, Carry, Break, Told, Side, arith, Pairing}
use Rattle.osi_pair.specs.declared.events.Event.TheVariants.{Call}

-- one more event happens
pub happen_more : (events : List Event) (event : Event) (applied : Applied) (is_cut : Bool) (old mid new : Pairing) →
    HappenAll events old is_cut mid → Happens event mid applied new →
    HappenAll (events ++ event ∷ []) old (is_cut || applied.is_cut_short) new
happen_more [] event applied is_cut old mid new h more = (
  new,
  applied,
  false,
  ap (λ (b : Bool). b || applied.is_cut_short) h.0 ∙ (grind arith),
  subst (λ (p : Pairing). Happens event p applied new) h.1 more,
  (refl, refl),
)
happen_more (first ∷ events) event applied is_cut old mid new h more = (
  h.0,
  h.1,
  h.2 || applied.is_cut_short,
  ap (λ (b : Bool). b || applied.is_cut_short) h.3 ∙ (grind arith),
  h.4,
  happen_more events event applied h.2 h.0 mid new h.5 more,
)

-- the steps of one event
pub record StandsBehindOne (event : Event) (p : TwoEnds) (steps : List Step) : Type 0 where
  pub more : List Step
  pub are : AreStepsOf event more
  pub stands : StandsAt p (steps ++ more)

told_behind : (before : Option EndReason) (side : Side) (p : TwoEnds) (steps : List Step) → StandsAtTold before side p steps →
    StandsBehindOne (Told side) p steps
told_behind (Some reason) side p steps s = grind (arith, append-nil steps)
told_behind None side p steps s = grind arith

pub one_behind : (event : Event) (old new : TwoEnds) (steps : List Step) → StandsAfter event old new steps → StandsBehindOne event new steps
one_behind (Connect asked) old new steps s = record { more = connects (offer_in (asked_of asked)) ∷ []; are = refl; stands = s }
one_behind (Call side reference request) old new steps s = grind arith
one_behind (Carry side most) old new steps s = record { more = s.more; are = s.are; stands = s.stands }
one_behind (Break left right) old new steps s = record { more = breaks s.keep_left s.keep_right ∷ []; are = tt; stands = s.stands }
one_behind (Told side) old new steps s = told_behind (end_at side old).end.carrier.ended side new steps s

-- the steps of all of them
all_behind : (events : List Event) (is_cut : Bool) (old new : Pairing) (steps : List Step) → HappenAll events old is_cut new →
    StandsAt old.ends steps → StandsBehind events new.ends steps
all_behind [] is_cut old new steps h s = grind (arith, append-nil steps)
all_behind (event ∷ events) is_cut old new steps h s =
    let one = one_behind event old.ends h.0.ends steps (h.4.stands steps s) in
    let rest = all_behind events h.2 h.0 new (steps ++ one.more) h.5 one.stands in
    record {
      more = one.more ++ rest.more;
      are = (record { first = one.more; rest = rest.more }, refl, one.are, rest.are);
      stands = subst (λ (l : List Step). StandsAt new.ends l) (append_assoc steps one.more rest.more) rest.stands;
    }

pub runs_through : (events : List Event) (is_cut : Bool) (old new : Pairing) → HappenAll events old is_cut new →
    RunsThrough events old is_cut new
runs_through events is_cut old new h = record { all = h; stands = λ steps s. all_behind events is_cut old new steps h s }
