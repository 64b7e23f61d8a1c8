-- The numbers of the units that a link gives are in the range of their fields, whatever it takes.
-- For the course of a connection, and for what a carrier puts.
use Rattle.osi_blameless.proofs.ends.Vocabulary.{[], arith, List, map, None, Ok, Option, Some, suc, zero, ℕ, ◌<◌, ◌∷◌, ◌≡◌, AllByRecursion}
use Rattle.osi_blameless.proofs.ends.Vocabulary.{flat_map, IfOk, IfSome, data0, Value, at_ok, choose_ok, choose_some, given_by, Ends, Flow}
use Rattle.osi_blameless.proofs.ends.Vocabulary.{Drained}
use Rattle.osi_blameless.proofs.ends.Vocabulary.{drained_by, drained_within, left_to_give, ack, Given, given_part, next, next_by, part0}
use Rattle.osi_blameless.proofs.ends.Vocabulary.{part2}
use Rattle.osi_blameless.proofs.ends.Vocabulary.{Standing, taken, taken_by, unit_of, Move, MovesAlong, Part, Class, Local, opened_link}
use Rattle.osi_blameless.proofs.ends.Vocabulary.{CanBeWritten, Moves}
unfoldable use Rattle.osi_class.specs.Giving.{drained}

-- the next number and the credit are in range
abbrev pub IsNumbered : Option Flow → Type 0
IsNumbered None = Unit {0}
IsNumbered (Some f) = (f.sender.next < 128) × (f.receiver.window < 16)

abbrev CanBeGiven : Given → Type 0
CanBeGiven (part0 end octets) = Unit {0}
CanBeGiven (part2 number end octets) = number < 128
CanBeGiven (ack number credit) = (number < 128) × (credit < 16)

pub link_opens : (class : Class) (size : Option ℕ) (local : Local) (credit : ℕ) →
    IsNumbered (opened_link class size local credit).flow
link_opens class size local credit = grind arith

-- ---- what is given

abbrev GivesSo : Given × Standing → Type 0
GivesSo (g, s) = CanBeGiven g × IsNumbered s.flow

next_gives : (e : Ends) (flow : Option Flow) → IsNumbered flow → IfSome (next_by e flow) GivesSo
next_gives e flow numbered = grind (arith, choose_some)

all_written : (peer : ℕ) (units : List Given) → AllByRecursion CanBeGiven units → AllByRecursion CanBeWritten (map (unit_of peer) units)
all_written peer [] all = tt
all_written peer (g ∷ units) all = (grind arith, all_written peer units all.1)

-- ---- what is taken

abbrev FlowOf : Standing → Type 0
FlowOf s = IsNumbered s.flow

takes_so : (e : Ends) (flow : Option Flow) (v : Value) → IsNumbered flow → IfOk (taken_by e flow v) FlowOf
takes_so e flow v numbered = grind (arith, choose_ok)

pub taken_numbered : (s t : Standing) (v : Value) → IsNumbered s.flow → taken s v ≡ Ok t → IsNumbered t.flow
taken_numbered s t v numbered e = at_ok FlowOf (taken s v) t (takes_so s.ends s.flow v numbered) e

-- ---- one call after the other

move_numbered : (move : Move) (s t : Standing) → IsNumbered s.flow → Moves move s t →
    AllByRecursion CanBeGiven (given_by move) × IsNumbered t.flow
move_numbered move s t numbered is = search (arith, taken_numbered, next_gives)

moves_given : (moves : List Move) (s t : Standing) → IsNumbered s.flow → MovesAlong s moves t →
    AllByRecursion CanBeGiven (flat_map given_by moves)
moves_given [] s t numbered along = tt
moves_given (move ∷ moves) s t numbered along =
    let one = move_numbered move s along.0 numbered along.1 in
    grind (arith, moves_given moves along.0 t one.1 along.2)

-- all that a link gives since its numbers were in range
pub moves_written : (peer : ℕ) (moves : List Move) (s t : Standing) → IsNumbered s.flow → MovesAlong s moves t →
    AllByRecursion CanBeWritten (map (unit_of peer) (flat_map given_by moves))
moves_written peer moves s t numbered along = all_written peer (flat_map given_by moves) (moves_given moves s t numbered along)

-- ---- a link of class 0

-- a DT of class 0
abbrev pub IsData : Value → Type 0
IsData (data0 end octets) = Unit {0}
IsData v = ⊥

abbrev GivesData : Given × Standing → Type 0
GivesData (g, s) = ((peer : ℕ) → IsData (unit_of peer g)) × (s.flow ≡ None)

part_of_zero : (e : Ends) (o : Option (Part × List (List ℕ))) → IfSome (given_part e None None o) GivesData
part_of_zero e o = grind arith

abbrev AllData : Drained → Type 0
AllData d = ((peer : ℕ) → AllByRecursion IsData (map (unit_of peer) d.units)) × (d.link.flow ≡ None)

drains_data : (n : ℕ) (s : Standing) → s.flow ≡ None → AllData (drained_within n s)
drains_data zero s none = (λ peer. tt, none)
drains_data (suc n) s none = by (next s) (grind (arith, part_of_zero)) (λ t here. drains_data n t here)
  where
    by : (o : Option (Given × Standing)) → IfSome o GivesData → ((t : Standing) → t.flow ≡ None → AllData (drained_within n t)) →
        AllData (drained_by o s (drained_within n))
    by None h more = (λ peer. tt, none)
    by (Some (g, t)) h more = let rest = more t h.1 in (λ peer. (h.0 peer, rest.0 peer), rest.1)

pub gives_data : (s : Standing) → s.flow ≡ None → AllData (drained s)
unfolding drained
gives_data s none = drains_data (left_to_give s) s none

pub taken_zero : (s t : Standing) (v : Value) → s.flow ≡ None → taken s v ≡ Ok t → t.flow ≡ None
taken_zero s t v none e = at_ok (λ (x : Standing). x.flow ≡ None) (taken s v) t (grind arith) e
