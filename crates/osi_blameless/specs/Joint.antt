-- An end of this library and a judge, packet by packet. What passes is what the judge is fed: the capture may be taken anywhere between the
-- end and the other side.
use Rattle.std.specs.Prelude.{◌≡◌, ◌≢◌, ℕ, false, List, [], ◌∷◌, ◌++◌, None, Ok}
use Rattle.std.specs.List.{AllByRecursion}
use Rattle.osi_unit.specs.Octets.{IsOctets}
use Rattle.osi_tpkt.specs.Stream.{ArePackets}
use Rattle.osi_tpdu.specs.Packet.{units_of}
use Rattle.osi_tpdu.specs.Value.{Value}
use Rattle.osi_tpdu.specs.Writing.{written}
use Rattle.osi_carrier.specs.State.{State, packets}
use Rattle.osi_side.specs.declared.directions.Direction.{Direction}
use Rattle.osi_side.specs.Captures.{other}
use Rattle.osi_stack.specs.State.{Holding}
use Rattle.osi_blameless.specs.Packets.{units_in}
use Rattle.osi_blameless.specs.ends.Doing.{Makes}
use Rattle.osi_blameless.specs.ends.Turns.{Takes, Turn}
use Rattle.osi_blameless.specs.ends.Writable.{CanBeWritten}
use Rattle.osi_judge.specs.Courses.{Course, fresh, packet_begins, units_pass}
use Rattle.osi_blameless.specs.EndAndJudge.{Along, BeginsOwn, EndAndJudge, PassesOther, PassesOwn, Sees}

-- The end has what it holds of the packet that is arriving; the judge, all that the capture comes to. What comes is the packets of the
-- other side that have passed and that the end has not used.
abbrev pub Joint : Type 0
Joint = EndAndJudge Holding Course (List ℕ)

-- ---- what happens

pub data Step : Type 0 where
  -- the owner of the end does something
  turns : Turn → Step
  -- the next unit of the end begins to pass, and passes, in the packet at this offset
  begins_own : Step
  passes_own : (at : ℕ) → Value → Step
  -- a packet of the other side begins to pass, and passes: its offset, its transport units as octets, and as values
  begins_other : Step
  passes_other : (at : ℕ) → List ℕ → List Value → Step

-- The end takes a turn. It puts these units, each of which can be written, and uses these packets: the next that have passed. As
-- long as it lasts, it holds the octets after them. By what was done at its carrier it put those units and took the first units of these
-- packets: all of them, as long as it lasts.
pub record TakesTurn (turn : Turn) (old new : Joint) : Type 0 where
  pub takes : Takes old.end turn new.end
  pub units : List Value
  pub written : turn.put ≡ packets units
  pub can : AllByRecursion CanBeWritten units
  pub put : new.put ≡ old.put ++ units
  pub used : List (List ℕ)
  pub coming : old.coming ≡ used ++ new.coming
  pub rest : List ℕ
  pub cut : old.end.end.carrier.ended ≡ None → ArePackets used (old.end.held.octets ++ turn.used) rest
  pub held : new.end.end.carrier.ended ≡ None → rest ≡ new.end.held.octets
  -- an end that is over left no packet in them
  pub all : old.end.end.carrier.ended ≡ None → new.end.end.carrier.ended ≢ None →
      (more : List (List ℕ)) (last : List ℕ) → ArePackets more rest last → more ≡ []
  pub took : List Value
  pub there : State
  pub makes : Makes old.end.end.carrier took units there
  pub same : new.end.end.carrier ≡ record there { outgoing = new.end.end.carrier.outgoing }
  pub left : List Value
  pub first : old.end.end.carrier.ended ≡ None → units_in used ≡ took ++ left
  pub none_left : new.end.end.carrier.ended ≡ None → left ≡ []
  pub begun : new.begun ≡ old.begun
  pub course : new.judge ≡ old.judge

-- The effect of each, at an end that sends in this direction. What passes is octets, and is read as these units.
abbrev pub Steps : Direction → Step → Joint → Joint → Type 0
Steps d (turns turn) old new = TakesTurn turn old new
Steps d begins_own old new = BeginsOwn (packet_begins d) old new
Steps d (passes_own at unit) old new = (units_of (written unit) ≡ Ok (unit ∷ [])) × IsOctets (written unit)
    × PassesOwn unit (units_pass d at (unit ∷ [])) old new
Steps d begins_other old new = Sees (packet_begins (other d)) old new
Steps d (passes_other at packet units) old new = IsOctets packet × (units_of packet ≡ Ok units)
    × PassesOther packet (units_pass (other d) at units) old new

-- one after the other
abbrev pub StepsAlong : Direction → Joint → List Step → Joint → Type 0
StepsAlong d old steps new = Along (Steps d) old steps new

-- nothing has happened yet
abbrev pub begin : Holding → Joint
begin holding = record { end = holding; put = []; begun = false; judge = fresh; coming = [] }
