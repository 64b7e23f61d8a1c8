-- How an end and a judge go on after the other side has sent what can't be read.
use Rattle.std.specs.Prelude.{◌≡◌, ◌⊎◌, ℕ, List, [], ◌∷◌, ◌++◌, Result, Ok, Err}
use Rattle.std.specs.List.{AllByRecursion}
use Rattle.osi_unit.specs.Octets.{IsOctets}
use Rattle.osi_tpdu.specs.Packet.{units_of}
use Rattle.osi_tpdu.specs.Value.{Value}
use Rattle.osi_tpdu.specs.declared.faults.TpduFault.{TpduFault}
use Rattle.osi_side.specs.declared.directions.Direction.{Direction}
use Rattle.osi_side.specs.Captures.{Capture, other}
use Rattle.osi_blameless.specs.Packets.{units_by, units_in}
use Rattle.osi_judge.specs.declared.marks.Cause.{Cause}
use Rattle.osi_judge.specs.Courses.{units_pass, unread}
use Rattle.osi_judge.specs.States.{comes_to}
use Rattle.osi_blameless.specs.EndAndJudge.{Along, PassesOther}
use Rattle.osi_blameless.specs.Joint.{Joint, Step, Steps, begins_other, begins_own, passes_other, passes_own, turns}

-- What the other side sends at this offset can't be read. These are its packets: one whose units can't be read, or none if no packet
-- begins there.
abbrev pub spoilt : Direction → (at : ℕ) → Cause → List (List ℕ) → Joint → Joint
spoilt d at cause packets j = record j { judge = unread (other d) at cause j.judge; coming = j.coming ++ packets }

-- The effect of a step after that: a packet of the other side whose units can't be read passes without any.
abbrev pub LaterSteps : Direction → Step → Joint → Joint → Type 0
LaterSteps d (turns turn) old new = Steps d (turns turn) old new
LaterSteps d begins_own old new = Steps d begins_own old new
LaterSteps d (passes_own at unit) old new = Steps d (passes_own at unit) old new
LaterSteps d begins_other old new = Steps d begins_other old new
LaterSteps d (passes_other at packet units) old new = IsOctets packet × (units_by (units_of packet) ≡ units)
    × PassesOther packet (units_pass (other d) at units) old new

-- it is no packet of the other side that passes
abbrev pub IsNoPacket : Step → Type 0
IsNoPacket (passes_other at packet units) = ⊥
IsNoPacket step = Unit {0}

-- the units of a packet can't be read
abbrev pub IsUnread : Result (List Value) TpduFault → Type 0
IsUnread (Ok units) = ⊥
IsUnread (Err fault) = Unit {0}

-- one after the other
abbrev pub LaterAlong : Direction → Joint → List Step → Joint → Type 0
LaterAlong d old steps new = Along (LaterSteps d) old steps new

-- After this the other side sends what can't be read, a packet, or octets with which none begins, so that none passes any more. And then
-- the capture comes to what these steps come to.
pub record GoesOn (d : Direction) (capture : Capture) (last : Joint) : Type 0 where
  pub at : ℕ
  pub cause : Cause
  pub packets : List (List ℕ)
  pub none : units_in packets ≡ []
  pub steps : List Step
  pub end : Joint
  pub along : LaterAlong d (spoilt d at cause packets last) steps end
  pub all : (comes_to capture).course ≡ end.judge
  pub how : ((packet : List ℕ) × (packets ≡ packet ∷ []) × IsUnread (units_of packet))
      ⊎ ((packets ≡ []) × AllByRecursion IsNoPacket steps)
