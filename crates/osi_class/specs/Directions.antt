-- The flow control of two links of class 2 and the units between them.
use Rattle.std.specs.Prelude.{◌≡◌, ℕ, ◌<◌, true, false, List, [], ◌∷◌, Some, None, ◌⊎◌}
use Rattle.std.specs.List.{flat_map}
use Rattle.osi_class.specs.Between.{LinkPair, AreOfClass}
use Rattle.osi_class.specs.Owed.{Direction, CreditStep, CreditSteps, InStep}
use Rattle.osi_class.specs.Flow.{Flow}
use Rattle.osi_class.specs.Link.{Given, part0, part2, ack}

abbrev pub unit_numbers : Given → List ℕ
unit_numbers (part0 end octets) = []
unit_numbers (part2 number end octets) = number ∷ []
unit_numbers (ack number credit) = []

abbrev pub ack_numbers : Given → List (ℕ × ℕ)
ack_numbers (part0 end octets) = []
ack_numbers (part2 number end octets) = []
ack_numbers (ack number credit) = (number, credit) ∷ []

-- the direction from left to right, if the links have these flows
abbrev pub direction : Flow → LinkPair → Flow → Direction
direction l p r = record {
  sender = l.sender;
  units = flat_map unit_numbers p.rightward;
  receiver = r.receiver;
  acks = flat_map ack_numbers p.leftward;
}

-- both links are of class 2, with these flows
pub record HaveFlows (p : LinkPair) (l r : Flow) : Type 0 where
  pub left : p.left.flow ≡ Some l
  pub right : p.right.flow ≡ Some r

-- nothing was changed, or one step was made
abbrev pub StepsOrStays : Direction → Direction → Type 0
StepsOrStays old new = (new ≡ old) ⊎ ((step : CreditStep) × CreditSteps step old new)

-- links of class 2 stay so, and the direction makes a step or stays
pub record TurnSteps (old : LinkPair) (l r : Flow) (new : LinkPair) : Type 0 where
  pub left_flow : Flow
  pub right_flow : Flow
  pub have : HaveFlows new left_flow right_flow
  pub steps : StepsOrStays (direction l old r) (direction left_flow new right_flow)

-- links of class 2 that agree on what is in flight from left to right, for this window
pub record Agree (p : LinkPair) (units : ℕ) : Type 0 where
  pub left_flow : Flow
  pub right_flow : Flow
  pub have : HaveFlows p left_flow right_flow
  pub known : ℕ
  pub in_step : InStep (direction left_flow p right_flow) known
  pub window : right_flow.receiver.window ≡ units
  pub class : AreOfClass true p.rightward

-- links of class 0, with only their units in flight from left to right
pub record AgreeZero (p : LinkPair) : Type 0 where
  pub left : p.left.flow ≡ None
  pub right : p.right.flow ≡ None
  pub class : AreOfClass false p.rightward

-- links of one class that agree, for a window of some units
abbrev pub AgreeInClass : LinkPair → Type 0
AgreeInClass p = AgreeZero p ⊎ ((units : ℕ) × (0 < units) × Agree p units)
