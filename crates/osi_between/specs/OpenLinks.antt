-- The two links of a connection that is open at both ends, as carriers leave them between calls, and the effect of a
-- call at one end.
use Rattle.std.specs.Prelude.{◌≡◌, ℕ, ◌<◌, Bool, true, false, List, [], ◌++◌, take, None, Ok}
use Rattle.std.specs.List.{AllByRecursion}
use Rattle.osi_unit.specs.Octets.{IsOctets}
use Rattle.osi_tpdu.specs.Value.{Value}
use Rattle.osi_class.specs.Between.{LinkPair, swapped, under_way, HasWholeTsdus, IsShortTsdu}
use Rattle.osi_class.specs.Directions.{Agree, AgreeZero}
use Rattle.osi_class.specs.Giving.{all_given}
use Rattle.osi_class.specs.Link.{Standing, Given, next, taken, with_tsdu}
use Rattle.osi_class.specs.Sound.{IsSound, HasGivenInRange}
use Rattle.osi_carrier.specs.Pump.{pumped}
use Rattle.osi_carrier.specs.React.{handed_out}

-- a link within its bounds, with octets to send
pub record IsWell (link : Standing) : Type 0 where
  pub sound : IsSound link
  pub octets : AllByRecursion IsOctets link.ends.unsent

-- a link between calls: everything that it may send was given, and each complete TSDU was handed out
pub record IsSettled (link : Standing) : Type 0 where
  pub limit : 0 < link.ends.limit
  pub handed : link.ends.joining.whole ≡ []
  pub given : next link ≡ None
  pub well : IsWell link

-- two links of class 2 that agree, for some window each way
pub record AgreeTwo (p : LinkPair) : Type 0 where
  pub window : ℕ
  pub back : ℕ
  pub some : 0 < window
  pub some_back : 0 < back
  pub agree : Agree p window
  pub agree_back : Agree (swapped p) back

-- two links of class 0 that agree each way
pub record AgreeNone (p : LinkPair) : Type 0 where
  pub agree : AgreeZero p
  pub agree_back : AgreeZero (swapped p)

-- links of class 2, or of class 0
abbrev pub AgreeIn : Bool → LinkPair → Type 0
AgreeIn true p = AgreeTwo p
AgreeIn false p = AgreeNone p

-- two open links of a class that agree: no unit between them is refused
pub record AreOpen (two : Bool) (p : LinkPair) : Type 0 where
  pub agree : AgreeIn two p
  pub whole : HasWholeTsdus p
  pub whole_back : HasWholeTsdus (swapped p)
  pub short : AllByRecursion IsShortTsdu (under_way p)
  pub short_back : AllByRecursion IsShortTsdu (under_way (swapped p))
  pub range : AllByRecursion HasGivenInRange p.rightward
  pub range_back : AllByRecursion HasGivenInRange p.leftward
  pub left : IsSettled p.left
  pub right : IsSettled p.right

-- links with these units in flight, the oldest first
abbrev pub links : Standing → List Given → Standing → List Given → LinkPair
links left rightward right leftward = record { left = left; rightward = rightward; right = right; leftward = leftward }

-- The effect of a call at the left, between `old` and `new`: the TSDUs `ins` were handed in there, and `outs` handed
-- out.
pub record Passes (two : Bool) (old new : LinkPair) (ins outs : List (List ℕ)) : Type 0 where
  -- what is in flight to the right
  pub rightward : under_way old ++ ins ≡ under_way new
  -- what is in flight to the left
  pub leftward : under_way (swapped old) ≡ outs ++ under_way (swapped new)
  pub stay_open : AreOpen two new

-- a TSDU is handed in at the left, and everything that may be sent now is given
abbrev pub after_send : LinkPair → List ℕ → LinkPair
after_send p tsdu = links (pumped (with_tsdu p.left tsdu)) (p.rightward ++ all_given (with_tsdu p.left tsdu)) p.right p.leftward

-- the left link after it took the oldest unit: its first complete TSDU is handed out, and everything that may be sent
-- now is given
abbrev pub after_take : LinkPair → Standing → List Given → LinkPair
after_take p link rest = links (pumped (handed_out link)) (p.rightward ++ all_given (handed_out link)) p.right rest

-- the left link takes this unit, after which these are in flight to it
pub record LeftTakes (two : Bool) (p : LinkPair) (unit : Value) (rest : List Given) : Type 0 where
  pub link : Standing
  pub taken : taken p.left unit ≡ Ok link
  pub passes : Passes two p (after_take p link rest) [] (take 1 link.ends.joining.whole)
