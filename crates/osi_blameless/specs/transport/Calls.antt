-- What a whole end does as calls are made of its carrier, one after the other.
use Rattle.std.specs.Prelude.{◌≡◌, ℕ, List, [], ◌∷◌, ◌++◌, drop, None}
use Rattle.std.specs.List.{flat_map}
use Rattle.osi_tpkt.specs.Stream.{ArePackets}
use Rattle.osi_tpdu.specs.Value.{Value}
use Rattle.osi_carrier.specs.Happenings.{Happening}
use Rattle.osi_carrier.specs.Packets.{Carrying}
use Rattle.osi_carrier.specs.Runs.{Call, Calls, calling, carried_in, carrying, feeding, put_back, telling, told_in, used_in}
use Rattle.osi_rules.specs.declared.directions.Direction.{Direction}
use Rattle.osi_blameless.specs.Packets.{units_in}
use Rattle.osi_blameless.specs.transport.Wholes.{Becomes, MayCall, Whole}

-- a call of the user is one that is accepted
abbrev pub MayMake : Carrying → Call → Type 0
MayMake old (feeding piece fed) = Unit {0}
MayMake old (telling event) = Unit {0}
MayMake old (carrying octets) = Unit {0}
MayMake old (calling call) = MayCall call old.state

-- one after the other
abbrev pub MadeAlong : Carrying → List Call → Carrying → Type 0
MadeAlong old [] new = new ≡ old
MadeAlong old (call ∷ calls) new = (mid : Carrying) × Calls old call mid × MayMake old call × MadeAlong mid calls new

-- What is fed is pieces of this stream: each begins with the first octet that was not used before.
abbrev pub AreFedFrom : List ℕ → List Call → Type 0
AreFedFrom stream [] = Unit {0}
AreFedFrom stream (feeding piece fed ∷ calls) =
    (later : List ℕ) × (stream ≡ piece ++ later) × AreFedFrom (drop fed.used piece ++ later) calls
AreFedFrom stream (telling event ∷ calls) = AreFedFrom stream calls
AreFedFrom stream (carrying octets ∷ calls) = AreFedFrom stream calls
AreFedFrom stream (calling call ∷ calls) = AreFedFrom stream calls

-- The octets that the carrier held and the beginning of the stream are these packets and a rest. The whole end keeps the events that
-- were reported and the octets that were sent, before these calls (`told`, `carried`) and by them. If the units of the packets are
-- the next to come, the calls are events of it. As long as the carrier has not ended, none of these units is left, that beginning
-- is all that was used, and the carrier holds the rest.
pub record IsRun (d : Direction) (old : Carrying) (stream : List ℕ) (calls : List Call) (new : Carrying) : Type 0 where
  pub packets : List (List ℕ)
  pub fed : List ℕ
  pub after : List ℕ
  pub rest : List ℕ
  pub parts : stream ≡ fed ++ after
  pub cut : ArePackets packets (old.held.octets ++ fed) rest
  pub becomes : (told : List Happening) (carried : List ℕ) (w : Whole) (later : List Value) → w.end ≡ put_back told carried old.state →
      w.coming ≡ units_in packets ++ later →
      (b : Becomes d w (put_back (told ++ flat_map told_in calls) (carried ++ flat_map carried_in calls) new.state))
      × (new.state.ended ≡ None → b.coming ≡ later)
  pub keeps : new.state.ended ≡ None → (fed ≡ flat_map used_in calls) × (new.held.octets ≡ rest)
