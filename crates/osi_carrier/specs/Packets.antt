-- The effect of packets on a carrier, and of feeding a piece of the stream.
use Rattle.std.specs.Prelude.{◌≡◌, ℕ, ◌+◌, ◌-◌, ◌<◌, ◌≤◌, ◌||◌, ◌==◌, not, Bool, true, false, List, [], ◌∷◌, ◌++◌, length, take, drop, Option, Some, None, is_some, IsSome, Result, Ok, Err, ◌⊎◌, if◌then◌else◌}
use Rattle.osi_tpkt.specs.Cutter.{Belongs}
use Rattle.osi_tpkt.specs.Held.{Held, IsHolding}
use Rattle.osi_tpkt.specs.Packet.{IsPartial, IsFaultOf}
use Rattle.osi_tpkt.specs.Stream.{ArePackets, CutsFrom, offset_of}
use Rattle.osi_tpkt.specs.Stream.Ending.{Faulty}
use Rattle.osi_tpkt.specs.declared.faults.TpktFault.{TpktFault}
use Rattle.osi_tpkt.specs.declared.cutting.Fed.{Fed}
use Rattle.osi_tpkt.specs.declared.faults.TpktFault.TheVariants.{BadVersion, BadLength, OutOfMemory}
use Rattle.osi_tpdu.specs.Packet.{units_of}
use Rattle.osi_tpdu.specs.Value.{Value}
use Rattle.osi_tpdu.specs.declared.faults.TpduFault.{TpduFault}
use Rattle.osi_carrier.specs.Feeding.{TakesAll}
use Rattle.osi_carrier.specs.Growth.{grows}
use Rattle.osi_carrier.specs.React.{react, reacts}
use Rattle.osi_carrier.specs.State.{State, ends, fails}
use Rattle.osi_carrier.specs.declared.ends.CarrierFault.TheVariants.{Tpkt, Tpdu}
use Rattle.osi_carrier.specs.declared.ends.EndReason.{EndReason}
use Rattle.osi_carrier.specs.declared.ends.EndReason.TheVariants.{Broken, Closed, PeerClosed, Fault, NoMemory}

-- ---- one packet

-- each of its units takes effect; if one is bad, none does
abbrev pub acts_by : Result (List Value) TpduFault → State → State
acts_by (Ok units) s = reacts units s
acts_by (Err fault) s = fails (Tpdu fault) s

-- the effect of a packet with this transport unit
unfoldable pub after_packet : State → List ℕ → State
after_packet s packet = acts_by (units_of packet) s

-- Memory ran out for one of the units: it had no effect, and those before it had not ended the carrier. With memory it
-- would have written, reported or kept something.
pub record RunsOut (old : State) (units : List Value) (new : State) : Type 0 where
  pub done : List Value
  pub next : Value
  pub more : List Value
  pub all : units ≡ done ++ (next ∷ more)
  pub lasts : (reacts done old).ended ≡ None
  pub ended : new ≡ ends NoMemory (reacts done old)
  pub needs : grows (reacts done old) (react next (reacts done old)) ≡ true

-- the effect of units: that of all, or memory ran out for one
abbrev pub Act : State → List Value → State → Type 0
Act old units new = (new ≡ reacts units old) ⊎ RunsOut old units new

abbrev pub ActsBy : Result (List Value) TpduFault → State → State → Type 0
ActsBy (Ok units) old new = Act old units new
ActsBy (Err fault) old new = new ≡ fails (Tpdu fault) old

-- the effect of a packet with this transport unit, with or without enough memory
abbrev pub Acts : State → List ℕ → State → Type 0
Acts old packet new = ActsBy (units_of packet) old new

-- the effect of a fault of the stream, or of running out of memory for its octets
abbrev pub after_refusal : TpktFault → State → State
after_refusal OutOfMemory s = ends NoMemory s
after_refusal (BadVersion offset) s = fails (Tpkt (BadVersion offset)) s
after_refusal (BadLength offset) s = fails (Tpkt (BadLength offset)) s

-- ---- a piece of the stream

-- the state of a carrier in contracts
pub record Carrying : Type 0 where
  pub state : State
  -- the unfinished packet
  pub held : Held

-- what a carrier holds of the unfinished packet
pub record IsReading (held : Held) : Type 0 where
  pub holding : IsHolding held
  pub partial : IsPartial held.octets
  pub fault : held.fault ≡ None

-- an event is queued
abbrev pub waits : State → Bool
waits s = not (length s.events == 0)

-- feeding stops after a packet that caused an event, or ended the carrier
abbrev pub stops : State → Bool
stops s = is_some s.ended || waits s

-- packets one after the other, only the last of which may have stopped
abbrev pub TakesPackets : State → List (List ℕ) → State → Type 0
TakesPackets old units new = TakesAll after_packet stops old units new

-- the carrier ended because of a fault of its peer, or because memory ran out
abbrev pub is_spoilt : Option EndReason → Bool
is_spoilt None = false
is_spoilt (Some Broken) = false
is_spoilt (Some Closed) = false
is_spoilt (Some (PeerClosed reason)) = false
is_spoilt (Some (Fault fault)) = true
is_spoilt (Some NoMemory) = true

-- The whole piece was cut into packets, none of which stopped, and a rest that is held.
pub record RunsDry (old : Carrying) (piece : List ℕ) (used : ℕ) (new : Carrying) : Type 0 where
  pub units : List (List ℕ)
  pub all : used ≡ length piece
  pub packets : ArePackets units (old.held.octets ++ piece) new.held.octets
  pub partial : IsPartial new.held.octets
  pub taken : TakesPackets old.state units new.state
  pub quiet : stops new.state ≡ false
  pub offset : new.held.offset ≡ offset_of (old.held.offset + (length (old.held.octets ++ piece) - length new.held.octets))
  -- the room stays
  pub room : old.held.room ≤ new.held.room

-- The piece up to `within` was cut into packets, the last of which stopped. All of the piece is used if the carrier
-- ended because of a fault.
pub record StopsBehind (old : Carrying) (piece : List ℕ) (used : ℕ) (new : Carrying) : Type 0 where
  pub within : ℕ
  pub units : List (List ℕ)
  -- some of it, and at least one packet
  pub some : 0 < within
  pub one : 0 < length units
  pub bound : within ≤ length piece
  pub packets : ArePackets units (old.held.octets ++ take within piece) []
  pub taken : TakesPackets old.state units new.state
  pub stopped : stops new.state ≡ true
  pub uses : used ≡ (if is_spoilt new.state.ended then length piece else within)
  pub held : new.held.octets ≡ []
  pub offset : new.held.offset ≡ offset_of (old.held.offset + length (old.held.octets ++ take within piece))
  pub room : old.held.room ≤ new.held.room

-- The octets held and the piece have a fault after packets none of which stopped.
pub record Refuses (old : Carrying) (piece : List ℕ) (used : ℕ) (new : Carrying) : Type 0 where
  pub units : List (List ℕ)
  pub fault : TpktFault
  pub before : State
  pub all : used ≡ length piece
  pub cut : CutsFrom old.held.offset (old.held.octets ++ piece) units (Faulty fault)
  pub taken : TakesPackets old.state units before
  pub quiet : stops before ≡ false
  pub ended : new.state ≡ fails (Tpkt fault) before
  pub held : new.held.octets ≡ []

-- Memory ran out for a unit of a packet.
abbrev pub Starves : State → List ℕ → State → Type 0
Starves old packet new = (units : List Value) × (units_of packet ≡ Ok units) × RunsOut old units new

-- Octets are left that belong to the unfinished packet, and need more room than there is. A packet that is complete
-- within what is left is not held.
pub record HasToHold (room : ℕ) (held left : List ℕ) : Type 0 where
  pub next : Fed
  pub belongs : Belongs held left next
  pub some : 0 < next.used
  pub parted : held ≡ [] → next.whole ≡ false
  pub more : room < length held + next.used

-- Memory ran out for what is left of the piece. After a packet, none of it is held yet.
pub record FindsNoRoom (old : Carrying) (piece : List ℕ) (within : ℕ) (rest : List ℕ) (before new : State) : Type 0 where
  pub ended : new ≡ ends NoMemory before
  pub first : (within ≡ 0) ⊎ (rest ≡ [])
  pub holds : HasToHold old.held.room rest (drop within piece)

-- Memory ran out for what belongs to a packet, or for a unit of the next packet. What follows the packets that took
-- effect has no fault; otherwise the carrier would have ended because of it.
pub record FindsNoMemory (old : Carrying) (piece : List ℕ) (used : ℕ) (new : Carrying) : Type 0 where
  pub within : ℕ
  pub units : List (List ℕ)
  pub rest : List ℕ
  pub before : State
  pub all : used ≡ length piece
  pub bound : within ≤ length piece
  pub packets : ArePackets units (old.held.octets ++ take within piece) rest
  pub taken : TakesPackets old.state units before
  pub quiet : stops before ≡ false
  pub how : FindsNoRoom old piece within rest before new.state ⊎ ((packet : List ℕ) × ArePackets (packet ∷ []) rest [] × Starves before packet new.state)
  pub held : new.held.octets ≡ []
  pub faultless : (at : ℕ) (fault : TpktFault) → IsFaultOf at (rest ++ drop within piece) fault → ⊥

-- feeding a piece if no event is queued and the carrier has not ended
abbrev pub Goes : Carrying → List ℕ → ℕ → Carrying → Type 0
Goes old piece used new =
    (RunsDry old piece used new ⊎ StopsBehind old piece used new) ⊎ (Refuses old piece used new ⊎ FindsNoMemory old piece used new)

-- feeding a piece
pub record Feeds (old : Carrying) (piece : List ℕ) (fed : Fed) (new : Carrying) : Type 0 where
  -- after the end everything is used, and nothing changes
  pub over : IsSome old.state.ended → (fed.used ≡ length piece) × (new ≡ old)
  -- while an event is queued nothing is used, and nothing changes
  pub waiting : old.state.ended ≡ None → waits old.state ≡ true → (fed.used ≡ 0) × (new ≡ old)
  pub goes : stops old.state ≡ false → Goes old piece fed.used new
  pub whole : fed.whole ≡ waits new.state
  pub bound : fed.used ≤ length piece
  -- if no event is queued, some of a piece that is not empty is used
  pub progress : waits old.state ≡ false → 0 < length piece → 0 < fed.used
