-- The effect of feeding a piece of the stream.
use Rattle.std.specs.Prelude.{◌≡◌, ℕ, ◌+◌, ◌-◌, ◌≤◌, ◌<◌, ◌||◌, not, Bool, true, false, List, [], ◌∷◌, ◌++◌, length, take, drop, None, is_some, IsSome, ◌⊎◌, if◌then◌else◌}
use Rattle.osi_tpkt.specs.Packet.{IsPartial, IsFaultOf}
use Rattle.osi_tpkt.specs.Stream.{ArePackets, CutsFrom, offset_of}
use Rattle.osi_tpkt.specs.Stream.Ending.{Faulty}
use Rattle.osi_tpkt.specs.declared.cutting.Fed.{Fed}
use Rattle.osi_tpkt.specs.declared.faults.TpktFault.{TpktFault}
use Rattle.osi_carrier.specs.Feeding.{TakesAll}
use Rattle.osi_carrier.specs.Packets.{is_spoilt, HasToHold}
use Rattle.osi_carrier.specs.declared.ends.CarrierFault.TheVariants.{Tpkt}
use Rattle.osi_carrier.specs.declared.ends.EndReason.TheVariants.{Fault, NoMemory}
use Rattle.osi_stack.specs.Hearing.{after_packet, ends, Starves}
use Rattle.osi_stack.specs.State.{End, Holding, waits}

-- feeding stops after a packet that caused an indication, or ended the carrier
abbrev pub stops : End → Bool
stops e = is_some e.carrier.ended || waits e.lines

-- packets one after the other, only the last of which may have stopped
abbrev pub TakesPackets : End → List (List ℕ) → End → Type 0
TakesPackets old units new = TakesAll after_packet stops old units new

-- The whole piece was cut into packets, none of which stopped, and a rest that is held.
pub record RunsDry (old : Holding) (piece : List ℕ) (used : ℕ) (new : Holding) : Type 0 where
  pub units : List (List ℕ)
  pub all : used ≡ length piece
  pub packets : ArePackets units (old.held.octets ++ piece) new.held.octets
  pub partial : IsPartial new.held.octets
  pub taken : TakesPackets old.end units new.end
  pub quiet : stops new.end ≡ false
  pub offset : new.held.offset ≡ offset_of (old.held.offset + (length (old.held.octets ++ piece) - length new.held.octets))
  -- the room stays
  pub room : old.held.room ≤ new.held.room

-- if no indication is pending, or the carrier ended because of a fault or because memory ran out, the whole piece is
-- used
abbrev pub uses_all : End → Bool
uses_all e = is_spoilt e.carrier.ended || not (waits e.lines)

-- The piece up to `within` was cut into packets, the last of which stopped.
pub record StopsBehind (old : Holding) (piece : List ℕ) (used : ℕ) (new : Holding) : Type 0 where
  pub within : ℕ
  pub units : List (List ℕ)
  pub bound : within ≤ length piece
  pub packets : ArePackets units (old.held.octets ++ take within piece) []
  pub taken : TakesPackets old.end units new.end
  pub stopped : stops new.end ≡ true
  pub uses : used ≡ (if uses_all new.end then length piece else within)
  pub held : new.held.octets ≡ []
  pub offset : new.held.offset ≡ offset_of (old.held.offset + length (old.held.octets ++ take within piece))
  pub room : old.held.room ≤ new.held.room

-- The octets held and the piece have a fault after packets none of which stopped.
pub record Refuses (old : Holding) (piece : List ℕ) (used : ℕ) (new : Holding) : Type 0 where
  pub units : List (List ℕ)
  pub fault : TpktFault
  pub before : End
  pub all : used ≡ length piece
  pub cut : CutsFrom old.held.offset (old.held.octets ++ piece) units (Faulty fault)
  pub taken : TakesPackets old.end units before
  pub quiet : stops before ≡ false
  pub ended : new.end ≡ ends (Fault (Tpkt fault)) before
  pub held : new.held.octets ≡ []

-- Memory ran out for what is left of the piece. After a packet, none of it is held yet.
pub record FindsNoRoom (old : Holding) (piece : List ℕ) (within : ℕ) (rest : List ℕ) (before new : End) : Type 0 where
  pub ended : new ≡ ends NoMemory before
  pub first : (within ≡ 0) ⊎ (rest ≡ [])
  pub holds : HasToHold old.held.room rest (drop within piece)

-- Memory ran out for what belongs to a packet, or for the effect of the next packet. What follows the packets that took
-- effect has no fault; otherwise the end would have ended because of it.
pub record FindsNoMemory (old : Holding) (piece : List ℕ) (used : ℕ) (new : Holding) : Type 0 where
  pub within : ℕ
  pub units : List (List ℕ)
  pub rest : List ℕ
  pub before : End
  pub all : used ≡ length piece
  pub bound : within ≤ length piece
  pub packets : ArePackets units (old.held.octets ++ take within piece) rest
  pub taken : TakesPackets old.end units before
  pub quiet : stops before ≡ false
  pub how : FindsNoRoom old piece within rest before new.end ⊎ ((packet : List ℕ) × ArePackets (packet ∷ []) rest [] × Starves before packet new.end)
  pub held : new.held.octets ≡ []
  pub faultless : (at : ℕ) (fault : TpktFault) → IsFaultOf at (rest ++ drop within piece) fault → ⊥

-- feeding a piece if no indication is pending and the carrier has not ended
abbrev pub Goes : Holding → List ℕ → ℕ → Holding → Type 0
Goes old piece used new =
    (RunsDry old piece used new ⊎ StopsBehind old piece used new) ⊎ (Refuses old piece used new ⊎ FindsNoMemory old piece used new)

-- feeding a piece
pub record Feeds (old : Holding) (piece : List ℕ) (fed : Fed) (new : Holding) : Type 0 where
  -- after the end everything is used, and nothing changes
  pub over : IsSome old.end.carrier.ended → (fed.used ≡ length piece) × (new ≡ old)
  -- while an indication is pending nothing is used, and nothing changes
  pub waiting : old.end.carrier.ended ≡ None → waits old.end.lines ≡ true → (fed.used ≡ 0) × (new ≡ old)
  pub goes : stops old.end ≡ false → Goes old piece fed.used new
  pub whole : fed.whole ≡ waits new.end.lines
  pub bound : fed.used ≤ length piece
  -- if no indication is pending, some of a piece is used
  pub progress : waits old.end.lines ≡ false → 0 < length piece → 0 < fed.used
