-- What each call of a cutter does.
use Rattle.std.specs.Prelude.{◌≡◌, ℕ, ◌+◌, ◌<◌, ◌≤◌, List, [], ◌++◌, length, take, Some, None, Result, Ok, Err, MatchBool, true, IfOk}
use Rattle.osi_tpkt.specs.Packet.{IsPacket, IsOnePacket, IsPartial, IsFaultOf}
use Rattle.osi_tpkt.specs.Stream.{offset_of}
use Rattle.osi_tpkt.specs.Held.{Held}
use Rattle.osi_tpkt.specs.declared.faults.TpktFault.{TpktFault}
use Rattle.osi_tpkt.specs.declared.faults.TpktFault.TheVariants.{BadVersion, BadLength, OutOfMemory}
use Rattle.osi_tpkt.specs.declared.cutting.Fed.{Fed}

-- the cutter holds more octets, and gets room for them if it has none
pub record Gains (old : Held) (more : List ℕ) (new : Held) : Type 0 where
  pub octets : new ≡ record old { octets = old.octets ++ more; room = new.room }
  pub room : old.room ≤ new.room

-- how much of a piece belongs to the packet whose first octets are held: up to the end of the first packet that it
-- completes, or all of it
pub record Belongs (octets piece : List ℕ) (fed : Fed) : Type 0 where
  pub within : fed.used ≤ length piece
  pub whole : MatchBool fed.whole (IsOnePacket (octets ++ take fed.used piece))
      (IsPartial (octets ++ take fed.used piece) × (fed.used ≡ length piece))

-- what feeding a piece does if no packet is ready and no fault was returned. Either what belongs to the packet is held;
-- or the fault is kept and nothing is used; or an allocation fails and nothing changes
abbrev pub TakesPiece : Held → List ℕ → Result Fed TpktFault → Held → Type 0
TakesPiece old piece (Ok fed) new = Belongs old.octets piece fed × Gains old (take fed.used piece) new
TakesPiece old piece (Err (BadVersion at)) new =
    IsFaultOf old.offset (old.octets ++ piece) (BadVersion at) × (new ≡ record old { fault = Some (BadVersion at) })
TakesPiece old piece (Err (BadLength at)) new =
    IsFaultOf old.offset (old.octets ++ piece) (BadLength at) × (new ≡ record old { fault = Some (BadLength at) })
TakesPiece old piece (Err OutOfMemory) new =
    (fed : Fed) × Belongs old.octets piece fed × (old.room < length old.octets + fed.used) × (new ≡ old)

-- feeding a piece
pub record Feeds (old : Held) (piece : List ℕ) (result : Result Fed TpktFault) (new : Held) : Type 0 where
  pub used : IfOk result (λ fed. fed.used ≤ length piece)
  -- if a packet becomes ready, some of the piece was used
  pub progress : old.fault ≡ None → IsPartial old.octets → IfOk result (λ fed. fed.whole ≡ true → 0 < fed.used)
  pub standing : IsOnePacket old.octets → (result ≡ Ok (record { used = 0; whole = true })) × (new ≡ old)
  pub again : (f : TpktFault) → old.fault ≡ Some f → (result ≡ Err f) × (new ≡ old)
  pub taken : old.fault ≡ None → IsPartial old.octets → TakesPiece old piece result new

-- taking the complete packet with this transport unit at the front of a piece, without a copy
pub record Passes (old : Held) (unit piece : List ℕ) (new : Held) : Type 0 where
  pub empty : old.octets ≡ []
  pub faultless : old.fault ≡ None
  pub within : 4 + length unit ≤ length piece
  pub packet : IsPacket unit (take (4 + length unit) piece)
  pub after : new ≡ record old { offset = offset_of (old.offset + (4 + length unit)) }

-- dropping the packet that is ready
pub record Advances (old new : Held) : Type 0 where
  pub whole : (u : List ℕ) → IsPacket u old.octets →
      new ≡ record { offset = offset_of (old.offset + length old.octets); octets = []; fault = None; room = old.room }
  pub partial : IsPartial old.octets → new ≡ old
