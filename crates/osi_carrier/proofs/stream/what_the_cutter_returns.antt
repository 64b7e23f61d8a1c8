-- The result of the cutter, as the carrier's look at the stream.
use Rattle.osi_carrier.proofs.Vocabulary.{append-nil, take-append-drop, length-take-le, Held, IsHolding, IsPacket, IsOnePacket, IsPartial}
use Rattle.osi_carrier.proofs.Vocabulary.{IsFaultOf, offset_of, Fed, TpktFault, BadVersion, BadLength, OutOfMemory, PacketActs, EndsOver}
use Rattle.osi_carrier.proofs.Vocabulary.{IsNoFront, Carrying, HasToHold, Acts, after_refusal, ◌≡◌, ℕ, zero, suc, ◌+◌, ◌<◌, Bool, true}
use Rattle.osi_carrier.proofs.Vocabulary.{false, List, [], ◌++◌, length, take, drop, None, Result, Ok, Err, MatchBool, refl, sym, subst}
use Rattle.osi_carrier.proofs.Vocabulary.{arith, TakesPiece, Belongs, Passes}

-- a proper prefix of a packet is no packet
abbrev pub Proper : Type 0
Proper = (r : List ℕ) → IsPartial r → IsOnePacket r → ⊥

second_out : (b : Bool) (A B : Type 0) → MatchBool b A B → (B → ⊥) → b ≡ true
second_out b A B h never = grind arith

-- if any fault would have been answered, and none was
never_faulty : (at : ℕ) (octets : List ℕ) → ((f : TpktFault) → IsFaultOf at octets f → f ≡ OutOfMemory) → (place : ℕ) (f : TpktFault) →
    IsFaultOf place octets f → ⊥
never_faulty at octets only place (BadVersion o) h = let e = only (BadVersion at) (h.0, refl) in cc
never_faulty at octets only place (BadLength o) h = let e = only (BadLength at) (h.0, refl) in cc
never_faulty at octets only place OutOfMemory h = h

abbrev Refuses : TpktFault → Result Fed TpktFault
Refuses fault = Err fault

pub same_fault : (f fault : TpktFault) → Refuses fault ≡ Refuses f → f ≡ fault
same_fault f fault e = cc

-- what belongs to the packet is a part of the octets
some_belongs : Proper → (held octets : List ℕ) (used : ℕ) (whole : Bool) → IsPartial held → 0 < length octets →
    MatchBool whole (IsOnePacket (held ++ take used octets)) (IsPartial (held ++ take used octets) × (used ≡ length octets)) → 0 < used
some_belongs proper held octets zero true partial some h = absurd (proper held partial (subst IsOnePacket (append-nil held) h))
some_belongs proper held octets (suc n) true partial some h = omega arith
some_belongs proper held octets used false partial some h = let all = h.1 in omega arith

-- if the octets hold no complete packet, the piece is not complete
parted_belongs : (octets : List ℕ) (used : ℕ) (whole : Bool) → IsNoFront octets →
    MatchBool whole (IsOnePacket (take used octets)) (IsPartial (take used octets) × (used ≡ length octets)) → whole ≡ false
parted_belongs octets used true apart h = absurd (apart h.0 (take used octets) (drop used octets) h.1 (sym (take-append-drop used octets)))
parted_belongs octets used false apart h = refl

has_to_hold : Proper → (room : ℕ) (held octets : List ℕ) → IsPartial held → 0 < length octets → (held ≡ [] → IsNoFront octets) →
    (fed : Fed) → Belongs held octets fed → room < length held + fed.used → HasToHold room held octets
has_to_hold proper room held octets partial some parted fed belongs more = record {
  next = fed;
  belongs = belongs;
  some = some_belongs proper held octets fed.used fed.whole partial some belongs.whole;
  parted = λ none. parted_belongs octets fed.used fed.whole (parted none)
      (subst (λ h. MatchBool fed.whole (IsOnePacket (h ++ take fed.used octets))
      (IsPartial (h ++ take fed.used octets) × (fed.used ≡ length octets))) none belongs.whole);
  more = more;
}

pub ended_over : Proper → (old new : Carrying) (octets : List ℕ) (fault : TpktFault) (held : Held) → IsPartial old.held.octets →
    0 < length octets →
    (old.held.octets ≡ [] → IsNoFront octets) → TakesPiece old.held octets (Err fault) held →
    ((f : TpktFault) → IsFaultOf old.held.offset (old.held.octets ++ octets) f → f ≡ fault) →
    new.state ≡ after_refusal fault old.state → new.held.octets ≡ [] → EndsOver old octets new
ended_over proper old new octets (BadVersion at) held partial some parted taken only h none = grind arith
ended_over proper old new octets (BadLength at) held partial some parted taken only h none = grind arith
ended_over proper old new octets OutOfMemory held partial some parted taken only h none =
    grind (
      arith,
      never_faulty old.held.offset (old.held.octets ++ octets) only,
      has_to_hold proper old.held.room old.held.octets octets partial some parted taken.0 taken.1 taken.2,
    )

pub fetched_packet : Proper → IsPartial [] → (old new : Carrying) (octets : List ℕ) (fed : Fed) (held : Held) (packet : List ℕ) →
    TakesPiece old.held octets (Ok fed) held →
    IsPacket packet held.octets → (fed.whole ≡ true → 0 < fed.used) → Acts old.state packet new.state →
    new.held ≡ record { offset = offset_of (held.offset + length held.octets); octets = []; fault = None; room = held.room } →
    IsHolding new.held →
    PacketActs old octets fed.used new
fetched_packet proper nothing old new octets fed held packet taken stands progress acted advanced holding = grind (arith, second_out)

-- ---- a packet that is taken without a copy

pub passed_packet : IsPartial [] → (old new : Carrying) (octets packet : List ℕ) → Passes old.held packet octets new.held →
    IsHolding new.held →
    Acts old.state packet new.state → PacketActs old octets (4 + length packet) new
passed_packet nothing old new octets packet p holding acted = grind (arith, length-take-le)
