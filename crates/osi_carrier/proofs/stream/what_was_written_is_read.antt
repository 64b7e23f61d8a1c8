-- Octets that a carrier wrote read back as the units that it wrote.
use Rattle.osi_carrier.proofs.Vocabulary.{AllByRecursion, append_cancel_left, get_or_append_left, take-append-drop, IsPacket, IsFaultOf}
use Rattle.osi_carrier.proofs.Vocabulary.{packet_of, one_packet, written_packet, ArePackets, TpktFault, OutOfMemory, units_of, Value}
use Rattle.osi_carrier.proofs.Vocabulary.{written, TpduFault, acts_by, after_packet, Starves, react, reacts, State, packets, ends, NoMemory}
use Rattle.osi_carrier.proofs.Vocabulary.{◌≡◌, ℕ, List, [], ◌∷◌, ◌++◌, length, map, take, drop, Result, Ok, sym, ap, ◌∙◌, arith}
use Rattle.osi_carrier.proofs.Vocabulary.{append_assoc, length-append, written_spells, units_only, IsSendable, AreComing}
use Rattle.osi_carrier.proofs.written.the_length_of_a_unit.{written_least}

pub all_behind : (us vs : List Value) → AllByRecursion IsSendable us → AllByRecursion IsSendable vs → AllByRecursion IsSendable (us ++ vs)
all_behind [] vs a b = b
all_behind (u ∷ us) vs a b = (a.0, all_behind us vs a.1 b)

-- ---- one unit

pub unit_packet : (unit : Value) → IsSendable unit → IsPacket (written unit) (packet_of (written unit))
unit_packet unit h = grind (arith, written_packet, written_least unit, written_spells unit h.fits)

pub unit_read : (unit : Value) → IsSendable unit → units_of (written unit) ≡ Ok (unit ∷ [])
unit_read unit h = units_only (written unit) (unit ∷ []) (written_spells unit h.fits)

-- a packet of one unit does what the unit does
pub packet_reacts : (s : State) (unit : Value) → IsSendable unit → after_packet s (written unit) ≡ react unit s
unfolding after_packet
packet_reacts s unit h = ap (λ (r : Result (List Value) TpduFault). acts_by r s) (unit_read unit h)

-- ---- packets

-- packets at the front of what was written
pub record Fronts (units : List (List ℕ)) (coming : List Value) (r t : List ℕ) : Type 0 where
  pub done : List Value
  pub left : List Value
  pub parts : coming ≡ done ++ left
  pub are : units ≡ map written done
  pub sendable : AllByRecursion IsSendable done
  pub rest : AreComing r t left

pub units_front : (units : List (List ℕ)) (coming : List Value) (s r t : List ℕ) → AllByRecursion IsSendable coming → ArePackets units s r →
    s ++ t ≡ packets coming →
    Fronts units coming r t
units_front [] coming s r t all h e = grind arith
units_front (u ∷ us) [] s r t all h e = grind (arith, length-append)
units_front (u ∷ us) (v ∷ vs) s r t all h e =
    let packet = unit_packet v all.0 in
    let same : h.0 ++ (h.1 ++ t) ≡ packet_of (written v) ++ packets vs = sym (append_assoc h.0 h.1 t) ∙ ap (λ l. l ++ t) (sym h.3) ∙ e in
    let one = one_packet u (written v) h.0 (packet_of (written v)) (h.1 ++ t) (packets vs) h.2 packet same in
    let behind : h.1 ++ t ≡ packets vs =
    append_cancel_left (packet_of (written v)) (h.1 ++ t) (packets vs) (ap (λ l. l ++ (h.1 ++ t)) (sym one.0) ∙ same) in
    let more = units_front us vs h.1 r t all.1 h.4 behind in
    record {
      done = v ∷ more.done;
      left = more.left;
      parts = ap (λ l. v ∷ l) more.parts;
      are = ap (λ x. x ∷ us) one.1 ∙ ap (λ l. written v ∷ l) more.are;
      sendable = (all.0, more.sendable);
      rest = more.rest;
    }

short_none : (r t : List ℕ) → r ++ t ≡ [] → length r ≡ 0
short_none r t e = let total = length-append r t in let none = ap length e in omega arith

pub fault_free : (at : ℕ) (r t : List ℕ) (f : TpktFault) (units : List Value) → AreComing r t units → IsFaultOf at r f → ⊥
fault_free at r t f (u ∷ us) c bad = grind (arith, get_or_append_left)
fault_free at r t OutOfMemory [] c bad = bad
fault_free at r t f [] c bad = let none = short_none r t c.octets in let some = bad.0.0 in omega arith

-- ---- feeding

-- one unit for which memory ran out had done nothing
pub alone_starved : (old new : State) (unit : Value) (done more : List Value) (next : Value) → unit ∷ [] ≡ done ++ (next ∷ more) →
    new ≡ ends NoMemory (reacts done old) → new ≡ ends NoMemory old
alone_starved old new unit [] more next e is = is
alone_starved old new unit (d ∷ []) more next e is = cc
alone_starved old new unit (d ∷ f ∷ ds) more next e is = cc

pub starved_unit : (old new : State) (packet : List ℕ) (unit : Value) → IsSendable unit → packet ≡ written unit → Starves old packet new →
    new ≡ ends NoMemory old
starved_unit old new packet unit sendable is h =
    let same : Ok (unit ∷ []) ≡ Ok h.0 = sym (unit_read unit sendable) ∙ ap units_of (sym is) ∙ h.1 in
    let us : unit ∷ [] ≡ h.0 = cc in
    alone_starved old new unit h.2.done h.2.more h.2.next (us ∙ h.2.all) h.2.ended

-- the packets of a prefix of what is in flight
pub reads_part : (held outgoing : List ℕ) (coming : List Value) (n : ℕ) (units : List (List ℕ)) (r : List ℕ) →
    AreComing held outgoing coming →
    ArePackets units (held ++ take n outgoing) r → Fronts units coming r (drop n outgoing)
reads_part held outgoing coming n units r c h = grind (arith, units_front, append_assoc, take-append-drop)
