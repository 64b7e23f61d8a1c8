-- Packets at the front of octets, with others after them: two lists of packets at the front of the same octets.
-- For what takes the packets of octets that arrive in pieces.
use Rattle.osi_carrier.proofs.Vocabulary.{append-nil, take_all, take-append-drop, append_cancel_left, get_or_append_left, IsPacket}
use Rattle.osi_carrier.proofs.Vocabulary.{IsOnePacket, IsPartial, IsFaultOf, one_packet, stated_length-append, ArePackets, offset_of}
use Rattle.osi_carrier.proofs.Vocabulary.{TpktFault, fault_no_packet, partial_no_fault, partial_no_packet, ◌≡◌, ℕ, ◌+◌, ◌-◌, ◌≤◌, Bool}
use Rattle.osi_carrier.proofs.Vocabulary.{true, false, List, [], ◌∷◌, ◌++◌, length, take, drop, refl, sym, ap, subst, ◌∙◌, ◌⊎◌, inl, inr}
use Rattle.osi_carrier.proofs.Vocabulary.{arith, append_assoc, length-append, if◌then◌else◌}
use Rattle.osi_carrier.proofs.stream.a_piece_is_read_packet_by_packet.{packets_more}

-- the laws of packets that an end is given
pub record PacketLaws : Type 0 where
  pub one : (u v b c x y : List ℕ) → IsPacket u b → IsPacket v c → b ++ x ≡ c ++ y → (b ≡ c) × (u ≡ v)
  pub front : (r more : List ℕ) → IsPartial (r ++ more) → IsPartial r
  pub proper : (r : List ℕ) → IsPartial r → IsOnePacket r → ⊥

-- ---- two lists of packets

-- one continues where the other ends
pub record Further (us vs : List (List ℕ)) (q r : List ℕ) : Type 0 where
  pub more : List (List ℕ)
  pub all : us ≡ vs ++ more
  pub packets : ArePackets more q r

abbrev pub Compared : List (List ℕ) → List (List ℕ) → List ℕ → List ℕ → Type 0
Compared us vs q r = Further us vs q r ⊎ Further vs us r q

further : (u v : List ℕ) (us vs : List (List ℕ)) (q r : List ℕ) → u ≡ v → Compared us vs q r → Compared (u ∷ us) (v ∷ vs) q r
further u v us vs q r e h = grind arith

pub compare : (us vs : List (List ℕ)) (s r q : List ℕ) → ArePackets us s r → ArePackets vs s q → Compared us vs q r
compare [] vs s r q h k = inr (record { more = vs; all = refl; packets = subst (λ l. ArePackets vs l q) h k })
compare (u ∷ us) [] s r q h k = inl (record { more = u ∷ us; all = refl; packets = subst (λ l. ArePackets (u ∷ us) l r) k h })
compare (u ∷ us) (v ∷ vs) s r q h k =
    let same : h.0 ++ h.1 ≡ k.0 ++ k.1 = sym h.3 ∙ k.3 in
    let one = one_packet u v h.0 k.0 h.1 k.1 h.2 k.2 same in
    let behind : h.1 ≡ k.1 = append_cancel_left k.0 h.1 k.1 (ap (λ l. l ++ h.1) (sym one.0) ∙ same) in
    further u v us vs q r one.1 (compare us vs k.1 r q (subst (λ l. ArePackets us l r) behind h.4) k.4)

-- after a part of a packet there is no other packet
part_last : (us vs more : List (List ℕ)) (r q : List ℕ) → IsPartial r → vs ≡ us ++ more → ArePackets more r q → Further us vs q r
part_last us vs [] r q partial all h = record { more = []; all = sym (all ∙ append-nil us) ∙ sym (append-nil vs); packets = sym h }
part_last us vs (u ∷ more) r q partial all h = absurd (partial_no_packet r partial u h.0 h.1 h.2 h.3)

-- so packets up to such a part continue all others
pub up_to_part : (us vs : List (List ℕ)) (s r q : List ℕ) → IsPartial r → ArePackets us s r → ArePackets vs s q → Further us vs q r
up_to_part us vs s r q partial h k =
    elim (compare us vs s r q h k) [ inl x ↦ x | inr x ↦ part_last us vs x.more r q partial x.all x.packets ]

-- the packets before the last one
pub init_front : (before ws ms : List (List ℕ)) (last m : List ℕ) → before ++ last ∷ [] ≡ ws ++ m ∷ ms →
    (more : List (List ℕ)) × (before ≡ ws ++ more)
init_front before [] ms last m e = (before, refl)
init_front [] (w ∷ []) ms last m e = let none : [] ≡ m ∷ ms = cc in cc
init_front [] (w ∷ x ∷ ws) ms last m e = let none : [] ≡ x ∷ (ws ++ m ∷ ms) = cc in cc
init_front (b ∷ before) (w ∷ ws) ms last m e =
    let same : before ++ last ∷ [] ≡ ws ++ m ∷ ms = cc in
    grind (arith, init_front before ws ms last m same)

-- ---- faults

pub fault_behind : (at : ℕ) (r t : List ℕ) (f : TpktFault) → IsFaultOf at r f → IsFaultOf at (r ++ t) f
fault_behind at r t f h = grind (arith, length-append, get_or_append_left, stated_length-append)

pub no_fault : (at : ℕ) (ws : List (List ℕ)) (r rest : List ℕ) (f : TpktFault) → IsFaultOf at r f → IsPartial rest →
    ArePackets ws r rest → ⊥
no_fault at [] r rest f fault partial h = partial_no_fault at r f (subst IsPartial (sym h) partial) fault
no_fault at (u ∷ ws) r rest f fault partial h = fault_no_packet at r f fault u h.0 h.1 h.2 h.3

-- ---- the octets of a piece that were used

-- the octets up to the packet that stopped come before those that were used
pub front_used : (b : Bool) (piece : List ℕ) (used within : ℕ) → within ≤ length piece → used ≡ (if b then length piece else within) →
    (t : List ℕ) × (take used piece ≡ take within piece ++ t)
front_used true piece used within bound e = (drop within piece, take_all used piece (omega arith) ∙ sym (take-append-drop within piece))
front_used false piece used within bound e = ([], ap (λ n. take n piece) e ∙ sym (append-nil (take within piece)))

-- packets of the first octets, with all later ones after them
pub packets_within : (units : List (List ℕ)) (held used within front later rest : List ℕ) → used ≡ within ++ front →
    ArePackets units (held ++ within) rest →
    ArePackets units (held ++ (used ++ later)) (rest ++ (front ++ later))
packets_within units held used within front later rest same h =
    grind (arith, append_assoc, packets_more units (held ++ within) rest (front ++ later) h)

-- ---- places

pub at_same : (at : ℕ) (s r t : List ℕ) → at + (length s - length r) ≡ at + (length (s ++ t) - length (r ++ t))
at_same at s r t = let a = length-append s t in let b = length-append r t in omega arith

-- the offset after two runs of octets, each with some octets held
pub offsets_more : (at mid : ℕ) (held octets between later rest : List ℕ) →
    mid ≡ offset_of (at + (length (held ++ octets) - length between)) → length between ≤ length (held ++ octets) →
    length rest ≤ length (between ++ later) →
    offset_of (mid + (length (between ++ later) - length rest)) ≡ offset_of (at + (length (held ++ (octets ++ later)) - length rest))
offsets_more at mid held octets between later rest is less few =
    let a = length-append held octets in
    let b = length-append between later in
    let c = length-append held (octets ++ later) in
    let d = length-append octets later in
    omega arith
