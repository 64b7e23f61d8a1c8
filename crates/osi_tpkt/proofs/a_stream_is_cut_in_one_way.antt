-- A stream is cut into packets in one way.
use Rattle.std.proofs.Common.{◌≡◌, ℕ, zero, suc, ◌+◌, ◌-◌, ◌≤◌, ◌⊎◌, inl, inr, List, [], ◌∷◌, ◌++◌, length, get_or, take, drop, refl, sym}
use Rattle.std.proofs.Common.{◌∙◌, ap, subst, arith}
use Rattle.osi_tpkt.proofs.Vocabulary.{cases_lt, cases_eq, append_cancel_left, length-append, length-take-le, take-append-drop, append-nil}
use Rattle.osi_tpkt.proofs.Vocabulary.{IsOctets, IsPacket, IsPartial, IsBadVersion, IsBadLength, IsFaultOf, stated_length, ArePackets}
use Rattle.osi_tpkt.proofs.Vocabulary.{EndsAt, Cuts, offset_of, Ending, TpktFault, BadVersion, BadLength}
use Rattle.osi_unit.proofs.lists_of_octets_stay_octets.{octets_right}
use Rattle.osi_tpkt.proofs.no_packet_is_a_prefix_of_another.{packet_front, one_packet, stated_length-append}
use Rattle.osi_tpkt.specs.Stream.Ending.{Faulty, Rest}
use Rattle.osi_tpkt.proofs.a_prefix_of_a_packet.{full_packet, short_partial, partial_front, front_version, front_length, front_part}
use Rattle.osi_tpkt.proofs.a_prefix_of_a_packet.{one_fault, fault_behind}

-- no packet is ready at the front
abbrev NoPacket : List ℕ → Type 0
NoPacket r = (u b t : List ℕ) → IsPacket u b → r ≡ b ++ t → ⊥

pub fault_no_packet : (at : ℕ) (r : List ℕ) (f : TpktFault) → IsFaultOf at r f → (u b t : List ℕ) → IsPacket u b → r ≡ b ++ t → ⊥
fault_no_packet at r f h u b t p e = grind (arith, packet_front, front_version, front_length)

pub partial_no_packet : (r : List ℕ) → IsPartial r → (u b t : List ℕ) → IsPacket u b → r ≡ b ++ t → ⊥
partial_no_packet r h u b t p e = grind (arith, packet_front, length-append, stated_length-append, partial_front)

pub partial_no_fault : (at : ℕ) (r : List ℕ) (f : TpktFault) → IsPartial r → IsFaultOf at r f → ⊥
partial_no_fault at r f h k = grind (arith, fault_behind, partial_front r h, append-nil r)

pub end_no_packet : (at : ℕ) (r : List ℕ) (e : Ending) → EndsAt at r e → (u b t : List ℕ) → IsPacket u b → r ≡ b ++ t → ⊥
end_no_packet at r (Faulty f) h = fault_no_packet at r f h
end_no_packet at r (Rest n) h = partial_no_packet r h.0

-- two readings of a stream, up to octets with no packet at the front, are the same
one_reading : (us vs : List (List ℕ)) (s r q : List ℕ) → NoPacket r → NoPacket q → ArePackets us s r → ArePackets vs s q →
    (us ≡ vs) × (r ≡ q)
one_reading [] [] s r q nr nq h k = (refl, sym h ∙ k)
one_reading [] (v ∷ vs) s r q nr nq h k = absurd (nr v k.0 k.1 k.2 (sym h ∙ k.3))
one_reading (u ∷ us) [] s r q nr nq h k = absurd (nq u h.0 h.1 h.2 (sym k ∙ h.3))
one_reading (u ∷ us) (v ∷ vs) s r q nr nq h k =
    let one = one_packet u v h.0 k.0 h.1 k.1 h.2 k.2 (sym h.3 ∙ k.3) in
    let rest : h.1 ≡ k.1 = append_cancel_left k.0 h.1 k.1 (ap (λ x. x ++ h.1) (sym one.0) ∙ sym h.3 ∙ k.3) in
    let more = one_reading us vs h.1 r q nr nq h.4 (subst (λ x. ArePackets vs x q) (sym rest) k.4) in
    (ap (λ x. x ∷ us) one.1 ∙ ap (λ x. v ∷ x) more.0, more.1)

-- the same if an unfinished packet is left
pub one_list : (s r q : List ℕ) (us vs : List (List ℕ)) → IsPartial r → IsPartial q → ArePackets us s r → ArePackets vs s q →
    (us ≡ vs) × (r ≡ q)
one_list s r q us vs left right h k = one_reading us vs s r q (partial_no_packet r left) (partial_no_packet q right) h k

pub one_cut : (s : List ℕ) (us vs : List (List ℕ)) (e f : Ending) → Cuts s us e → Cuts s vs f → (us ≡ vs) × (e ≡ f)
one_cut s us vs e f h k =
    let one = one_reading us vs s h.0 k.0 (end_no_packet _ h.0 e h.2) (end_no_packet _ k.0 f k.2) h.1 k.1 in
    (one.0, grind (arith, one_fault, partial_no_fault))

-- what is at the front of octets: a packet, or an end of the stream
abbrev Front : List ℕ → Type 0
Front s = ((u : List ℕ) × (b : List ℕ) × (t : List ℕ) × IsPacket u b × (s ≡ b ++ t))
    ⊎ (IsBadVersion s ⊎ (IsBadLength s ⊎ IsPartial s))

front_whole : (s : List ℕ) → IsOctets s → get_or s 0 0 ≡ 3 → 4 ≤ length s → 7 ≤ stated_length s → stated_length s ≤ length s →
    (u : List ℕ) × (b : List ℕ) × (t : List ℕ) × IsPacket u b × (s ≡ b ++ t)
front_whole s octets version long least enough =
    let n : ℕ = stated_length s in
    grind (arith, front_part, stated_length-append, full_packet, take-append-drop n s, length-take-le n s enough)

front_of : (s : List ℕ) → IsOctets s → Front s
front_of [] octets = search (arith, short_partial)
front_of (a ∷ s) octets = elim (cases_eq a 3) [
  | inr other ↦ inr (inl (omega arith, other))
  | inl version ↦ grind (arith, short_partial, front_whole, cases_lt (length (a ∷ s)) 4)
]

some_end : (at : ℕ) (s : List ℕ) → IsBadVersion s ⊎ (IsBadLength s ⊎ IsPartial s) → (e : Ending) × EndsAt at s e
some_end at s (inl bad) = (Faulty (BadVersion at), (bad, refl))
some_end at s (inr (inl bad)) = (Faulty (BadLength at), (bad, refl))
some_end at s (inr (inr partial)) = (Rest (length s), (partial, refl))

-- the packets at the front of octets, of which there are at most this many, and what is left
some_packets : (fuel : ℕ) (s : List ℕ) → length s ≤ fuel → IsOctets s →
    (us : List (List ℕ)) × (r : List ℕ) × ArePackets us s r × (IsBadVersion r ⊎ (IsBadLength r ⊎ IsPartial r))
some_packets zero s few octets = grind (arith, front_of, packet_front, length-append)
some_packets (suc fuel) s few octets = elim (front_of s octets) [
  | inl h ↦
      let size = ap length h.4 ∙ length-append h.1 h.2 in
      let more = some_packets fuel h.2 (grind (arith, packet_front)) (octets_right h.1 h.2 (subst IsOctets h.4 octets)) in
      (h.0 ∷ more.0, more.1, (h.1, h.2, h.3, h.4, more.2), more.3)
  | inr end ↦ ([], s, refl, end)
]

pub some_cut : (s : List ℕ) → IsOctets s → (us : List (List ℕ)) × (e : Ending) × Cuts s us e
some_cut s octets =
    let packets = some_packets (length s) s (omega arith) octets in
    grind (arith, some_end (offset_of (0 + (length s - length packets.1))) packets.1 packets.3)
