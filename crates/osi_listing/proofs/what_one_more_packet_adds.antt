-- The packets of a stream: what one more of them adds to the listing, and what is left after them.
use Rattle.osi_listing.proofs.Vocabulary.{◌≡◌, ◌≢◌, ◌∙◌, ℕ, ◌+◌, ◌-◌, Bool, true, false, MatchBool, List, [], ◌∷◌, ◌++◌, length, take, drop}
use Rattle.osi_listing.proofs.Vocabulary.{refl, sym, ap, subst, arith, Option, None, Result, Ok, Err, IfOk, OnOk, flat_map, append_assoc}
use Rattle.osi_listing.proofs.Vocabulary.{append-nil, length-append, take-append-drop, take_all, Gains, TakesPiece, Held, IsPacket}
use Rattle.osi_listing.proofs.Vocabulary.{IsOnePacket, IsPartial, IsFaultOf, ArePackets, offset_of, TpktFault, BadVersion, BadLength}
use Rattle.osi_listing.proofs.Vocabulary.{OutOfMemory, empty_partial, units_of, Work, none, packet_length, Part, Entry, line_of}
use Rattle.osi_listing.proofs.Vocabulary.{read_entries, read_parts, all_parts, packet_entries, Packet, Says, Holds, Moves, IsReady}
use Rattle.osi_listing.proofs.Vocabulary.{IsWithoutPacket, Leaves, OnlyHolds, Goes}
use Rattle.osi_listing.proofs.units_one_after_the_other.{says_both}

-- the octets of packets with these units
abbrev pub total_length : List (List ℕ) → ℕ
total_length [] = 0
total_length (u ∷ us) = packet_length u + total_length us

all_parts-push : (us : List (List ℕ)) (u : List ℕ) → all_parts (us ++ u ∷ []) ≡ all_parts us ++ read_parts (units_of u)
all_parts-push [] u = append-nil (read_parts (units_of u))
all_parts-push (v ∷ us) u = grind (arith, append_assoc, all_parts-push us u)

pub packets_total : (us : List (List ℕ)) (s r : List ℕ) → ArePackets us s r → length s ≡ total_length us + length r
packets_total [] s r h = let e = ap length h in omega arith
packets_total (u ∷ us) s r h = grind (arith, length-append, packets_total us h.1 r h.4)

packets_more : (us : List (List ℕ)) (s r u b t : List ℕ) → ArePackets us s r → IsPacket u b → r ≡ b ++ t → ArePackets (us ++ u ∷ []) s t
packets_more [] s r u b t h p e = (b, t, p, h ∙ e, refl)
packets_more (v ∷ us) s r u b t h p e = (h.0, h.1, h.2, h.3, packets_more us h.1 r u b t h.4 p e)

pub packets_longer : (us : List (List ℕ)) (s r more : List ℕ) → ArePackets us s r → ArePackets us (s ++ more) (r ++ more)
packets_longer [] s r more h = ap (λ x. x ++ more) h
packets_longer (u ∷ us) s r more h = search (arith, append_assoc, packets_longer us h.1 r more h.4)

-- one more packet
abbrev entries_of : ℕ → List Part → List ℕ → List Entry
entries_of at earlier u = Packet at u ∷ read_entries earlier (units_of u)

packet_entries-push : (at : ℕ) (earlier : List Part) (us : List (List ℕ)) (u : List ℕ) →
    packet_entries at earlier (us ++ u ∷ []) ≡ packet_entries at earlier us ++ entries_of (at + total_length us) (earlier ++ all_parts us) u
packet_entries-push at earlier [] u = grind (arith, append-nil)
packet_entries-push at earlier (v ∷ us) u =
    let parts : List Part = read_parts (units_of v) in
    grind (arith, append_assoc, packet_entries-push (at + packet_length v) (earlier ++ parts) us u)

-- ---- packets are listed, one after the other

pub moves_none : (old new : Work) (text rest : List ℕ) → OnlyHolds old new → Moves old text rest new text rest
moves_none old new text rest same = grind (arith, append-nil)

pub moves_both : (old mid new : Work) (a b c r s t : List ℕ) → Moves old a r mid b s → Moves mid b s new c t → Moves old a r new c t
moves_both old mid new a b c r s t h k = record {
  listed = λ stream lines few l.
      let one = h.listed stream lines few l in
      let two = k.listed stream (lines ++ one.0) few one.2 in grind (arith, append_assoc);
}

pub moves_packet : (old new : Work) (before after rest left u b : List ℕ) → IsPacket u b → rest ≡ b ++ left →
    ((e : List Part) → Holds old.streams e → Says before after old.counts new.counts (Packet old.offset u ∷ read_entries e (units_of u))) →
    ((e : List Part) → Holds old.streams e → Holds new.streams (e ++ read_parts (units_of u))) →
    new.offset ≡ offset_of (old.offset + packet_length u) → Moves old before rest new after left
moves_packet old new before after rest left u b p parted says holds place = record {
  listed = λ stream lines few h.
      let parts : List Part = all_parts h.units in
      let total = packets_total h.units stream rest h.packets in
      let size = ap length parted ∙ length-append b left in
      let at : old.offset ≡ 0 + total_length h.units = omega arith in
      let said = says parts h.holds in
      let more : List ℕ = flat_map line_of (entries_of old.offset parts u) in
      let entries : packet_entries 0 [] h.units ++ entries_of old.offset parts u ≡ packet_entries 0 [] (h.units ++ u ∷ []) =
      ap (λ n. packet_entries 0 [] h.units ++ entries_of n parts u) at ∙ sym (packet_entries-push 0 [] h.units u) in (
        more,
        said.text,
        record {
          units = h.units ++ u ∷ [];
          packets = packets_more h.units stream rest u b left h.packets p parted;
          says = subst (λ es. Says [] (lines ++ more) none new.counts es) entries
              (search (arith, says_both));
          holds = subst (λ ps. Holds new.streams ps) (sym (all_parts-push h.units u)) (holds parts h.holds);
          place = grind arith;
        },
      );
}

-- ---- what is held

pub held_whole : (whole : Bool) (used : ℕ) (octets piece : List ℕ) → whole ≡ true →
    MatchBool whole (IsOnePacket (octets ++ take used piece)) (IsPartial (octets ++ take used piece) × (used ≡ length piece)) →
    IsOnePacket (octets ++ take used piece)
held_whole whole used octets piece e part = grind arith

-- if no complete packet is at the front, everything is held
pub held_rest : (whole : Bool) (used : ℕ) (old new : Held) (rest : List ℕ) → IsReady old → IsWithoutPacket rest →
    MatchBool whole (IsOnePacket (old.octets ++ take used rest)) (IsPartial (old.octets ++ take used rest) × (used ≡ length rest)) →
    Gains old (take used rest) new → Leaves new rest None
held_rest true used old new rest ready without part gains =
    let packet : IsOnePacket (take used rest) = subst (λ o. IsOnePacket (o ++ take used rest)) ready.0 part in
    absurd (without packet.0 (take used rest) (drop used rest) packet.1 (sym (take-append-drop used rest)))
held_rest false used old new rest ready without part gains = grind (arith, empty_partial, take_all)

-- a fault other than out of memory is one of the stream
pub fault_told : (old new : Held) (piece : List ℕ) (f : TpktFault) → f ≢ OutOfMemory → TakesPiece old piece (Err f) new →
    (start : ℕ) × IsFaultOf start (old.octets ++ piece) f
fault_told old new piece (BadVersion at) known h = (old.offset, h.0)
fault_told old new piece (BadLength at) known h = (old.offset, h.0)
fault_told old new piece OutOfMemory known h = absurd (known refl)

pub fault_left : (old new : Held) (piece : List ℕ) (f g : TpktFault) → g ≡ f → g ≢ OutOfMemory → TakesPiece old piece (Err f) new →
    (start : ℕ) × IsFaultOf start (old.octets ++ piece) g
fault_left old new piece f g same known h = grind (arith, fault_told)

-- what was taken of a piece, and the rest of it
pub joined_again : (new held piece : List ℕ) (used : ℕ) → new ≡ held ++ take used piece → new ++ drop used piece ≡ held ++ piece
joined_again new held piece used e = grind (arith, append_assoc, take-append-drop)

pub only_held : (old new : Work) (before after rest : List ℕ) → OnlyHolds old new → after ≡ before → Moves old before rest new after rest
only_held old new before after rest same text = grind (arith, moves_none)

-- the complete packets in a piece, and then what is left of it
pub then_holds : {E : Type 0} (r : Result (Option TpktFault) E) (old mid last new : Work) (a b c piece rest left : List ℕ) →
    Moves old a (old.cutter.octets ++ piece) mid b rest → Moves mid b rest last c left → OnOk r (OnlyHolds last new) →
    IfOk r (λ f. Leaves new.cutter left f) → IfOk r (λ f. Goes old a piece f new c)
then_holds (Ok f) old mid last new a b c piece rest left one two same leaves = search (arith, moves_both, moves_none)
then_holds (Err e) old mid last new a b c piece rest left one two same leaves = tt
