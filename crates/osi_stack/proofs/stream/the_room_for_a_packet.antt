-- The room for the octets of a packet, and what happens if it is too small.
use Rattle.osi_stack.proofs.Vocabulary.{Held, IsFaultOf, ArePackets, TpktFault, packets_leave, HasToHold, NoMemory, FindsNoMemory, ends}
use Rattle.osi_stack.proofs.Vocabulary.{Starves, Holding, ◌≡◌, ℕ, ◌≤◌, List, [], ◌∷◌, ◌++◌, length, take, sym, subst, inl, inr, ◌⊎◌, arith}
use Rattle.osi_stack.proofs.Vocabulary.{length-append, append_assoc, fault_no_packet, empty_list}

-- the room stays over one more look
pub room_stays : (old now : ℕ) (told new : Held) → old ≤ now → now ≤ told.room → new ≡ told → old ≤ new.room
room_stays old now told new a b is = subst (λ (h : Held). old ≤ h.room) (sym is) (let stays : old ≤ told.room = omega arith in stays)

-- with less room they have to be held too
pub less_room : (room less : ℕ) (held left : List ℕ) → less ≤ room → HasToHold room held left → HasToHold less held left
less_room room less held left bound h = grind arith

-- octets that begin with a packet have no fault
pub packet_faultless : (u s more : List ℕ) → ArePackets (u ∷ []) s [] → (at : ℕ) (fault : TpktFault) → IsFaultOf at (s ++ more) fault → ⊥
packet_faultless u s more p at fault bad = grind (arith, fault_no_packet, append_assoc)

-- nothing was looked at so far, or nothing of a packet is held
pub first_part : (units : List (List ℕ)) (front held : List ℕ) (within : ℕ) (rest left : List ℕ) → (front ≡ []) ⊎ (held ≡ []) →
    (within ≡ 0) ⊎ (left ≡ []) →
    ArePackets units (held ++ take within rest) left → (length (front ++ take within rest) ≡ 0) ⊎ (left ≡ [])
first_part units front held within rest left at_first h7 packets = grind (arith, length, take, packets_leave, length-append, empty_list)

-- an end because memory runs out: after the packets that acted, or in the effect of the next one
pub found_how : (old : Holding) (piece : List ℕ) (used : ℕ) (new : Holding) (h : FindsNoMemory old piece used new) →
    (new.end ≡ ends NoMemory h.before) ⊎ ((packet : List ℕ) × ArePackets (packet ∷ []) h.rest [] × Starves h.before packet new.end)
found_how old piece used new h = elim (h.how) [ inl none ↦ inl none.ended | inr p ↦ inr p ]
