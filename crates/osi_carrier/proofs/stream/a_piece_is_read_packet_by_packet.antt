-- Reading a piece of the stream, packet by packet.
use Rattle.osi_carrier.proofs.Vocabulary.{append-nil, take-append-drop, take_at, IsPacket, IsFaultOf, ArePackets, offset_of, Fed, TpktFault}
use Rattle.osi_carrier.proofs.Vocabulary.{PacketActs, PartHeld, Faults, LacksRoom, EndsOver, Carrying, IsReading, Acts, after_packet, stops}
use Rattle.osi_carrier.proofs.Vocabulary.{waits, is_spoilt, TakesPackets, StopsBehind, Starves, FindsNoMemory, Goes, Feeds, State, ◌≡◌, ℕ}
use Rattle.osi_carrier.proofs.Vocabulary.{◌+◌, ◌-◌, ◌<◌, ◌≤◌, ◌||◌, true, false, List, [], ◌∷◌, ◌++◌, length, take, drop, is_some, refl}
use Rattle.osi_carrier.proofs.Vocabulary.{sym, ap, subst, ◌∙◌, inl, inr, ◌⊎◌, arith, length-append, length-take, append_assoc}
use Rattle.osi_carrier.proofs.Vocabulary.{if◌then◌else◌, drop-append_seam}

-- ---- packets

pub takes_snoc : (s mid : State) (units : List (List ℕ)) (packet : List ℕ) → TakesPackets s units mid → stops mid ≡ false →
    TakesPackets s (units ++ packet ∷ []) (after_packet mid packet)
takes_snoc s mid [] packet h quiet = (subst (λ (t : State). stops t ≡ false) h quiet, ap (λ t. after_packet t packet) h)
takes_snoc s mid (u ∷ units) packet h quiet = (h.0, takes_snoc (after_packet s u) mid units packet h.1 quiet)

pub packets_more : (units : List (List ℕ)) (s r t : List ℕ) → ArePackets units s r → ArePackets units (s ++ t) (r ++ t)
packets_more [] s r t h = ap (λ l. l ++ t) h
packets_more (u ∷ units) s r t h = search (arith, append_assoc, packets_more units h.1 r t h.4)

pub packets_snoc : (units : List (List ℕ)) (s r : List ℕ) (packet : List ℕ) → ArePackets units s r → IsPacket packet r →
    ArePackets (units ++ packet ∷ []) s []
packets_snoc [] s r packet h p = (s, [], subst (IsPacket packet) (sym h) p, sym (append-nil s), refl)
packets_snoc (u ∷ units) s r packet h p = (h.0, h.1, h.2, h.3, packets_snoc units h.1 r packet h.4 p)

pub packets_leave : (units : List (List ℕ)) (s r : List ℕ) → ArePackets units s r → length r ≤ length s
packets_leave [] s r h = let same = ap length h in omega arith
packets_leave (u ∷ units) s r h = grind (arith, length-append, packets_leave units h.1 r h.4)

pub acts_cases : (old new : State) (packet : List ℕ) → Acts old packet new → (new ≡ after_packet old packet) ⊎ Starves old packet new
unfolding after_packet
acts_cases old new packet h = grind arith

-- ---- the progress of reading a piece

-- the packets before `rest` have acted, and none of them stopped
pub record IsRead (old : Carrying) (piece : List ℕ) (now : Carrying) (rest : List ℕ) : Type 0 where
  pub front : List ℕ
  pub units : List (List ℕ)
  pub cut : piece ≡ front ++ rest
  pub packets : ArePackets units (old.held.octets ++ front) now.held.octets
  pub taken : TakesPackets old.state units now.state
  pub quiet : stops now.state ≡ false
  pub reading : IsReading now.held
  pub offset : now.held.offset ≡ offset_of (old.held.offset + (length (old.held.octets ++ front) - length now.held.octets))
  -- nothing of the piece is held
  pub first : (front ≡ []) ⊎ (now.held.octets ≡ [])
  pub room : old.held.room ≤ now.held.room
  -- there is a piece, and nothing had stopped
  pub some : 0 < length piece
  pub begun : stops old.state ≡ false

pub read_first : (old : Carrying) (piece : List ℕ) → is_some old.state.ended ≡ false → waits old.state ≡ false → IsReading old.held →
    (length piece ≡ 0 → ⊥) → IsRead old piece old piece
read_first old piece alive none_waits reading some =
    let bound = reading.holding.offset in
    let none = length-append old.held.octets [] in
    let quiet : stops old.state ≡ false = ap (λ b. b || waits old.state) alive ∙ none_waits in
    record {
      front = [];
      units = [];
      cut = refl;
      packets = append-nil old.held.octets;
      taken = refl;
      quiet = quiet;
      reading = reading;
      offset = omega arith;
      first = inl refl;
      room = omega arith;
      some = omega arith;
      begun = quiet;
    }

-- this much of the piece was looked at
looked : (piece front rest : List ℕ) (used : ℕ) → piece ≡ (front ++ take used rest) ++ drop used rest →
    (take (length (front ++ take used rest)) piece ≡ front ++ take used rest) × (length (front ++ take used rest) ≤ length piece)
looked piece front rest used cut = grind (arith, length-append, take_at)

-- ---- the next packet

module _ (old : Carrying) (piece : List ℕ) (now : Carrying) (rest : List ℕ) (read : IsRead old piece now rest) where
  record Behind (used : ℕ) (new : Carrying) (packet : List ℕ) : Type 0 where
    cut : piece ≡ (read.front ++ take used rest) ++ drop used rest
    packets : ArePackets (read.units ++ packet ∷ []) (old.held.octets ++ (read.front ++ take used rest)) []
    offset : new.held.offset ≡ offset_of (old.held.offset + length (old.held.octets ++ (read.front ++ take used rest)))

  behind : (used : ℕ) (new : Carrying) (acts : PacketActs now rest used new) → Behind used new acts.packet
  behind used new acts =
      let left = packets_leave read.units (old.held.octets ++ read.front) now.held.octets read.packets in
      let more = packets_more read.units (old.held.octets ++ read.front) now.held.octets (take used rest) read.packets in
      let parts = take-append-drop used rest in
      grind (arith, append_assoc, length-append, packets_snoc)

  pub read_next : (used : ℕ) (new : Carrying) → PacketActs now rest used new → stops new.state ≡ false →
      IsRead old piece new (drop used rest)
  read_next used new acts quiet = let b = behind used new acts in grind (arith, after_packet, acts_cases, takes_snoc)

  stopped_by : (used uses : ℕ) (new : Carrying) (acts : PacketActs now rest used new) →
      new.state ≡ after_packet now.state acts.packet → stops new.state ≡ true →
      uses ≡ (if is_spoilt new.state.ended then length piece else length (read.front ++ take used rest)) → StopsBehind old piece uses new
  stopped_by used uses new acts same stopped e =
      let b = behind used new acts in
      let seen = looked piece read.front rest used b.cut in
      let taken = takes_snoc old.state now.state read.units acts.packet read.taken read.quiet in
      grind (arith, length-append read.front (take used rest), length-take used rest, length-append read.units (acts.packet ∷ []))

  pub read_stops : (used : ℕ) (new : Carrying) → PacketActs now rest used new → stops new.state ≡ true →
      is_spoilt new.state.ended ≡ false → Goes old piece (length piece - length (drop used rest)) new
  read_stops used new acts stopped sound =
      let b = behind used new acts in
      let same : new.state ≡ after_packet now.state acts.packet =
      elim (acts_cases now.state new.state acts.packet acts.acted)
      [ inl h ↦ h | inr h ↦ (let over : is_spoilt new.state.ended ≡ true = ap (λ (s : State). is_spoilt s.ended) h.2.ended in cc) ] in
      let sizes = ap length b.cut ∙ length-append (read.front ++ take used rest) (drop used rest) in
      let uses : length piece - length (drop used rest) ≡ length (read.front ++ take used rest) = omega arith in
      inl (inr (stopped_by used (length piece - length (drop used rest)) new acts same stopped (rw sound uses)))

  starved_by : (used : ℕ) (new : Carrying) (acts : PacketActs now rest used new) → Starves now.state acts.packet new.state →
      FindsNoMemory old piece (length piece) new
  starved_by used new acts starves =
      let b = behind used new acts in
      let seen = looked piece read.front rest used b.cut in
      record {
        within = length (read.front ++ take used rest);
        units = read.units;
        rest = now.held.octets ++ take used rest;
        before = now.state;
        all = refl;
        bound = seen.1;
        packets = grind (arith, append_assoc, packets_more);
        taken = read.taken;
        quiet = read.quiet;
        how = inr (
          acts.packet,
          (now.held.octets ++ take used rest, [], acts.whole, sym (append-nil (now.held.octets ++ take used rest)), refl),
          starves,
        );
        held = acts.held;
        faultless = grind arith;
      }

  pub read_spoilt : (used : ℕ) (new : Carrying) → PacketActs now rest used new → is_spoilt new.state.ended ≡ true →
      Goes old piece (length piece) new
  read_spoilt used new acts spoilt = elim (acts_cases now.state new.state acts.packet acts.acted) [
    | inl h ↦ inl (inr (stopped_by used (length piece) new acts h (grind arith) (rw spoilt refl)))
    | inr h ↦ inr (inr (starved_by used new acts h))
  ]

  -- ---- the rest of the piece

  pub read_part : (new : Carrying) → PartHeld now rest new → Goes old piece (length piece) new
  read_part new part = grind (arith, append_assoc, packets_more, length-append)

  over_by : (new : Carrying) → new.held.octets ≡ [] → Faults now rest new ⊎ LacksRoom now rest new → Goes old piece (length piece) new
  over_by new held (inl fault) =
      inr (inl (record {
        units = read.units;
        fault = fault.fault;
        before = now.state;
        all = refl;
        cut = (
          now.held.octets ++ rest,
          grind (arith, append_assoc, packets_more),
          subst (λ n. IsFaultOf n (now.held.octets ++ rest) fault.fault) (grind (arith, length-append)) fault.is,
        );
        taken = read.taken;
        quiet = read.quiet;
        ended = fault.ended;
        held = held;
      }))
  over_by new held (inr none) =
      let behind : drop (length read.front) piece ≡ rest = grind (arith, drop-append_seam) in
      inr (inr (record {
        within = length read.front;
        units = read.units;
        rest = now.held.octets;
        before = now.state;
        all = refl;
        bound = grind (arith, length-append);
        packets = grind (arith, take_at);
        taken = read.taken;
        quiet = read.quiet;
        how = inl (grind arith);
        held = held;
        faultless = subst (λ l. (at : ℕ) (fault : TpktFault) → IsFaultOf at (now.held.octets ++ l) fault → ⊥) (sym behind) none.faultless;
      }))

  pub read_over : (new : Carrying) → EndsOver now rest new → Goes old piece (length piece) new
  read_over new over = over_by new over.held over.how

  -- feeding that goes on feeds
  pub fed_goes : (used : ℕ) (fed : Fed) (new : Carrying) → Goes old piece used new → used ≤ length piece →
      fed.used ≡ used → fed.whole ≡ waits new.state → Feeds old piece fed new
  fed_goes used fed new goes bound is whole = grind arith
