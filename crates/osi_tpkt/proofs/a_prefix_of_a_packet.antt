-- Prefixes of packets: a full one is a packet, a short one a proper prefix, and the converse.
use Rattle.std.proofs.Common.{Result, IfOk, OnOk, not, Option, Bool, true, false, MatchBool, ◌≡◌, ℕ, ◌+◌, ◌-◌, ◌*◌, ◌<◌, ◌≤◌, ◌⊎◌, inl, inr}
use Rattle.std.proofs.Common.{List, [], ◌∷◌, ◌++◌, length, get_or, take, drop, replicate, sym, ◌∙◌, ap, subst, arith}
use Rattle.osi_tpkt.proofs.Vocabulary.{cases_lt, append_assoc, get_or_append_left, length-append, length-replicate, length-take-le}
use Rattle.osi_tpkt.proofs.Vocabulary.{take-append-drop, append-nil, drop_all, take_all, drop-take, IsOctets, IsPacket, IsOnePacket}
use Rattle.osi_tpkt.proofs.Vocabulary.{IsPartial, IsBadVersion, IsBadLength, IsFaultOf, packet_of, stated_length, TpktFault, IsFront}
use Rattle.osi_tpkt.proofs.Vocabulary.{IsFull, IsUnfinished, Held, Belongs, Fed, HeaderFault}
use Rattle.osi_tpkt.proofs.no_packet_is_a_prefix_of_another.{stated_length-append, packet_front}
use Rattle.osi_unit.proofs.lists_of_octets_stay_octets.{octets_nil, octets_cons, octets_append, octets_left, octets_right, octets_zeros}

-- the first octets of a piece with a good header, up to the length that it states
pub front_part : (r more : List ℕ) → IsOctets (r ++ more) → get_or (r ++ more) 0 0 ≡ 3 → 7 ≤ stated_length (r ++ more) →
    length r ≤ stated_length (r ++ more) → IsFront r
front_part r more octets version least within = grind (arith, get_or_append_left, stated_length-append, octets_left r more octets)

-- a header in the part that was taken states what the header states
pub stated_taken : (held piece : List ℕ) (n : ℕ) → 4 ≤ length (held ++ take n piece) →
    stated_length (held ++ piece) ≡ stated_length (held ++ take n piece)
stated_taken held piece n long =
    ap stated_length (ap (λ x. held ++ x) (sym (take-append-drop n piece)) ∙ sym (append_assoc held (take n piece) (drop n piece)))
    ∙ stated_length-append (held ++ take n piece) (drop n piece) long

-- the same of octets in two lists, of which the second is cut
pub front_taken : (held piece : List ℕ) (n : ℕ) → IsOctets held → IsOctets piece → get_or (held ++ piece) 0 0 ≡ 3 →
    7 ≤ stated_length (held ++ piece) → n ≤ length piece → length held + n ≤ stated_length (held ++ piece) → IsFront (held ++ take n piece)
front_taken held piece n ho po version least some within =
    let same : held ++ piece ≡ (held ++ take n piece) ++ drop n piece =
    ap (λ x. held ++ x) (sym (take-append-drop n piece)) ∙ sym (append_assoc held (take n piece) (drop n piece)) in
    grind (arith, length-append, length-take-le, front_part, octets_append)

pub front_prefix : (r more : List ℕ) → IsFront (r ++ more) → IsFront r
front_prefix r more f =
    let total = length-append r more in
    record {
      octets = octets_left r more f.octets;
      version = λ h. sym (get_or_append_left r more 0 0 h) ∙ f.version (omega arith);
      at_least = λ h. let e = stated_length-append r more h in let g = f.at_least (omega arith) in omega arith;
      within = λ h. let e = stated_length-append r more h in let g = f.within (omega arith) in omega arith;
    }

pub partial_front : (r : List ℕ) → IsPartial r → IsFront r × IsUnfinished r
partial_front r p = grind (arith, packet_front, front_prefix, stated_length-append, length-append r p.more)

-- a full front is a packet
pub full_packet : (b : List ℕ) → IsFront b → IsFull b → IsPacket (drop 4 b) b
full_packet b f g = grind arith

-- four octets or more: zeros complete it
long_partial : (r : List ℕ) → IsFront r → IsUnfinished r → 4 ≤ length r → IsPartial r
long_partial r f g h =
    let n : ℕ = stated_length r - length r in
    let total = length-append r (replicate n 0) in
    grind (arith, length-replicate, stated_length-append, octets_append, octets_zeros, get_or_append_left, full_packet)

-- fewer than four: first the header is completed
pub completed_partial : (r header : List ℕ) → IsPartial (r ++ header) → IsPartial r
completed_partial r header p = grind (arith, length-append, append_assoc)

-- the four octets of a header that states at least 7
header_partial : (b c d : ℕ) → b < 256 → c < 256 → d < 256 → 7 ≤ 256 * c + d → IsPartial (3 ∷ b ∷ c ∷ d ∷ [])
header_partial b c d hb hc hd h = grind (arith, long_partial, octets_cons, octets_nil)

pub short_partial : (r : List ℕ) → IsFront r → IsUnfinished r → IsPartial r
short_partial [] f g = grind (arith, completed_partial, header_partial 0 0 7 (omega arith) (omega arith) (omega arith) (omega arith))
short_partial (a ∷ []) f g = grind (arith, header_partial 0 0 7 (omega arith) (omega arith) (omega arith) (omega arith))
short_partial (a ∷ b ∷ []) f g = grind (arith, header_partial b 0 7 (f.octets 1) (omega arith) (omega arith) (omega arith))
short_partial (a ∷ b ∷ c ∷ []) f g = grind (arith, header_partial b c 7 (f.octets 1) (f.octets 2) (omega arith) (omega arith))
short_partial (a ∷ b ∷ c ∷ d ∷ u) f g = long_partial (a ∷ b ∷ c ∷ d ∷ u) f g (omega arith)

-- a packet is no proper prefix of one
pub partial_not_whole : (r : List ℕ) → IsPartial r → IsOnePacket r → ⊥
partial_not_whole r p w = grind (arith, packet_front, partial_front r p)

-- octets that begin with a front have no bad version
pub front_version : (h t : List ℕ) → 0 < length h → IsFront h → IsBadVersion (h ++ t) → ⊥
front_version h t some f bad = bad.1 (get_or_append_left h t 0 0 some ∙ f.version some)

-- octets that begin with a front that has a header have no bad length
pub front_length : (h t : List ℕ) → 4 ≤ length h → IsFront h → IsBadLength (h ++ t) → ⊥
front_length h t some f bad = omega (arith, stated_length-append)

pub fault_behind : (r more : List ℕ) (at : ℕ) (f : TpktFault) → IsFront r → (4 ≤ length r) ⊎ (more ≡ []) → IsFaultOf at (r ++ more) f → ⊥
fault_behind r more at f front enough bad = grind (arith, front_version, append-nil, front_length)

-- if a complete packet or all of the piece was taken, its octets have no fault
pub no_fault : (held piece : List ℕ) (n at : ℕ) (f : TpktFault) → IsFront (held ++ take n piece) →
    (4 ≤ length (held ++ take n piece)) ⊎ (n ≡ length piece) → IsFaultOf at (held ++ piece) f → ⊥
no_fault held piece n at f front enough fault =
    grind (arith, fault_behind, drop_all, take-append-drop n piece, append_assoc held (take n piece) (drop n piece))

-- octets have at most one fault
pub one_fault : (at : ℕ) (s : List ℕ) (f g : TpktFault) → IsFaultOf at s f → IsFaultOf at s g → f ≡ g
one_fault at s f g h k = grind arith

-- a statement about a prefix and its header, as one about packets
pub stood : (whole : Bool) (x : List ℕ) (P : Type 0) → IsFront x → MatchBool whole (IsFull x) (IsUnfinished x × P) →
    MatchBool whole (IsOnePacket x) (IsPartial x × P)
stood whole x P f g = grind (arith, full_packet, short_partial)

-- the packet at the front of octets, its unit as it is sliced from them
pub front_packet : (octets : List ℕ) (used : ℕ) → used ≤ length octets → IsFront (take used octets) → IsFull (take used octets) →
    IsPacket (take (used - 4) (drop 4 octets)) (take used octets)
front_packet octets used within front full = grind (arith, length-take-le, drop-take, full_packet)

-- what holds if a packet is complete, and what if it is not
pub where_whole : (P Q : Type 0) (whole : Bool) → not whole ≡ false → MatchBool whole P Q → P
where_whole P Q whole e h = grind arith

pub where_short : (P Q : Type 0) (whole : Bool) → not whole ≡ true → MatchBool whole P Q → Q
where_short P Q whole e h = grind arith

-- a piece all of which was used
pub short_whole_piece : (octets : List ℕ) (used : ℕ) → IsFront (take used octets) →
    IsUnfinished (take used octets) × (used ≡ length octets) → IsPartial octets
short_whole_piece octets used front short = grind (arith, take_all, short_partial)

pub empty_partial : IsPartial []
empty_partial = completed_partial [] (3 ∷ 0 ∷ 0 ∷ 7 ∷ []) (header_partial 0 0 7 (omega arith) (omega arith) (omega arith) (omega arith))

-- what was surveyed of a piece is what belongs to the packet
pub surveyed : (held octets piece : List ℕ) (fed : Fed) → held ≡ octets → fed.used ≤ length piece → IsFront (held ++ take fed.used piece) →
    MatchBool fed.whole (IsFull (held ++ take fed.used piece)) (IsUnfinished (held ++ take fed.used piece) × (fed.used ≡ length piece)) →
    Belongs octets piece fed
surveyed held octets piece fed same within front whole = grind (arith, stood)

long_or_all : (whole : Bool) (x : List ℕ) (P : Type 0) → MatchBool whole (IsOnePacket x) (IsPartial x × P) →
    IsFront x × ((4 ≤ length x) ⊎ P)
long_or_all true x P h = let front = packet_front h.0 x h.1 in (front.0, inl front.1.0)
long_or_all false x P h = ((partial_front x h.0).0, inr h.1)

-- if some of a piece belongs to the packet, the octets have no fault
pub belonging_no_fault : (octets piece : List ℕ) (fed : Fed) (at : ℕ) (f : TpktFault) → Belongs octets piece fed →
    IsFaultOf at (octets ++ piece) f → ⊥
belonging_no_fault octets piece fed at f h fault = grind (arith, long_or_all, no_fault)

abbrev pub holding : ℕ → Option TpktFault → List ℕ → ℕ → Held
holding offset fault octets room = record { offset = offset; octets = octets; fault = fault; room = room }

-- what is held, in its parts
pub same_held : (offset : ℕ) (fault : Option TpktFault) (xs ys : List ℕ) (m n : ℕ) → xs ≡ ys → m ≡ n →
    holding offset fault xs m ≡ holding offset fault ys n
same_held offset fault xs ys m n e f = ap (λ x. holding offset fault x m) e ∙ ap (λ k. holding offset fault ys k) f

-- what `part_of` ensures about lengths, as a statement about the octets themselves
pub part_front : (r : Result Fed HeaderFault) (held piece : List ℕ) → IsFront held → get_or (held ++ piece) 0 0 ≡ 3 → IsOctets piece →
    4 ≤ length (held ++ piece) →
    OnOk r (7 ≤ stated_length (held ++ piece)) → IfOk r (λ fed. fed.used ≤ length piece) →
    IfOk r (λ fed. MatchBool fed.whole (length held + fed.used ≡ stated_length (held ++ piece))
    ((length held + length piece < stated_length (held ++ piece)) × (fed.used ≡ length piece))) →
    IfOk r (λ fed. IsFront (held ++ take fed.used piece))
part_front r held piece front version octets long least used part = grind (arith, front_taken)

pub part_whole : (r : Result Fed HeaderFault) (held piece : List ℕ) → IsFront held → 4 ≤ length (held ++ piece) →
    OnOk r (7 ≤ stated_length (held ++ piece)) → IfOk r (λ fed. fed.used ≤ length piece) →
    IfOk r (λ fed. MatchBool fed.whole (length held + fed.used ≡ stated_length (held ++ piece))
    ((length held + length piece < stated_length (held ++ piece)) × (fed.used ≡ length piece))) →
    IfOk r (λ fed. MatchBool fed.whole (IsFull (held ++ take fed.used piece))
    (IsUnfinished (held ++ take fed.used piece) × (fed.used ≡ length piece)))
part_whole r held piece front long least used part = grind (arith, length-append, length-take-le, stated_taken)

-- what is written after other octets and a header is a packet
pub packet_behind : (before unit octets : List ℕ) → octets ≡ before ++ packet_of unit → IsOctets octets → 3 ≤ length unit →
    length unit ≤ 65531 →
    IsPacket unit (packet_of unit)
packet_behind before unit octets same known least most = grind (arith, octets_right before (packet_of unit) (subst IsOctets same known))

-- a packet that becomes ready needed some of the piece
pub belonging_some : (octets piece : List ℕ) (fed : Fed) → IsPartial octets → Belongs octets piece fed → fed.whole ≡ true → 0 < fed.used
belonging_some octets piece fed partial h whole = elim (cases_lt 0 fed.used) [
  | inl some ↦ some
  | inr none ↦
      let no_more : fed.used ≡ 0 = omega arith in
      let same : octets ++ take fed.used piece ≡ octets = ap (λ n. octets ++ take n piece) no_more ∙ append-nil octets in
      absurd (partial_not_whole octets partial (grind arith))
]

-- of two lists of octets, the first of which has the version
pub version_of : (held piece : List ℕ) → IsFront held → 0 < length held → get_or (held ++ piece) 0 0 ≡ 3
version_of held piece front some = get_or_append_left held piece 0 0 some ∙ front.version some

-- the empty list is a prefix of a packet
pub empty_front : IsFront []
empty_front = (partial_front [] empty_partial).0
