-- What the first octets of a packet are to a judge: of a packet that an end writes, and of one that has just passed. For what an
-- octet does to an end and a judge.
use Rattle.osi_blameless.proofs.Vocabulary.{[], ap, append_assoc, arith, false, inl, inr, leb, length, List, refl, subst, sym, take, true}
use Rattle.osi_blameless.proofs.Vocabulary.{ℕ, ◌*◌, ◌++◌, ◌+◌, ◌-◌, ◌<◌, ◌∙◌, ◌∷◌, ◌≡◌, ◌≤◌, ◌⊎◌, take-append_seam, eqb-true, le-ltb}
use Rattle.osi_blameless.proofs.Vocabulary.{lt-ltb, ltb-false, ltb-true, leb_tells, append-nil, length-append, take_all, take_at}
use Rattle.osi_blameless.proofs.Vocabulary.{octets_append, IsOctets, IsPacket, packet_of, ArePackets, first, GoesBeyond, packets_on, second}
use Rattle.osi_blameless.proofs.Vocabulary.{two_readings, part_of, packet_front, by_version, faulty, Front, front_of, partial, sized, whole}
use Rattle.osi_blameless.proofs.Vocabulary.{IsNoFront, TpktFault}

-- ---- the version, and the length that the header states

sized_whole : (stated : ℕ) (u rest : List ℕ) → stated ≡ length u + 4 → 3 ≤ length u → sized stated (u ++ rest) ≡ whole u
sized_whole stated u rest e least = grind (arith, length-append u rest, le-ltb stated 7 (omega arith), take-append_seam u rest)

-- ---- of a packet that is written

pub whole_front : (w rest : List ℕ) → 3 ≤ length w → front_of (packet_of w ++ rest) ≡ whole w
whole_front w rest least = grind (arith, sized_whole)

pub same_parts : (a b x y : List ℕ) → length a ≡ length b → a ++ x ≡ b ++ y → (a ≡ b) × (x ≡ y)
same_parts [] [] x y l e = (refl, e)
same_parts [] (b ∷ bs) x y l e = absurd (cc)
same_parts (a ∷ some) [] x y l e = absurd (cc)
same_parts (a ∷ some) (b ∷ others) x y l e =
    let first : a ≡ b = cc in
    let rest : some ++ x ≡ others ++ y = cc in
    let long : length some ≡ length others = omega arith in
    let more = same_parts some others x y long rest in
    (λ i. first i ∷ more.0 i, more.1)

never_both : (w : List ℕ) → whole w ≡ partial → ⊥
never_both w e = cc

-- what was a part of the packet before is shorter
shorter : (held w rest back : List ℕ) → front_of held ≡ partial → held ++ back ≡ packet_of w ++ rest → 3 ≤ length w →
    length held < length (packet_of w)
shorter held w rest back part e least = grind (arith, leb_tells, leb, part_of, never_both, whole_front)

-- with one octet more it is still a part, or it is this packet
pub own_front : (held w rest back : List ℕ) (x : ℕ) → front_of held ≡ partial → held ++ x ∷ back ≡ packet_of w ++ rest → 3 ≤ length w →
    (front_of (held ++ x ∷ []) ≡ partial) ⊎ ((held ++ x ∷ [] ≡ packet_of w) × (back ≡ rest))
own_front held w rest back x part e least = by (leb_tells (length (packet_of w)) (length (held ++ x ∷ [])))
  where
    now : List ℕ
    now = held ++ x ∷ []

    joined : (held ++ x ∷ []) ++ back ≡ packet_of w ++ rest
    joined = append_assoc held (x ∷ []) back ∙ e

    by : ((leb (length (packet_of w)) (length (held ++ x ∷ [])) ≡ true) × (length (packet_of w) ≤ length (held ++ x ∷ [])))
        ⊎ ((leb (length (packet_of w)) (length (held ++ x ∷ [])) ≡ false) × (length (held ++ x ∷ []) < length (packet_of w))) →
        (front_of (held ++ x ∷ []) ≡ partial) ⊎ ((held ++ x ∷ [] ≡ packet_of w) × (back ≡ rest))
    by (inr (is, less)) =
        let front = part_of (held ++ x ∷ []) (packet_of w) (packet_of w ++ rest) back rest joined refl (omega arith) in
        let size = length-append (held ++ x ∷ []) front.0 in
        let both = ap length front.1 in
        inl (grind (arith, length-append, le-ltb, lt-ltb))
    by (inl (is, more)) =
        let less = shorter held w rest (x ∷ back) part e least in
        let size = length-append held (x ∷ []) in
        grind (arith, same_parts (held ++ x ∷ []) (packet_of w) back rest (omega arith) joined)

-- ---- of a packet that has just passed

version_whole : (v : ℕ) (f : Front) (u : List ℕ) → by_version v f ≡ whole u → (v ≡ 3) × (f ≡ whole u)
version_whole v f u e = grind (arith, eqb-true)

version_partial : (v : ℕ) (f : Front) → by_version v f ≡ partial → (v ≡ 3) × (f ≡ partial)
version_partial v f e = grind (arith, eqb-true)

sized_is : (stated : ℕ) (t u : List ℕ) → sized stated t ≡ whole u →
    (7 ≤ stated) × (stated ≤ length t + 4) × (take (stated - 4) t ≡ u)
sized_is stated t u e = grind (arith, ltb-false)

sized_less : (stated : ℕ) (t : List ℕ) → sized stated t ≡ partial → length t + 4 < stated
sized_less stated t e = grind (arith, ltb-true)

pub whole_packet : (held u : List ℕ) (y : ℕ) → IsOctets (held ++ y ∷ []) → front_of held ≡ partial → front_of (held ++ y ∷ []) ≡ whole u →
    IsPacket u (held ++ y ∷ [])
whole_packet [] u y octets part is = absurd (never_both u (sym (version_whole y partial u is).1))
whole_packet (a ∷ []) u y octets part is = absurd (never_both u (sym (version_whole a partial u is).1))
whole_packet (a ∷ b ∷ []) u y octets part is = absurd (never_both u (sym (version_whole a partial u is).1))
whole_packet (a ∷ b ∷ c ∷ []) u y octets part is = grind (arith, sized_is, version_whole)
whole_packet (a ∷ b ∷ c ∷ d ∷ t) u y octets part is =
    let v = version_whole a (sized (256 * c + d) (t ++ y ∷ [])) u is in
    let now = sized_is (256 * c + d) (t ++ y ∷ []) u v.1 in
    let less = sized_less (256 * c + d) t (version_partial a (sized (256 * c + d) t) part).1 in
    let size : length (t ++ y ∷ []) ≡ length t + 1 = length-append t (y ∷ []) in
    let all : take ((256 * c + d) - 4) (t ++ y ∷ []) ≡ t ++ y ∷ [] = take_all ((256 * c + d) - 4) (t ++ y ∷ []) (omega arith) in
    let unit : t ++ y ∷ [] ≡ u = sym all ∙ now.2 in
    let least : 7 ≤ (256 * c + d) = now.0 in
    let most : (256 * c + d) ≤ length (t ++ y ∷ []) + 4 = now.1 in
    let high : c < 256 = octets 2 in
    let low : d < 256 = octets 3 in
    grind arith

-- ---- packets that passed, and those that are used of them

pub packets_octets : (us : List (List ℕ)) (s r : List ℕ) → ArePackets us s r → IsOctets r → IsOctets s
packets_octets [] s r h octets = subst IsOctets (sym h) octets
packets_octets (u ∷ us) s r h octets = grind (arith, octets_append, packets_octets us h.1 r h.4 octets)

-- no packet begins with a part of one
pub part_begins_none : (u b rest held : List ℕ) → IsPacket u b → held ≡ b ++ rest → front_of held ≡ partial → ⊥
part_begins_none u b rest held p e part =
    let all : take (length b) held ≡ b = ap (take (length b)) e ∙ take_at b rest (length b) refl in
    never_both u (sym (packet_front u held (length b) (subst (IsPacket u) (sym all) p)) ∙ part)

-- Packets of the front of what passed are the first of those that passed, and the others follow.
pub used_first : (us passed : List (List ℕ)) (s a r held : List ℕ) → ArePackets passed (s ++ a) held → ArePackets us s r →
    IsNoFront held → (more : List (List ℕ)) × (passed ≡ us ++ more) × ArePackets more (r ++ a) held
used_first us passed s a r held cut read none = by (two_readings us passed (s ++ a) (r ++ a) held (packets_on us s r a read) cut)
  where
    by_first : (more : List (List ℕ)) → us ≡ passed ++ more → ArePackets more held (r ++ a) →
        (later : List (List ℕ)) × (passed ≡ us ++ later) × ArePackets later (r ++ a) held
    by_first [] is p = ([], sym (append-nil us ∙ is ∙ append-nil passed), sym p)
    by_first (u ∷ more) is p = absurd (none u p.0 p.1 p.2 p.3)

    by : GoesBeyond us passed (r ++ a) held → (more : List (List ℕ)) × (passed ≡ us ++ more) × ArePackets more (r ++ a) held
    by (second more is p) = (more, is, p)
    by (first more is p) = by_first more is p

-- ---- octets that begin no packet

-- whatever follows them
pub begins_none : (held more : List ℕ) (f : TpktFault) → front_of held ≡ faulty f → IsNoFront (held ++ more)
begins_none held more f e = grind arith
