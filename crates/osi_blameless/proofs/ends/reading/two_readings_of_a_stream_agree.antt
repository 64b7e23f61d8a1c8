-- Two readings of the front of one stream as packets: one goes on where the other ends. And of two prefixes of a stream the shorter
-- is a prefix of the longer. For the packets that an end takes, and for what a capture shows of it.
use Rattle.osi_blameless.proofs.ends.Vocabulary.{[], ap, append_assoc, arith, List, refl, subst, sym, ℕ, ◌++◌, ◌∙◌, ◌∷◌, ◌≡◌}
use Rattle.osi_blameless.proofs.ends.Vocabulary.{append_cancel_left, one_packet, ArePackets, length, ◌≤◌, IsPrefix}

-- ---- packets of a stream that goes on

pub packets_on : (us : List (List ℕ)) (s r more : List ℕ) → ArePackets us s r → ArePackets us (s ++ more) (r ++ more)
packets_on [] s r more h = ap (λ (x : List ℕ). x ++ more) h
packets_on (u ∷ us) s r more (b, t, p, e, h) = grind (arith, append_assoc, packets_on us t r more h)

pub packets_then : (us vs : List (List ℕ)) (s r more q : List ℕ) → ArePackets us s r → ArePackets vs (r ++ more) q →
    ArePackets (us ++ vs) (s ++ more) q
packets_then [] vs s r more q h k = subst (λ (x : List ℕ). ArePackets vs (x ++ more) q) (sym h) k
packets_then (u ∷ us) vs s r more q (b, t, p, e, h) k = grind (arith, append_assoc, packets_then us vs t r more q h k)

-- ---- one reading goes on where the other ends

pub data GoesBeyond (us vs : List (List ℕ)) (r q : List ℕ) : Type 0 where
  second : (more : List (List ℕ)) → vs ≡ us ++ more → ArePackets more r q → GoesBeyond us vs r q
  first : (more : List (List ℕ)) → us ≡ vs ++ more → ArePackets more q r → GoesBeyond us vs r q

one_more : (u v : List ℕ) (us vs : List (List ℕ)) (r q : List ℕ) → u ≡ v → GoesBeyond us vs r q → GoesBeyond (u ∷ us) (v ∷ vs) r q
one_more u v us vs r q e (second more is p) = second more ((λ i. sym e i ∷ is i)) p
one_more u v us vs r q e (first more is p) = first more ((λ i. e i ∷ is i)) p

pub two_readings : (us vs : List (List ℕ)) (s r q : List ℕ) → ArePackets us s r → ArePackets vs s q → GoesBeyond us vs r q
two_readings [] vs s r q h k = second vs refl (subst (λ (x : List ℕ). ArePackets vs x q) h k)
two_readings (u ∷ us) [] s r q h k = first (u ∷ us) refl (subst (λ (x : List ℕ). ArePackets (u ∷ us) x r) k h)
two_readings (u ∷ us) (v ∷ vs) s r q h k =
    let one = one_packet u v h.0 k.0 h.1 k.1 h.2 k.2 (sym h.3 ∙ k.3) in
    let rest : h.1 ≡ k.1 = append_cancel_left k.0 h.1 k.1 (ap (λ (x : List ℕ). x ++ h.1) (sym one.0) ∙ sym h.3 ∙ k.3) in
    one_more u v us vs r q one.1 (two_readings us vs h.1 r q h.4 (subst (λ (x : List ℕ). ArePackets vs x q) (sym rest) k.4))

-- ---- prefixes of a stream

pub front_of : (some others rest : List ℕ) (x y : List ℕ) → some ++ x ≡ rest → others ++ y ≡ rest → length some ≤ length others →
    IsPrefix some others
front_of [] others rest x y e f l = (others, refl)
front_of (a ∷ some) [] rest x y e f l = absurd (omega arith)
front_of (a ∷ some) (b ∷ others) rest x y e f l =
    let first : a ≡ b = cc in
    let tails : some ++ x ≡ others ++ y = cc in
    let more = front_of some others (others ++ y) x y tails refl (omega arith) in
    (more.0, λ i. first i ∷ more.1 i)
