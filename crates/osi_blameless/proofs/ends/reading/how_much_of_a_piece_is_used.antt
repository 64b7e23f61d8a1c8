-- What a turn uses of a piece is packets, and then perhaps a part of one. The units of packets are octets.
-- For the course of a connection.
use Rattle.osi_blameless.proofs.ends.Vocabulary.{[], ap, append_assoc, arith, Bool, drop, false, if◌then◌else◌, length, List, None, Option}
use Rattle.osi_blameless.proofs.ends.Vocabulary.{Some}
use Rattle.osi_blameless.proofs.ends.Vocabulary.{subst, take, true, ℕ, ◌++◌, ◌∙◌, ◌∷◌, ◌≡◌, take-append-drop, take_all, AllByRecursion}
use Rattle.osi_blameless.proofs.ends.Vocabulary.{octets_right, IsOctets, IsPacket, ArePackets, packets_more, EndReason, uses_within}
use Rattle.osi_blameless.proofs.ends.Vocabulary.{StopsBehind}
use Rattle.osi_blameless.proofs.ends.Vocabulary.{uses_all, Holding}
use Rattle.osi_blameless.proofs.ends.at_any_time.an_end_that_is_over_does_nothing.{never_lasts}

-- ---- the octets of packets

-- the units of packets are octets
unit_octets : (u b : List ℕ) → IsPacket u b → IsOctets u
unit_octets u b p = octets_right (3 ∷ p.reserved ∷ p.high ∷ p.low ∷ []) u (subst IsOctets p.spelled p.octets)

pub all_octets : (units : List (List ℕ)) (s r : List ℕ) → ArePackets units s r → AllByRecursion IsOctets units
all_octets [] s r h = tt
all_octets (u ∷ units) s r h = (unit_octets u h.0 h.2, all_octets units h.1 r h.4)

-- ---- what is used

-- so much was used, and the packets stand in it
pub record Within (units : List (List ℕ)) (old new : Holding) (piece : List ℕ) (used : ℕ) : Type 0 where
  pub rest : List ℕ
  pub cut : ArePackets units (old.held.octets ++ take used piece) rest
  pub held : new.end.carrier.ended ≡ None → rest ≡ new.held.octets

pub more_used : (units : List (List ℕ)) (front piece rest : List ℕ) (within : ℕ) → ArePackets units (front ++ take within piece) rest →
    ArePackets units (front ++ piece) (rest ++ drop within piece)
more_used units front piece rest within cut =
    subst (λ (l : List ℕ). ArePackets units l (rest ++ drop within piece))
    (append_assoc front (take within piece) (drop within piece) ∙ ap (λ (l : List ℕ). front ++ l) (take-append-drop within piece))
    (packets_more units (front ++ take within piece) rest (drop within piece) cut)

pub stopped_within : (piece : List ℕ) (used : ℕ) (old new : Holding) (stop : StopsBehind old piece used new) (o : Option EndReason)
    (b : Bool) → new.end.carrier.ended ≡ o → uses_all new.end ≡ b →
    Within stop.units old new piece used
stopped_within piece used old new stop None b lasts all = grind (arith, uses_within)
stopped_within piece used old new stop (Some reason) false over all = grind arith
stopped_within piece used old new stop (Some reason) true over all =
    let same : used ≡ length piece = stop.uses ∙ ap (λ (x : Bool). if x then length piece else stop.within) all in
    let whole : take used piece ≡ piece = take_all used piece (omega arith) in
    grind (arith, never_lasts, more_used stop.units old.held.octets piece [] stop.within stop.packets)
