-- A TSDU that is lent from the piece in which it lies, in place of its event.
-- For the calls that feed a piece.
use Rattle.osi_carrier.proofs.Vocabulary.{Carrying, EndReason, Fed, Feeds, Happening, PacketActs, Tells, is_spoilt, stops, waits, ◌≡◌, ℕ}
use Rattle.osi_carrier.proofs.Vocabulary.{◌-◌, ◌||◌, ◌==◌, not, Bool, true, false, List, [], ◌∷◌, length, Option, Some, None, IfSome}
use Rattle.osi_carrier.proofs.Vocabulary.{IsSome, is_some, refl, sym, ap, subst, ◌∙◌, arith, length-drop, PacketLent, Lends, carrying_lent}
use Rattle.osi_carrier.proofs.Vocabulary.{lent_event, Lent, FedLent}
use Rattle.osi_carrier.proofs.stream.a_piece_is_read_packet_by_packet.{IsRead, read_stops, fed_goes}

quiet_by : (o : Option EndReason) (l : List Happening) → (is_some o || not (length l == 0)) ≡ false → (l ≡ []) × (o ≡ None)
quiet_by None [] h = (refl, refl)
quiet_by None (x ∷ l) h = grind arith
quiet_by (Some reason) l h = cc

pub lent_packet : (wanted : Bool) (old : Carrying) (octets : List ℕ) (used : ℕ) (lent : Lent) (new : Carrying) → stops old.state ≡ false →
    Lends wanted old.state new.state → PacketActs old octets used (carrying_lent (Some lent) new) →
    PacketLent wanted old octets used lent new
lent_packet wanted old octets used lent new quiet lends acts = grind (arith, quiet_by)

-- feeding stops after it
pub lent_feeds : (wanted : Bool) (old : Carrying) (piece : List ℕ) (now : Carrying) (rest : List ℕ) (used : ℕ) (lent : Lent)
    (new : Carrying) (fed : Fed) → IsRead old piece now rest → PacketLent wanted now rest used lent new →
    fed.used ≡ length piece - (length rest - used) → fed.whole ≡ true → Feeds old piece fed (carrying_lent (Some lent) new)
lent_feeds wanted old piece now rest used lent new fed read h is whole =
    let told = carrying_lent (Some lent) new in
    let waiting : waits told.state ≡ true = grind arith in
    let stopped : stops told.state ≡ true = ap (λ o. is_some o || waits told.state) h.lasts ∙ waiting in
    grind (arith, fed_goes, read_stops old piece now rest read used told h.acts stopped (ap is_spoilt h.lasts), length-drop used rest)

-- or nothing is lent
pub nothing_lent : (old : Carrying) (piece : List ℕ) (fed : FedLent) (new : Carrying) → fed.lent ≡ None → Feeds old piece fed.fed new →
    Feeds old piece fed.fed (carrying_lent fed.lent new)
nothing_lent old piece fed new none feeds = subst (λ o. Feeds old piece fed.fed (carrying_lent o new)) (sym none) feeds

-- its event is the only one
pub lent_tells : (o : Option Lent) (new : Carrying) → (IsSome o → new.state.events ≡ []) →
    IfSome o (λ lent. Tells (Some (lent_event lent)) (carrying_lent o new).state new.state)
lent_tells o new h = grind arith
