-- A packet is taken: how two ends match a list of steps when its users received the indications.
-- For packets, carries and the law of `packets`.
use Rattle.osi_carrier.specs.Packets as carriers
use Rattle.osi_machine.specs.Core as machine
use Rattle.osi_pair.proofs.Vocabulary.{◌≡◌, ℕ, false, List, [], ◌∷◌, ◌++◌, sym, ap, subst, ◌∙◌, arith, AllByRecursion, Held, IsPacket}
use Rattle.osi_pair.proofs.Vocabulary.{State, Between, Step, delivers, HasNumber, ends as ends_side, Tables, run, after_packet, End}
use Rattle.osi_pair.proofs.Vocabulary.{TwoEnds, end_at, side_in, is_caller, carriers_of, AreDeliveries, AreArrivals, StandsAtArrivals}
use Rattle.osi_pair.proofs.Vocabulary.{Stands, StandsAt, Side, StandsAtDeliveries, packet_taken, reference_of, append-nil}
use Rattle.osi_pair.proofs.flight.a_taken_packet_is_one_row.{PacketActs, packet_acts}
use Rattle.osi_pair.proofs.turn.what_remains_when_a_unit_was_taken.{terms_at, order_of, PacketAt}
use Rattle.osi_pair.proofs.packet.a_packet_is_one_delivery_or_none.{PacketLaws, StandsBehind, is_heard, unheard_packet, both_carrier}
use Rattle.osi_pair.proofs.packet.a_packet_is_one_delivery_or_none.{acts_at, terms_then, quiet_told}
pub use Rattle.osi_pair.proofs.promise.matching_ends_keep_the_promises.{tables_at, is_run}
use Rattle.osi_pair.proofs.session.an_end_with_nothing_pending.{quiet_same}
use Rattle.osi_pair.proofs.turn.all_is_shown.{shown_pair, StandsShown}
use Rattle.osi_pair.proofs.turn.a_turn_keeps_the_match.{with_holding}
use Rattle.osi_pair.proofs.turn.what_an_acting_end_leaves_in_flight.{run_behind}
use Rattle.osi_pair.proofs.flight.whether_something_is_cut_off.{Lasts}
use Rattle.osi_pair.proofs.flight.what_may_arrive_row_by_row.{told_for}

-- the packet makes the end this one, and what arrives are these steps
pub shown_by : (s : Side) (p : TwoEnds) (t : Tables) (packet : List ℕ) (h : Held) (e : End) (more : List Step) (now : Between) →
    after_packet (end_at s p).end packet ≡ e → AreArrivals (side_in s) more → e.carrier.local ≡ (end_at s p).end.carrier.local →
    Stands (shown_pair s e h p) now (run t more) → StandsShown s p t (after_packet (end_at s p).end packet) h
shown_by s p t packet h e more now same are local stands =
    subst (λ (x : End). StandsShown s p t x h) (sym same)
    (record { more = more; are = are; now = now; local = local; stands = stands })

-- ---- there is no indication

are_arrivals : (s : machine.Side) (xs : List Step) → AreDeliveries s xs → AreArrivals s xs
are_arrivals s (delivers q r keep ∷ xs) d = (d.0, are_arrivals s xs d.1)
are_arrivals s xs d = search

behind_shown : (s : Side) (p : TwoEnds) (t : Tables) (packet : List ℕ) (h : Held) → StandsBehind s p t packet h →
    StandsShown s p t (after_packet (end_at s p).end packet) h
behind_shown s p t packet h b =
    shown_by s p t packet h b.end b.more b.now b.same (are_arrivals (side_in s) b.more b.are) b.local
    (subst (λ (q : TwoEnds). Stands q b.now (run t b.more)) (sym (grind (arith, with_holding, quiet_same))) b.stands)

-- a packet that no session receives
pub unheard_shown : PacketLaws → (s : Side) (p : TwoEnds) (b : Between) (t : Tables) (packet : List ℕ) (h : Held) → Stands p b t →
    Lasts s p → (pa : PacketAt s p b packet h) → is_heard pa.did.row ≡ false → StandsShown s p t (after_packet (end_at s p).end packet) h
unheard_shown laws s p b t packet h old alive pa e = behind_shown s p t packet h (unheard_packet laws s p b t packet h old alive pa e)

-- ---- at a list of steps

-- what arrives has no number
numbered_then : (s : machine.Side) (xs ys : List Step) → AllByRecursion HasNumber xs → AreArrivals s ys →
    AllByRecursion HasNumber (xs ++ ys)
numbered_then s [] (delivers q r keep ∷ ys) a d = (tt, numbered_then s [] ys tt d.1)
numbered_then s [] (ends_side q e keep ∷ ys) a d = grind arith
numbered_then s (x ∷ xs) ys a d = (a.0, numbered_then s xs ys a.1 d)
numbered_then s xs ys a d = search

stands_then : (s : Side) (p q : TwoEnds) (steps more : List Step) (now : Between) → StandsAt p steps → AreArrivals (side_in s) more →
    terms_at q ≡ terms_at p → Stands q now (run (tables_at p steps) more) → StandsAt q (steps ++ more)
stands_then s p q steps more now at are terms stands = record {
  numbered = numbered_then (side_in s) steps more at.numbered are;
  now = now;
  stands = grind (arith, run_behind, terms_at);
}

pub arrivals_at : (s : Side) (p : TwoEnds) (steps : List Step) (e : End) (h : Held) → StandsAt p steps →
    StandsShown s p (tables_at p steps) e h → StandsAtArrivals s (shown_pair s e h p) steps
arrivals_at s p steps e h at x = record {
  more = x.more;
  are = x.are;
  stands = stands_then s p (shown_pair s e h p) steps x.more x.now at x.are (grind (arith, shown_pair, terms_at)) x.stands;
}

-- what an end does that lasts, of a packet that it holds first
pub packet_at : PacketLaws → (s : Side) (p : TwoEnds) (steps : List Step) (packet octets : List ℕ) (h : Held) → (at : StandsAt p steps) →
    Lasts s p → IsPacket packet octets → (end_at s p).held.octets ≡ octets ++ h.octets →
    PacketActs (terms_at p) (is_caller s) (carriers_of p) at.now packet h.octets
packet_at laws s p steps packet octets h at alive is cut =
    let c = both_carrier s p in
    packet_acts laws.two (terms_at p) (is_caller s) (carriers_of p) at.now packet octets h.octets at.stands.between
    (ap (λ (x : State). x.ended) c ∙ alive)
    (ap (λ (x : State). x.events) c ∙ (order_of s p at.now (tables_at p steps) at.stands alive).heard) is ((grind arith) ∙ cut)

-- a packet of which nothing was told
pub untold_at : PacketLaws → (p : TwoEnds) (steps : List Step) (s : Side) (packet octets : List ℕ) (h : Held) → StandsAt p steps →
    Lasts s p → IsPacket packet octets → (end_at s p).held.octets ≡ octets ++ h.octets →
    (carriers.after_packet (end_at s p).end.carrier packet).events ≡ [] → StandsAtDeliveries s (packet_taken s packet h p) steps
untold_at laws p steps s packet octets h at alive is cut none =
    let t = tables_at p steps in
    let pa = packet_at laws s p steps packet octets h at alive is cut in
    let f = acts_at s p at.now packet h pa in
    let told : told_for (reference_of pa.unit) pa.did.row ≡ [] = sym f.events ∙ ap (λ (x : State). x.events) (sym f.acts) ∙ none in
    let b = unheard_packet laws s p at.now t packet h at.stands alive pa (quiet_told (reference_of pa.unit) pa.did.row told) in
    record {
      more = b.more;
      are = b.are;
      stands = stands_then s p (packet_taken s packet h p) steps b.more b.now at (are_arrivals (side_in s) b.more b.are)
          (terms_then s p (after_packet (end_at s p).end packet) h (ap (λ (x : End). x.carrier.local) b.same ∙ b.local))
          (subst (λ (q : TwoEnds). Stands q b.now (run t b.more)) (grind (arith, with_holding, append-nil)) b.stands);
    }
