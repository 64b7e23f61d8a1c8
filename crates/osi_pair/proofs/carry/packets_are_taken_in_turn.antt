-- Packets that an end takes one after the other, only the last of which may stop it.
-- For packets and carries.
use Rattle.osi_machine.specs.Core as machine
use Rattle.osi_pair.proofs.Vocabulary.{other, ◌≡◌, ℕ, ◌≤◌, ◌||◌, false, List, [], ◌∷◌, ◌++◌, length, Option, Some, None, is_some, refl, sym}
use Rattle.osi_pair.proofs.Vocabulary.{ap, subst, ◌∙◌, arith, quiet_none, stops_not, append-nil, append_assoc, Held, IsPacket, ArePackets}
use Rattle.osi_pair.proofs.Vocabulary.{Rows, EndReason, NoMemory, Step, delivers, Tables, end_of, step, run, start, TakesPackets, stops}
use Rattle.osi_pair.proofs.Vocabulary.{after_packet, Starves, End, Holding, waits, or_second, TwoEnds, end_at, side_in, terms_in}
use Rattle.osi_pair.proofs.Vocabulary.{AreDeliveries, AreArrivals, StandsAt, StandsAtArrivals, waiting_in, Side, ends_end as ends}
use Rattle.osi_pair.proofs.Vocabulary.{EndLine as Line}
use Rattle.osi_pair.proofs.turn.what_an_acting_end_leaves_in_flight.{run_behind}
use Rattle.osi_pair.proofs.turn.what_remains_when_a_unit_was_taken.{terms_at}
use Rattle.osi_pair.proofs.carry.handed_octets_are_no_step.{CarriedLaw, with_held, handed_at}
use Rattle.osi_pair.proofs.packet.a_packet_is_one_delivery_or_none.{lasting_in, quiet_of}
use Rattle.osi_pair.proofs.session.an_end_with_nothing_pending.{none_first, none_second, quiet_same}
use Rattle.osi_pair.proofs.turn.all_is_shown.{shown_pair}
use Rattle.osi_pair.proofs.turn.a_turn_keeps_the_match.{with_holding, holding_here}
use Rattle.osi_pair.proofs.carry.users_receive_one_after_the_other.{none_waits}
use Rattle.osi_pair.proofs.flight.whether_something_is_cut_off.{Lasts}

-- What is proved of one packet. Two ends match a list of steps, and a side that lasts takes the first packet that it holds,
-- or runs out of memory, for the packet or before it: of the end that it has then.
pub record OfPackets (Told Starved : TwoEnds → List Step → Side → End → Held → Type 0) : Type 0 where
  pub told : (p : TwoEnds) (steps : List Step) (s : Side) (packet octets : List ℕ) (h : Held) → StandsAt p steps → Lasts s p →
      IsPacket packet octets → (end_at s p).held.octets ≡ octets ++ h.octets → Told p steps s (after_packet (end_at s p).end packet) h
  pub starved : (p : TwoEnds) (steps : List Step) (s : Side) (packet octets : List ℕ) (new : End) (h : Held) → StandsAt p steps →
      Lasts s p → IsPacket packet octets → (end_at s p).held.octets ≡ octets ++ h.octets → Starves (end_at s p).end packet new →
      Starved p steps s new h
  pub ended : (p : TwoEnds) (steps : List Step) (s : Side) (h : Held) → StandsAt p steps → Lasts s p →
      Starved p steps s (ends NoMemory (end_at s p).end) h

-- when its users received the indications, the two match that list followed by what arrived at the side
abbrev ShownStands : TwoEnds → List Step → Side → End → Held → Type 0
ShownStands p steps s e h = StandsAtArrivals s (shown_pair s e h p) steps

abbrev pub PacketStands : Type 0
PacketStands = OfPackets ShownStands ShownStands

-- one packet does not lead to more pending indications than are given at once
abbrev FewPending : End → Type 0
FewPending e = length (waiting_in e.lines) ≤ 81

abbrev pub FewWait : Type 0
FewWait = OfPackets (λ p steps s e h. FewPending e) (λ p steps s e h. FewPending e × (e.carrier.ended ≡ Some NoMemory))

-- the end is this one, and its users receive all pending indications at once
pub record StandsFew (s : Side) (p : TwoEnds) (steps : List Step) (e : End) (h : Held) : Type 0 where
  pub stands : StandsAtArrivals s (shown_pair s e h p) steps
  pub few : length (waiting_in e.lines) ≤ 81

-- and it has ended because memory ran out
pub record StandsOut (s : Side) (p : TwoEnds) (steps : List Step) (e : End) (h : Held) : Type 0 where
  pub all : StandsFew s p steps e h
  pub named : e.carrier.ended ≡ Some NoMemory

abbrev pub TakenLaws : Type 0
TakenLaws = OfPackets (λ p steps s e h. StandsFew s p steps e h) (λ p steps s e h. StandsOut s p steps e h)

pub taken_laws : PacketStands → FewWait → TakenLaws
taken_laws laws few = record {
  told = λ p steps s packet octets h at alive is cut.
      record { stands = laws.told p steps s packet octets h at alive is cut; few = few.told p steps s packet octets h at alive is cut };
  starved = λ p steps s packet octets new h at alive is cut st.
      let out = few.starved p steps s packet octets new h at alive is cut st in
      record { all = record { stands = laws.starved p steps s packet octets new h at alive is cut st; few = out.0 }; named = out.1 };
  ended = λ p steps s h at alive.
      record { all = record { stands = laws.ended p steps s h at alive; few = (few.ended p steps s h at alive).0 }; named = refl };
}

-- ---- what is pending

pub still_waits : (lines : Rows Line) → waiting_in lines ≡ [] → waits lines ≡ false
still_waits [] e = refl
still_waits ((r, line) ∷ lines) e =
    grind (arith, none_first, none_second, still_waits lines (none_second (λ shown. (r, shown)) line.waiting (waiting_in lines) e))

-- an end that does not stop lasts, and nothing is pending
pub stops_quiet : (e : End) → stops e ≡ false → waiting_in e.lines ≡ []
stops_quiet e h = (none_waits e.lines (quiet_none e.lines (or_second (is_some e.carrier.ended) (waits e.lines) h)).shown).0

pub goes_on : (e : End) → e.carrier.ended ≡ None → waiting_in e.lines ≡ [] → stops e ≡ false
goes_on e lasts quiet = ap (λ (o : Option EndReason). is_some o || waits e.lines) lasts ∙ still_waits e.lines quiet

-- if there is no indication and the end lasts
pub shown_plain : (s : Side) (e : End) (h : Held) (p : TwoEnds) → e.carrier.ended ≡ None → waiting_in e.lines ≡ [] →
    shown_pair s e h p ≡ with_holding s e h p
shown_plain s e h p lasts quiet = grind (arith, with_holding, append-nil, quiet_same)

pub shown_again : (s : Side) (e a : End) (h g : Held) (p : TwoEnds) → shown_pair s e h (with_holding s a g p) ≡ shown_pair s e h p
shown_again s e a h g p = grind arith

-- ---- what an end holds

-- it may be kept in whatever way
pub held_at : CarriedLaw → (s : Side) (p : TwoEnds) (steps : List Step) (h : Held) → StandsAt p steps →
    (Lasts s p → h.octets ≡ (end_at s p).held.octets) → StandsAt (with_held s h p) steps
held_at law s p steps h at same =
    subst (λ (q : TwoEnds). StandsAt q steps) (grind arith)
    (handed_at law (other s) p steps 0 h at (omega arith) (grind (arith, append-nil)))

-- ---- what arrives

-- if the side lasts, deliveries
arrivals_alive : (who : machine.Side) (t : Tables) (more : List Step) → AreArrivals who more → end_of who (run t more) ≡ None →
    AreDeliveries who more
arrivals_alive who t (delivers taker r keep ∷ more) are e = (are.0, arrivals_alive who (step t (delivers taker r keep)) more are.1 e)
arrivals_alive who t more are e = grind arith

pub alive_deliveries : (s : Side) (p : TwoEnds) (steps more : List Step) → StandsAt p (steps ++ more) → Lasts s p →
    AreArrivals (side_in s) more → AreDeliveries (side_in s) more
alive_deliveries s p steps more at alive are =
    let first = start (terms_in (terms_at p)) in
    grind (arith, arrivals_alive, run_behind first steps more, lasting_in s p at.now (run first (steps ++ more)) at.stands alive)

deliveries_then : (who : machine.Side) (xs ys : List Step) → AreDeliveries who xs → AreArrivals who ys → AreArrivals who (xs ++ ys)
deliveries_then who (delivers taker r keep ∷ xs) ys are more = (are.0, deliveries_then who xs ys are.1 more)
deliveries_then who xs ys are more = search

-- deliveries, and then what arrives more
pub join_arrivals : (s : Side) (p : TwoEnds) (steps more : List Step) → AreDeliveries (side_in s) more →
    StandsAtArrivals s p (steps ++ more) → StandsAtArrivals s p steps
join_arrivals s p steps more are x = grind (arith, deliveries_then, append_assoc)

pub no_more : (s : Side) (p : TwoEnds) (steps : List Step) → StandsAt p steps → StandsAtArrivals s p steps
no_more s p steps at = record { more = []; are = tt; stands = subst (StandsAt p) (sym (append-nil steps)) at }

-- ---- packets one after the other

-- a packet after which the end goes on
pub record GoesOn (s : Side) (p : TwoEnds) (steps : List Step) (e : End) (h : Held) : Type 0 where
  pub more : List Step
  pub are : AreDeliveries (side_in s) more
  pub stands : StandsAt (with_holding s e h p) (steps ++ more)
  pub here : end_at s (with_holding s e h p) ≡ record { end = e; held = h }
  pub lasts : (end_at s (with_holding s e h p)).end.carrier.ended ≡ None

pub still_goes : (s : Side) (p : TwoEnds) (steps : List Step) (e : End) (h : Held) → stops e ≡ false →
    StandsAtArrivals s (shown_pair s e h p) steps → GoesOn s p steps e h
still_goes s p steps e h quiet x =
    let at : StandsAt (with_holding s e h p) (steps ++ x.more) =
    subst (λ (q : TwoEnds). StandsAt q (steps ++ x.more)) (shown_plain s e h p (stops_not e quiet) (stops_quiet e quiet)) x.stands in
    search (arith, with_holding, holding_here, alive_deliveries, stops_not)

-- what comes after it
pub behind : (s : Side) (p : TwoEnds) (steps : List Step) (e : End) (g : Held) (new : End) (h : Held) → (x : GoesOn s p steps e g) →
    StandsFew s (with_holding s e g p) (steps ++ x.more) new h → StandsFew s p steps new h
behind s p steps e g new h x y = grind (arith, join_arrivals, shown_pair, shown_again)

pub packets_stand : TakenLaws → CarriedLaw → (units : List (List ℕ)) (s : Side) (p : TwoEnds) (steps : List Step) (new : End) (h : Held) →
    StandsAt p steps → Lasts s p → TakesPackets (end_at s p).end units new → ArePackets units (end_at s p).held.octets h.octets →
    StandsFew s p steps new h
packets_stand laws law [] s p steps new h at alive taken packets =
    let quiet = quiet_of s p at.now (run (start (terms_in (terms_at p))) steps) at.stands in
    subst (λ (e : End). StandsFew s p steps e h) (sym taken)
    (record {
      stands = subst (λ (q : TwoEnds). StandsAtArrivals s q steps) (sym (shown_plain s (end_at s p).end h p alive quiet))
          (no_more s (with_held s h p) steps (held_at law s p steps h at (λ lasts. sym packets)));
      few = let none : length (waiting_in (end_at s p).end.lines) ≡ 0 = ap length quiet in omega arith;
    })
packets_stand laws law (u ∷ []) s p steps new h at alive taken packets =
    subst (λ (e : End). StandsFew s p steps e h) (sym taken.1)
    (laws.told p steps s u packets.0 h at alive packets.2 (packets.3 ∙ ap (λ (l : List ℕ). packets.0 ++ l) packets.4))
packets_stand laws law (u ∷ v ∷ units) s p steps new h at alive taken packets =
    let e = after_packet (end_at s p).end u in
    let g : Held = record (end_at s p).held { octets = packets.1 } in
    let x = still_goes s p steps e g taken.1.0 (laws.told p steps s u packets.0 g at alive packets.2 packets.3).stands in
    behind s p steps e g new h x
    (packets_stand laws law (v ∷ units) s (with_holding s e g p) (steps ++ x.more) new h x.stands x.lasts
    (subst (λ (b : Holding). TakesPackets b.end (v ∷ units) new) (sym x.here) taken.1)
    (subst (λ (b : Holding). ArePackets (v ∷ units) b.held.octets h.octets) (sym x.here) packets.4))
