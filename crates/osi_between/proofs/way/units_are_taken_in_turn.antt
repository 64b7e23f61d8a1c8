-- However many octets of what was written are fed, units are taken one after the other.
-- For joined carriers and the laws.
use Rattle.osi_between.proofs.Vocabulary.{◌≡◌, ℕ, ◌≤◌, Bool, true, false, ◌||◌, is_some, List, [], ◌∷◌, ◌++◌, length, map, take, drop}
use Rattle.osi_between.proofs.Vocabulary.{Option, None, refl, sym, ap, subst, ◌∙◌, inl, inr, arith, append_assoc, ArePackets}
use Rattle.osi_between.proofs.Vocabulary.{AllByRecursion, append-nil, length-take-le, take-take, packet_of, Value, written, IsSendable}
use Rattle.osi_between.proofs.Vocabulary.{AreComing, TakesUnits, TakesSome, Fed, Carrying, Feeds, waits, is_spoilt, TakesPackets, Refuses}
use Rattle.osi_between.proofs.Vocabulary.{Starves, Goes, react, State, packets, ends, EndReason, NoMemory, packets_join, all_behind}
use Rattle.osi_between.proofs.Vocabulary.{unit_packet, unit_read, packet_reacts, Fronts, units_front, fault_free, starved_unit, reads_part}
use Rattle.osi_between.proofs.Vocabulary.{◌⊎◌}

-- packets that are taken are units that are taken
units_taken : (done : List Value) (s t : State) → AllByRecursion IsSendable done → TakesPackets s (map written done) t → TakesUnits s done t
units_taken [] s t all h = h
units_taken (u ∷ us) s t all h =
    grind (
      arith,
      units_taken us (react u s) t all.1 (subst (λ (x : State). TakesPackets x (map written us) t) (packet_reacts s u all.0) h.1),
    )

-- packets of the first n octets are taken, and then memory may run out; the rest is still to come
takes_some : (old new : Carrying) (outgoing : List ℕ) (coming : List Value) (n used : ℕ) (units : List (List ℕ)) (r : List ℕ)
    (reached : State) → AreComing old.held.octets outgoing coming → ArePackets units (old.held.octets ++ take n outgoing) r →
    TakesPackets old.state units reached → (new.state ≡ reached) ⊎ (new.state ≡ ends NoMemory reached) →
    (is_spoilt new.state.ended ≡ false → (used ≡ n) × (new.held.octets ≡ r)) → TakesSome old outgoing coming used new
takes_some old new outgoing coming n used units r reached c packets taken how rest =
    let f = reads_part old.held.octets outgoing coming n units r c packets in
    record {
      done = f.done;
      left = f.left;
      parts = f.parts;
      reached = reached;
      taken = grind (arith, units_taken);
      how = how;
      coming_then = λ sound. rw ((rest sound).0, (rest sound).1) f.rest;
    }

-- a part of what was fed
within_fed : (old : Carrying) (outgoing r : List ℕ) (units : List (List ℕ)) (n k : ℕ) → k ≤ length outgoing → n ≤ length (take k outgoing) →
    ArePackets units (old.held.octets ++ take n (take k outgoing)) r → ArePackets units (old.held.octets ++ take n outgoing) r
within_fed old outgoing r units n k less bound packets =
    let size = length-take-le k outgoing less in
    subst (λ l. ArePackets units (old.held.octets ++ l) r) (take-take n k outgoing (omega arith)) packets

refuses_none : (old new : Carrying) (outgoing : List ℕ) (coming : List Value) (k used : ℕ) → AreComing old.held.octets outgoing coming →
    Refuses old (take k outgoing) used new → ⊥
refuses_none old new outgoing coming k used c h =
    grind (arith, fault_free, reads_part old.held.octets outgoing coming k h.units h.cut.0 c h.cut.1)

-- the packet that starved is a unit that comes
starved_by : (old new : State) (packet : List ℕ) (coming : List Value) (r t : List ℕ) → Fronts (packet ∷ []) coming r t →
    Starves old packet new → new ≡ ends NoMemory old
starved_by old new packet coming r t f h =
    elim f.done as (λ (l : List Value). packet ∷ [] ≡ map written l → AllByRecursion IsSendable l → new ≡ ends NoMemory old) [
      | [] ↦ λ e all. cc
      | u ∷ us ↦ λ e all. starved_unit old new packet u all.0 (let is : packet ≡ written u = cc in is) h
    ] f.are f.sendable

goes_some : (old new : Carrying) (outgoing : List ℕ) (coming : List Value) (k used : ℕ) → k ≤ length outgoing →
    AreComing old.held.octets outgoing coming → Goes old (take k outgoing) used new → TakesSome old outgoing coming used new
goes_some old new outgoing coming k used less c (inl (inl h)) =
    takes_some old new outgoing coming k used h.units new.held.octets new.state c h.packets h.taken (inl refl)
    (λ sound. (h.all ∙ length-take-le k outgoing less, refl))
goes_some old new outgoing coming k used less c (inl (inr h)) =
    takes_some old new outgoing coming h.within used h.units [] new.state c
    (within_fed old outgoing [] h.units h.within k less h.bound h.packets) h.taken (inl refl) (grind arith)
goes_some old new outgoing coming k used less c (inr (inl h)) = absurd (refuses_none old new outgoing coming k used c h)
goes_some old new outgoing coming k used less c (inr (inr h)) =
    let packets = within_fed old outgoing h.rest h.units h.within k less h.bound h.packets in
    let f = reads_part old.held.octets outgoing coming h.within h.units h.rest c packets in
    let ended : new.state ≡ ends NoMemory h.before =
    elim h.how [
      | inl e ↦ e.ended
      | inr p ↦
          search (arith, starved_by, units_front (p.0 ∷ []) f.left h.rest [] (drop h.within outgoing) f.rest.sendable p.1 f.rest.octets)
    ] in
    takes_some old new outgoing coming h.within used h.units h.rest h.before c packets h.taken (inr ended)
    (λ sound. let spoilt : is_spoilt new.state.ended ≡ true = ap (λ (s : State). is_spoilt s.ended) ended in absurd (cc))

feeds_by : (old new : Carrying) (outgoing : List ℕ) (coming : List Value) (k : ℕ) (fed : Fed) (wait : Bool) → k ≤ length outgoing →
    AreComing old.held.octets outgoing coming → old.state.ended ≡ None → waits old.state ≡ wait → Feeds old (take k outgoing) fed new →
    TakesSome old outgoing coming fed.used new
feeds_by old new outgoing coming k fed true less c quiet wait h =
    let none = h.waiting quiet wait in
    record {
      done = [];
      left = coming;
      parts = refl;
      reached = old.state;
      taken = refl;
      how = inl (ap (λ (x : Carrying). x.state) none.1);
      coming_then = grind arith;
    }
feeds_by old new outgoing coming k fed false less c quiet wait h =
    goes_some old new outgoing coming k fed.used less c
    (h.goes (ap (λ (o : Option EndReason). is_some o || waits old.state) quiet ∙ wait))

pub feeds_some : (old new : Carrying) (outgoing : List ℕ) (coming : List Value) (k : ℕ) (fed : Fed) → k ≤ length outgoing →
    AreComing old.held.octets outgoing coming → old.state.ended ≡ None → Feeds old (take k outgoing) fed new →
    TakesSome old outgoing coming fed.used new
feeds_some old new outgoing coming k fed less c quiet h = feeds_by old new outgoing coming k fed (waits old.state) less c quiet refl h

-- ---- what comes is read from the octets alone

pub more_coming : (held outgoing : List ℕ) (coming units : List Value) → AreComing held outgoing coming → AllByRecursion IsSendable units →
    AreComing held (outgoing ++ packets units) (coming ++ units)
more_coming held outgoing coming units c all = grind (arith, append_assoc, packets_join, all_behind)

written_all : (us vs : List Value) → AllByRecursion IsSendable us → AllByRecursion IsSendable vs → map written us ≡ map written vs → us ≡ vs
written_all [] [] a b e = refl
written_all (u ∷ us) (v ∷ vs) a b e =
    let others : map written us ≡ map written vs = cc in
    ap (λ x. x ∷ us) (grind (arith, unit_read u a.0, unit_read v b.0)) ∙ ap (λ l. v ∷ l) (written_all us vs a.1 b.1 others)
written_all us vs a b e = cc

are_packets : (us : List Value) → AllByRecursion IsSendable us → ArePackets (map written us) (packets us) []
are_packets [] all = refl
are_packets (u ∷ us) all = (packet_of (written u), packets us, unit_packet u all.0, refl, are_packets us all.1)

none_left : (left : List Value) → packets left ≡ [] → left ≡ []
none_left [] e = refl
none_left (u ∷ us) e = cc

pub one_coming : (held outgoing : List ℕ) (us vs : List Value) → AreComing held outgoing us → AreComing held outgoing vs → us ≡ vs
one_coming held outgoing us vs a b =
    let f = units_front (map written us) vs (packets us) [] [] b.sendable (are_packets us a.sendable)
    (append-nil (packets us) ∙ sym a.octets ∙ b.octets) in
    grind (arith, written_all, append-nil, none_left)
