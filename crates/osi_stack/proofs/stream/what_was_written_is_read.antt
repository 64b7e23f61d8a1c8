-- Octets that the other end wrote are read as the units that it wrote.
use Rattle.osi_stack.proofs.Vocabulary.{AllByRecursion, length-take-le, take-take, ArePackets, Fed, Value, TpduFault, Happening}
use Rattle.osi_stack.proofs.Vocabulary.{State as Carrier, EndReason, NoMemory, after_unit, carries_out, TakesUnits, IsUnheard, TakesSome}
use Rattle.osi_stack.proofs.Vocabulary.{stops, uses_all, TakesPackets, RunsDry, StopsBehind, FindsNoMemory, Goes, Feeds, attends}
use Rattle.osi_stack.proofs.Vocabulary.{after_packet, with_carrier, hears_all, hears_times, hears_next, ends, Starves, End, Holding}
use Rattle.osi_stack.proofs.Vocabulary.{IsAttended, waits, ◌≡◌, ℕ, ◌≤◌, Bool, true, false, ◌||◌, is_some, List, ◌∷◌, ◌++◌, length, map}
use Rattle.osi_stack.proofs.Vocabulary.{take, drop, Option, None, Result, Ok, refl, sym, ap, subst, ◌∙◌, inl, inr, ◌⊎◌, arith}
use Rattle.osi_stack.proofs.Vocabulary.{if◌then◌else◌, [], AreComing, unit_read, packet_reacts, Fronts, units_front, fault_free}
use Rattle.osi_stack.proofs.Vocabulary.{alone_starved, starved_unit, reads_part}
use Rattle.osi_tpdu.specs.Writing.{written}
use Rattle.osi_carrier.specs.Coming.{IsSendable}
use Rattle.osi_carrier.specs.Packets as carriers
use Rattle.osi_carrier.specs.React.{react}
use Rattle.osi_carrier.specs.State as states
use Rattle.osi_stack.specs.Feeding.{Refuses}
use Rattle.osi_stack.proofs.carried.events_one_after_the_other.{never_starved, concluded_attended}
use Rattle.osi_stack.proofs.carried.what_sessions_leave_of_the_carrier.{hears_keep}
use Rattle.osi_stack.proofs.carried.packets_without_events.{packet_is, lasting_of, never}
use Rattle.osi_stack.proofs.stream.what_feeding_keeps.{IsKept, packets_kept, over_kept}

-- ---- one unit

-- a packet of one unit does what the unit does
pub packet_is_unit : (e : End) (unit : Value) → IsSendable unit → after_packet e (written unit) ≡ after_unit e unit
packet_is_unit e unit h = packet_is e (written unit) ∙ ap (λ (c : Carrier). attends (with_carrier c e)) (packet_reacts e.carrier unit h)

-- ---- packets

-- packets that are taken are units that are taken
units_taken : (done : List Value) (s t : End) → AllByRecursion IsSendable done → TakesPackets s (map written done) t → TakesUnits s done t
units_taken [] s t all h = h
units_taken (u ∷ us) s t all h =
    (h.0, units_taken us (after_unit s u) t all.1 (subst (λ (x : End). TakesPackets x (map written us) t) (packet_is_unit s u all.0) h.1))

-- ---- handled events stay handled along packets

no_events : (e : End) → stops e ≡ false → IsAttended e → e.carrier.events ≡ []
no_events e quiet attended = attended (lasting_of e.carrier.ended (waits e.lines) quiet)

-- ---- a unit for which memory ran out

-- memory ran out in the carrier: the unit did nothing
ended_quiet : (e : End) (c : Carrier) → e.carrier.events ≡ [] → c ≡ states.ends NoMemory e.carrier →
    attends (with_carrier c e) ≡ ends NoMemory e
ended_quiet e c none is = grind arith

acted_unit : (old : Carrier) (new : Carrier) (unit : Value) → IsSendable unit → carriers.Acts old (written unit) new →
    (new ≡ react unit old) ⊎ (new ≡ states.ends NoMemory old)
acted_unit old new unit sendable h =
    let acts : carriers.ActsBy (Ok (unit ∷ [])) old new =
    subst (λ (r : Result (List Value) TpduFault). carriers.ActsBy r old new) (unit_read unit sendable) h in
    elim acts [
      | inl is ↦ inl is
      | inr out ↦ inr (alone_starved old new unit out.done out.more out.next out.all out.ended)
    ]

abbrev Starved : End → List Value → End → Type 0
Starved e left new = (new ≡ ends NoMemory e) ⊎ IsUnheard e left new

unit_starved : (e new : End) (unit : Value) (rest : List Value) → IsSendable unit → e.carrier.events ≡ [] → Starves e (written unit) new →
    Starved e (unit ∷ rest) new
unit_starved e new unit rest sendable none (inl h) =
    inl (h.2 ∙ ended_quiet e h.0 none (starved_unit e.carrier h.0 (written unit) unit sendable refl h.1))
unit_starved e new unit rest sendable none (inr h) = elim (acted_unit e.carrier h.0 unit sendable h.1) [
  | inl is ↦ grind arith
  | inr is ↦ never_starved (with_carrier h.0 e) new (ap (λ (c : Carrier). c.events) is ∙ none) h.2
]

-- the packet for which memory ran out is the next unit in flight
packet_starved : (e new : End) (packet : List ℕ) (coming : List Value) (r t : List ℕ) → e.carrier.events ≡ [] →
    (f : Fronts (packet ∷ []) coming r t) → Starves e packet new → Starved e coming new
packet_starved e new packet coming r t none f h =
    elim f.done as (λ (l : List Value). packet ∷ [] ≡ map written l → coming ≡ l ++ f.left → AllByRecursion IsSendable l →
    Starved e coming new) [
      | [] ↦ λ is parts all. cc
      | u ∷ us ↦ λ is parts all.
          let same : packet ≡ written u = cc in
          subst (λ (l : List Value). Starved e l new) (sym parts)
          (unit_starved e new u (us ++ f.left) all.0 none (subst (λ (p : List ℕ). Starves e p new) same h))
    ] f.are f.parts f.sendable

-- it has ended then
starved_over : {A : Type 0} (e : End) (left : List Value) (new : End) → Starved e left new → new.carrier.ended ≡ None → A
starved_over e left new h3 lasts = grind arith

-- ---- events are handled along packets

-- all events were handled
all_heard : (l : List Happening) (e : End) → e.carrier.events ≡ l → (hears_times (length l) e).carrier.events ≡ []
all_heard [] e h = h
all_heard (x ∷ xs) e h =
    let next : (hears_next e).carrier.events ≡ xs = grind (arith, hears_keep) in
    all_heard xs (hears_next e) next

pub attended_then : (e new : End) → new ≡ attends e → IsAttended new
attended_then e new h = concluded_attended (hears_all e) new h (all_heard e.carrier.events e refl)

pub attended_kept : IsKept IsAttended
attended_kept =
    over_kept IsAttended
    (λ packet e lasts attended. attended_then (with_carrier (carriers.after_packet e.carrier packet) e) (after_packet e packet)
    (packet_is e packet)) (λ e over lasts. never e over lasts)

-- ---- feeding

-- if the end has not ended, an indication is pending
pub uses_within : (e : End) (all within used : ℕ) → stops e ≡ true → e.carrier.ended ≡ None → used ≡ (if uses_all e then all else within) →
    used ≡ within
uses_within e all within used stopped lasts uses = cc

-- a piece of what is in flight
module _ (old new : Holding) (outgoing : List ℕ) (coming : List Value) (k used : ℕ) (less : k ≤ length outgoing)
    (c : AreComing old.held.octets outgoing coming) where
  runs_dry : RunsDry old (take k outgoing) used new → TakesSome old outgoing coming used new
  runs_dry h =
      let f = reads_part old.held.octets outgoing coming k h.units new.held.octets c h.packets in
      let all : used ≡ k = h.all ∙ length-take-le k outgoing less in
      record {
        done = f.done;
        left = f.left;
        parts = f.parts;
        reached = new.end;
        taken = grind (arith, units_taken);
        how = inl refl;
        coming_then = λ lasts. subst (λ n. AreComing new.held.octets (drop n outgoing) f.left) (sym all) f.rest;
      }

  -- the packets of a part of the piece
  part_of_piece : (n : ℕ) (units : List (List ℕ)) (rest : List ℕ) → n ≤ length (take k outgoing) →
      ArePackets units (old.held.octets ++ take n (take k outgoing)) rest → Fronts units coming rest (drop n outgoing)
  part_of_piece n units rest bound packets =
      let within : n ≤ k = (let size = length-take-le k outgoing less in omega arith) in
      reads_part old.held.octets outgoing coming n units rest c
      (subst (λ l. ArePackets units (old.held.octets ++ l) rest) (take-take n k outgoing within) packets)

  stops_behind : StopsBehind old (take k outgoing) used new → TakesSome old outgoing coming used new
  stops_behind h =
      let f = part_of_piece h.within h.units [] h.bound h.packets in
      record {
        done = f.done;
        left = f.left;
        parts = f.parts;
        reached = new.end;
        taken = grind (arith, units_taken);
        how = inl refl;
        coming_then = grind (arith, uses_within);
      }

  refuses_none : Refuses old (take k outgoing) used new → ⊥
  refuses_none h = grind (arith, fault_free, reads_part old.held.octets outgoing coming k h.units h.cut.0 c h.cut.1)

  finds_none : IsAttended old.end → FindsNoMemory old (take k outgoing) used new → TakesSome old outgoing coming used new
  finds_none attended h =
      let f = part_of_piece h.within h.units h.rest h.bound h.packets in
      let none = no_events h.before h.quiet (packets_kept IsAttended attended_kept h.units old.end h.before h.taken attended) in
      let starved : Starved h.before f.left new.end =
      elim h.how [
        | inl none ↦ inl none.ended
        | inr p ↦ search
            (arith, packet_starved, units_front (p.0 ∷ []) f.left h.rest [] (drop h.within outgoing) f.rest.sendable p.1 f.rest.octets)
      ] in
      record {
        done = f.done;
        left = f.left;
        parts = f.parts;
        reached = h.before;
        taken = grind (arith, units_taken);
        how = inr starved;
        coming_then = λ lasts. starved_over h.before f.left new.end starved lasts;
      }

  goes_some : IsAttended old.end → Goes old (take k outgoing) used new → TakesSome old outgoing coming used new
  goes_some attended (inl (inl h)) = runs_dry h
  goes_some attended (inl (inr h)) = stops_behind h
  goes_some attended (inr (inl h)) = absurd (refuses_none h)
  goes_some attended (inr (inr h)) = finds_none attended h

feeds_by : (old new : Holding) (outgoing : List ℕ) (coming : List Value) (k : ℕ) (fed : Fed) (wait : Bool) → k ≤ length outgoing →
    AreComing old.held.octets outgoing coming →
    IsAttended old.end → old.end.carrier.ended ≡ None → waits old.end.lines ≡ wait → Feeds old (take k outgoing) fed new →
    TakesSome old outgoing coming fed.used new
feeds_by old new outgoing coming k fed true less c attended lasts wait h =
    let none = h.waiting lasts wait in
    record {
      done = [];
      left = coming;
      parts = refl;
      reached = old.end;
      taken = refl;
      how = inl (ap (λ (x : Holding). x.end) none.1);
      coming_then = grind arith;
    }
feeds_by old new outgoing coming k fed false less c attended lasts wait h =
    goes_some old new outgoing coming k fed.used less c attended
    (h.goes (ap (λ (o : Option EndReason). is_some o || waits old.end.lines) lasts ∙ wait))

pub feeds_some : (old new : Holding) (outgoing : List ℕ) (coming : List Value) (k : ℕ) (fed : Fed) → k ≤ length outgoing →
    AreComing old.held.octets outgoing coming →
    IsAttended old.end → old.end.carrier.ended ≡ None → Feeds old (take k outgoing) fed new → TakesSome old outgoing coming fed.used new
feeds_some old new outgoing coming k fed less c attended lasts h = search (arith, feeds_by)

pub attended_unit : (e : End) (unit : Value) → IsAttended (after_unit e unit)
attended_unit e unit = attended_then (carries_out unit e) (after_unit e unit) refl
