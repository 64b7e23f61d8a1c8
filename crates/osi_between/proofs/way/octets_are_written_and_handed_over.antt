-- The octets between two carriers: units are written at their end, and octets are handed over, taken, and lost.
-- For octets in flight and the invariant.
use Rattle.osi_between.proofs.Vocabulary.{◌≡◌, ℕ, ◌-◌, ◌≤◌, List, [], ◌∷◌, ◌++◌, length, take, drop, Option, Some, None, IfSome, sym, ap}
use Rattle.osi_between.proofs.Vocabulary.{subst, ◌∙◌, arith, append_assoc, one_packet, AllByRecursion, append-nil, append_cancel_left}
use Rattle.osi_between.proofs.Vocabulary.{take-append-drop, take-append-le, length-take-le, length-drop, take-take, drop-take, IsPacket}
use Rattle.osi_between.proofs.Vocabulary.{IsPartial, packet_of, completed_partial, partial_not_whole, Value, written, IsSendable, packets}
use Rattle.osi_between.proofs.Vocabulary.{all_behind, unit_packet, packets_join, within_reach, IsOnTheWay, fault_free, reads_part}
use Rattle.osi_between.proofs.Vocabulary.{AreComing, append_cancel_right, IsOctets, octets_nil, octets_append, octets_left, some_cut}
use Rattle.osi_between.proofs.Vocabulary.{Ending, EndsAt, Faulty, Rest}
use Rattle.osi_between.proofs.unit.the_units_of_one_connection.{front_none}

-- ---- units are written

-- after those that will arrive; if the byte connection broke, after those that are lost
abbrev pub going_then : Option ℕ → List Value → List Value → List Value
going_then None going units = going ++ units
going_then (Some k) going units = going

abbrev pub lost_then : Option ℕ → List Value → List Value → List Value
lost_then None lost units = lost
lost_then (Some k) lost units = lost ++ units

pub way_out : (reach : Option ℕ) (held outgoing : List ℕ) (going lost units : List Value) → (reach ≡ None → lost ≡ []) →
    IfSome reach (λ k. k ≤ length outgoing) → IsOnTheWay held (within_reach reach outgoing) going lost → AllByRecursion IsSendable units →
    IsOnTheWay held (within_reach reach (outgoing ++ packets units)) (going_then reach going units) (lost_then reach lost units)
way_out None held outgoing going lost units none bound w all = grind (arith, front_none, append_assoc, append-nil, packets_join, all_behind)
way_out (Some k) held outgoing going lost units none bound w all = search (
  ap (λ (l : List ℕ). held ++ l) (take-append-le k outgoing (packets units) bound) ∙ w.octets,
  sym (append_assoc w.front w.never (packets units)) ∙ ap (λ (l : List ℕ). l ++ packets units) w.rest ∙ sym (packets_join lost units),
  all_behind lost units w.sendable_lost all,
)

-- ---- octets are handed over

abbrev pub less_by : ℕ → Option ℕ → Option ℕ
less_by k None = None
less_by k (Some r) = Some (r - k)

take_on : (k r : ℕ) (l : List ℕ) → k ≤ r → take k l ++ take (r - k) (drop k l) ≡ take r l
take_on k r l le = grind (arith, take-take k r l le, drop-take k (r - k) l, take-append-drop k (take r l))

pub way_over : (reach : Option ℕ) (k : ℕ) (held outgoing : List ℕ) (going lost : List Value) → k ≤ length (within_reach reach outgoing) →
    IfSome reach (λ r. r ≤ length outgoing) → IsOnTheWay held (within_reach reach outgoing) going lost →
    IsOnTheWay (held ++ take k outgoing) (within_reach (less_by k reach) (drop k outgoing)) going lost
way_over reach k held outgoing going lost less bound w = grind (arith, append_assoc, take-append-drop, length-take-le, take_on)

pub bound_over : (reach : Option ℕ) (k : ℕ) (outgoing : List ℕ) → IfSome reach (λ r. r ≤ length outgoing) →
    IfSome (less_by k reach) (λ r. r ≤ length (drop k outgoing))
bound_over reach k outgoing h = grind (arith, length-drop)

-- ---- a packet is taken

pub record TakesFirst (packet behind arriving : List ℕ) (units lost : List Value) : Type 0 where
  pub unit : Value
  pub left : List Value
  pub parts : units ≡ unit ∷ left
  pub is : packet ≡ written unit
  pub sendable : IsSendable unit
  pub way : IsOnTheWay behind arriving left lost

pub way_takes : (packet octets behind held arriving : List ℕ) (units lost : List Value) → IsPacket packet octets → held ≡ octets ++ behind →
    IsOnTheWay held arriving units lost → TakesFirst packet behind arriving units lost
way_takes packet octets behind held arriving [] lost p cut w =
    let same : w.front ≡ octets ++ (behind ++ arriving) =
    sym w.octets ∙ ap (λ (l : List ℕ). l ++ arriving) cut ∙ append_assoc octets behind arriving in
    absurd (partial_not_whole octets (completed_partial octets (behind ++ arriving) (subst (λ (l : List ℕ). IsPartial l) same w.partial))
    (packet, p))
way_takes packet octets behind held arriving (v ∷ vs) lost p cut w =
    let all = w.sendable in
    let own = unit_packet v all.0 in
    let same : octets ++ (behind ++ arriving) ≡ packet_of (written v) ++ (packets vs ++ w.front) = grind (arith, append_assoc) in
    let one = one_packet packet (written v) octets (packet_of (written v)) (behind ++ arriving) (packets vs ++ w.front) p own same in
    grind (arith, append_cancel_left)

-- the first unit is taken
pub way_unit : (u : Value) (rest : List Value) (behind held arriving : List ℕ) (units lost : List Value) → units ≡ u ∷ rest →
    held ≡ packet_of (written u) ++ behind → IsOnTheWay held arriving units lost → IsOnTheWay behind arriving rest lost
way_unit u rest behind held arriving units lost first cut w = search (arith, append_cancel_left, append_assoc)

-- ---- the byte connection breaks

octets_of : (us : List Value) → AllByRecursion IsSendable us → IsOctets (packets us)
octets_of [] all = octets_nil
octets_of (u ∷ us) all = octets_append (packet_of (written u)) (packets us) (unit_packet u all.0).octets (octets_of us all.1)

-- what follows the packets at the front of what was written is the beginning of a packet
partial_end : (at : ℕ) (r t : List ℕ) (units : List Value) (e : Ending) → AreComing r t units → EndsAt at r e → IsPartial r
partial_end at r t units (Faulty f) c bad = absurd (fault_free at r t f units c bad)
partial_end at r t units (Rest n) c end = end.0

-- this many octets will still arrive
pub record Breaks (held outgoing : List ℕ) (k : ℕ) (units : List Value) : Type 0 where
  pub done : List Value
  pub left : List Value
  pub parts : units ≡ done ++ left
  pub way : IsOnTheWay held (take k outgoing) done left

pub way_breaks : (held outgoing : List ℕ) (k : ℕ) (units lost : List Value) → lost ≡ [] → IsOnTheWay held outgoing units lost →
    Breaks held outgoing k units
way_breaks held outgoing k units lost none w =
    let front : w.front ≡ [] = front_none w.front w.never (w.rest ∙ ap packets none) in
    let x = held ++ take k outgoing in
    let whole : x ++ drop k outgoing ≡ packets units = grind (arith, append_assoc, take-append-drop, append-nil) in
    let comes : AreComing held outgoing units = grind (arith, append-nil) in
    let cut = some_cut x (octets_left x (drop k outgoing) (subst IsOctets (sym whole) (octets_of units w.sendable))) in
    let r = cut.2.0 in
    let f = reads_part held outgoing units k cut.0 r comes cut.2.1 in
    let parts : x ++ drop k outgoing ≡ (packets f.done ++ r) ++ drop k outgoing = grind (arith, append_assoc, packets_join) in
    record {
      done = f.done;
      left = f.left;
      parts = f.parts;
      way = record {
        front = r;
        never = drop k outgoing;
        octets = append_cancel_right x (packets f.done ++ r) (drop k outgoing) parts;
        partial = partial_end _ r (drop k outgoing) f.left cut.1 f.rest cut.2.2;
        rest = f.rest.octets;
        sendable = f.sendable;
        sendable_lost = f.rest.sendable;
      };
    }
