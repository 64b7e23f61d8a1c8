-- How a list of calls ends a carrier: after a packet, or at a fault of the stream. Two lists with the same octets end
-- it alike, and if one does not end it the other does not either.
use Rattle.osi_carrier.proofs.Vocabulary.{append-nil, take_all, flat_map, IsPartial, offset_of, Fed, Carrying, Goes, TakesPackets}
use Rattle.osi_carrier.proofs.Vocabulary.{after_packet, is_spoilt, Call, all_done, CallsAlong, used_in, told_in, carried_in, called_in}
use Rattle.osi_carrier.proofs.Vocabulary.{put_back, EndAlike, packet, feeding, telling, carrying, calling, State, NoMemory, EndReason, ◌≡◌}
use Rattle.osi_carrier.proofs.Vocabulary.{ℕ, ◌+◌, ◌-◌, ◌<◌, ◌^◌, true, List, [], ◌∷◌, ◌++◌, length, take, map, Some, None, is_some, refl}
use Rattle.osi_carrier.proofs.Vocabulary.{ap, ◌∙◌, ◌⊎◌, inl, inr, arith, append_assoc, Option}
use Rattle.osi_carrier.proofs.stream.a_carrier_does_what_its_packets_do.{carriers, silent, SilentCalls, packets_done}
use Rattle.osi_carrier.proofs.stream.packets_at_the_front_of_octets.{fault_behind, front_used, packets_within, at_same}
use Rattle.osi_carrier.proofs.stream.what_takes_packets_ends_alike.{Outcome, starves, pieces_last as takers_last, pieces_end as takers_end}
use Rattle.osi_carrier.proofs.effects.units_one_after_the_other.{none_of}

-- ---- a feed that ends it

never : {B : Type 0} (s : State) → is_some s.ended ≡ true → s.ended ≡ None → B
never s over none = grind (arith, is_some)

abbrev Full : Option EndReason → Type 0
Full reason = reason ≡ Some NoMemory

-- packets of which none stopped but the last
record TakesLast (old : State) (units : List (List ℕ)) : Type 0 where
  before : List (List ℕ)
  last : List ℕ
  all : units ≡ before ++ last ∷ []
  lasts : (all_done (map packet before) old).ended ≡ None

takes_last : (units : List (List ℕ)) (old new : State) → TakesPackets old units new → 0 < length units → TakesLast old units
takes_last [] old new h some = absurd (omega arith)
takes_last (u ∷ []) old new h some = record { before = []; last = u; all = refl; lasts = (grind (arith, none_of)) }
takes_last (u ∷ v ∷ us) old new h some =
    let more = takes_last (v ∷ us) (after_packet old u) new h.1 (omega arith) in
    record { before = u ∷ more.before; last = more.last; all = ap (λ l. u ∷ l) more.all; lasts = more.lasts }

abbrev Finished : Carrying → List ℕ → State → Carrying → Type 0
Finished old octets final new =
    Full new.state.ended ⊎ Outcome carriers old.state old.held.offset (old.held.octets ++ octets) final new.held.octets

ends_goes : (old : Carrying) (piece : List ℕ) (fed : Fed) (new : Carrying) (later : List ℕ) → Goes old piece fed.used new →
    is_some new.state.ended ≡ true → Finished old (take fed.used piece ++ later) new.state new
ends_goes old piece fed new later (inl (inl dry)) over = grind (arith, never)
ends_goes old piece fed new later (inl (inr stop)) over =
    let front = front_used (is_spoilt new.state.ended) piece fed.used stop.within stop.bound stop.uses in
    let packets = packets_within stop.units old.held.octets (take fed.used piece) (take stop.within piece) front.0 later [] front.1
    stop.packets in
    let t = takes_last stop.units old.state new.state stop.taken stop.one in
    inr (grind (arith, packets_done stop.units old.state new.state stop.taken))
ends_goes old piece fed new later (inr (inl refused)) over =
    let whole : take fed.used piece ≡ piece ++ [] = grind (arith, take_all, append-nil) in
    let s = old.held.octets ++ piece in
    let r = refused.cut.0 in
    let here = fault_behind (offset_of (old.held.offset + (length s - length r))) r later refused.fault refused.cut.2 in
    let packets = packets_within refused.units old.held.octets (take fed.used piece) piece [] later r whole refused.cut.1 in
    let done = packets_done refused.units old.state refused.before refused.taken in
    inr (record {
      how = inr (grind (arith, none_of, append_assoc, at_same old.held.offset s r later));
      nothing = refused.held;
    })
ends_goes old piece fed new later (inr (inr starved)) over =
    inl (elim starved.how [ inl none ↦ ap (λ (x : State). x.ended) none.ended | inr h ↦ ap (λ (x : State). x.ended) h.2.2.ended ])

ends_one : (old : Carrying) (call : Call) (new : Carrying) (later : List ℕ) → SilentCalls old call new → old.state.ended ≡ None →
    is_some new.state.ended ≡ true → Finished old (used_in call ++ later) (put_back (told_in call) (carried_in call) new.state) new
ends_one old (feeding piece fed) new later h quiet over = grind (arith, never, ends_goes)
ends_one old (telling event) new later h quiet over = never new.state over ((grind arith) ∙ quiet)
ends_one old (carrying octets) new later h quiet over = grind (arith, never)
ends_one old (calling call) new later h quiet over = absurd cc

-- ---- two lists of calls

pub pieces_last : (old a b : Carrying) (xs ys : List Call) → IsPartial old.held.octets → old.state.ended ≡ None →
    CallsAlong old xs a → CallsAlong old ys b → flat_map called_in xs ≡ [] → flat_map called_in ys ≡ [] →
    flat_map used_in xs ≡ flat_map used_in ys →
    a.state.ended ≡ None → (b.state.ended ≡ None) ⊎ (b.state.ended ≡ Some NoMemory)
pieces_last old a b xs ys partial quiet h k none nor used lasts =
    takers_last silent Full (starves silent Full ends_one) old a b xs ys partial quiet (none, h) (nor, k) used lasts

pub pieces_end : (old a b : Carrying) (xs ys : List Call) → IsPartial old.held.octets →
    old.held.offset < 2 ^ 64 → old.state.ended ≡ None →
    CallsAlong old xs a → CallsAlong old ys b → flat_map called_in xs ≡ [] → flat_map called_in ys ≡ [] →
    flat_map used_in xs ≡ flat_map used_in ys →
    (a.state.ended ≡ None → ⊥) → (a.state.ended ≡ Some NoMemory → ⊥) → (b.state.ended ≡ Some NoMemory → ⊥) → EndAlike a xs b ys
pieces_end old a b xs ys partial bound quiet h k none nor used ended full full_too =
    let e = takers_end silent Full ends_one old a b xs ys partial bound quiet (none, h) (nor, k) used ended full full_too in
    record { octets = e.nothing; octets_too = e.nothing_too; state = e.account }
