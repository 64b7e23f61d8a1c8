-- How a list of calls ends an end: after a packet, at a fault of the stream, or because memory runs out. Two lists with
-- the same octets for which there is memory end it alike, and if one list does not end it, no other with its octets does.
use Rattle.osi_stack.proofs.Vocabulary.{append-nil, take_all, flat_map, IsPartial, offset_of, Fed, PacketLaws, EndReason, fault_behind}
use Rattle.osi_stack.proofs.Vocabulary.{front_used, packets_within, at_same, Shown, NoMemory, stops, uses_all, TakesPackets, RunsDry}
use Rattle.osi_stack.proofs.Vocabulary.{StopsBehind, Goes, after_packet, Account, account_of, with_packets, Calls, HasRoom, CallsAlong}
use Rattle.osi_stack.proofs.Vocabulary.{CallsInRoom, used_in, account_along, AreAlike, feeding, telling, carrying, End, Holding, waits}
use Rattle.osi_stack.proofs.Vocabulary.{EndCall as Call, ◌≡◌, ℕ, ◌+◌, ◌-◌, ◌<◌, ◌^◌, true, false, List, ◌∷◌, ◌++◌, length, take, Some, None}
use Rattle.osi_stack.proofs.Vocabulary.{is_some, refl, sym, ap, ◌∙◌, ◌⊎◌, inl, inr, arith, append_assoc, [], none_of, Option, ArePackets}
use Rattle.osi_stack.proofs.Vocabulary.{Bool, Feeds, subst}
use Rattle.osi_stack.specs.Feeding.{Refuses}
use Rattle.osi_carrier.proofs.stream.what_takes_packets_ends_alike as takers
use Rattle.osi_stack.proofs.in_step.the_account_packet_by_packet.{made, after_more, account_quiet, packets_apart, packets_done, with_joined}
use Rattle.osi_stack.proofs.carried.packets_without_events.{both, or_first, or_second, packets_append, never, quiet_stops}
use Rattle.osi_stack.proofs.carried.an_ended_carrier_stays_ended.{starved_full}
use Rattle.osi_stack.proofs.stream.an_end_is_what_its_packets_make.{accounts, faulted, running, any_calls}

-- ---- how it ends, and that it ends alike

abbrev pub Ending : Account → ℕ → List ℕ → Account → Type 0
Ending old at s final = takers.Ending accounts old at s final

pub end_alike : PacketLaws → (old : Account) (at : ℕ) (s : List ℕ) (f g : Account) → Ending old at s f → Ending old at s g → f ≡ g
end_alike laws old at s f g a b = takers.end_alike accounts old at s f g a b

abbrev pub Lasts : Holding → List ℕ → Type 0
Lasts old octets = takers.Lasts accounts (account_of [] [] old.end) octets

-- octets that end it are none that do not
pub ending_lasts : PacketLaws → (old : Holding) (s : List ℕ) (final : Account) → Lasts old s →
    Ending (account_of [] [] old.end) old.held.offset s final → ⊥
ending_lasts laws old s final lasts how = takers.ending_lasts accounts (account_of [] [] old.end) old.held.offset s final lasts how

-- what was reported and carried before
pub ending_apart : (told : List (ℕ × Shown)) (carried : List ℕ) (old : Account) (at : ℕ) (s : List ℕ) (final : Account) →
    Ending old at s final →
    Ending (after_more told carried old) at s (after_more told carried final)
ending_apart told carried old at s final (inl a) = grind (arith, packets_apart, after_more)
ending_apart told carried old at s final (inr a) =
    grind (arith, packets_apart told carried a.before old, after_more told carried, made, append_assoc)

-- ---- a feed that ends it

abbrev pub Outcome : Holding → List ℕ → Account → List ℕ → Type 0
Outcome old s final held = takers.Outcome accounts (account_of [] [] old.end) old.held.offset s final held

-- packets of which none stopped but the last
record TakesLast (old : End) (units : List (List ℕ)) : Type 0 where
  before : List (List ℕ)
  last : List ℕ
  all : units ≡ before ++ last ∷ []
  lasts : (with_packets before (account_of [] [] old)).end.carrier.ended ≡ None

pub stops_not : (e : End) → stops e ≡ false → e.carrier.ended ≡ None
stops_not e quiet = none_of e.carrier.ended (or_first (is_some e.carrier.ended) (waits e.lines) quiet)

takes_last : (units : List (List ℕ)) (old new : End) → TakesPackets old units new → stops old ≡ false → stops new ≡ true →
    TakesLast old units
takes_last [] old new h quiet stopped = both (stops old) (ap stops (sym h) ∙ stopped) quiet
takes_last (u ∷ []) old new h quiet stopped = record { before = []; last = u; all = refl; lasts = stops_not old quiet }
takes_last (u ∷ v ∷ us) old new h quiet stopped =
    let more = takes_last (v ∷ us) (after_packet old u) new h.1 h.1.0 stopped in
    record {
      before = u ∷ more.before;
      last = more.last;
      all = ap (λ l. u ∷ l) more.all;
      lasts = ap (λ (a : Account). (with_packets more.before a).end.carrier.ended) (grind (arith, account_quiet, or_second)) ∙ more.lasts;
    }

ends_stops : (old : Holding) (piece : List ℕ) (fed : Fed) (new : Holding) (later : List ℕ) → stops old.end ≡ false →
    StopsBehind old piece fed.used new → is_some new.end.carrier.ended ≡ true →
    Outcome old (old.held.octets ++ (take fed.used piece ++ later)) (account_of [] [] new.end) new.held.octets
ends_stops old piece fed new later quiet stop over =
    let front = front_used (uses_all new.end) piece fed.used stop.within stop.bound stop.uses in
    let packets = packets_within stop.units old.held.octets (take fed.used piece) (take stop.within piece) front.0 later [] front.1
    stop.packets in
    let t = takes_last stop.units old.end new.end stop.taken quiet stop.stopped in
    let done = packets_done stop.units old.end new.end stop.taken ∙ ap (λ l. with_packets l (account_of [] [] old.end)) t.all in
    record {
      how = inl (record {
        before = t.before;
        last = t.last;
        rest = front.0 ++ later;
        packets = subst (λ us. ArePackets us (old.held.octets ++ (take fed.used piece ++ later)) (front.0 ++ later)) t.all packets;
        lasts = t.lasts;
        over = ap (λ (a : Account). is_some a.end.carrier.ended) (sym done) ∙ over;
        account = done;
      });
      nothing = stop.held;
    }

ends_refuses : (old : Holding) (piece : List ℕ) (fed : Fed) (new : Holding) (later : List ℕ) → Refuses old piece fed.used new →
    Outcome old (old.held.octets ++ (take fed.used piece ++ later)) (account_of [] [] new.end) new.held.octets
ends_refuses old piece fed new later refused =
    let whole : take fed.used piece ≡ piece ++ [] = grind (arith, take_all, append-nil) in
    let s = old.held.octets ++ piece in
    let r = refused.cut.0 in
    let here = fault_behind (offset_of (old.held.offset + (length s - length r))) r later refused.fault refused.cut.2 in
    let done = packets_done refused.units old.end refused.before refused.taken in
    record {
      how = inr (record {
        before = refused.units;
        rest = r ++ later;
        fault = refused.fault;
        packets = packets_within refused.units old.held.octets (take fed.used piece) piece [] later r whole refused.cut.1;
        is = grind (arith, append_assoc, at_same old.held.offset s r later);
        lasts = ap (λ (a : Account). a.end.carrier.ended) (sym done) ∙ stops_not refused.before refused.quiet;
        account = (grind (arith, account_quiet, or_second)) ∙ ap (faulted refused.fault) done;
      });
      nothing = refused.held;
    }

ends_goes : (old : Holding) (piece : List ℕ) (fed : Fed) (new : Holding) (later : List ℕ) → stops old.end ≡ false →
    (RunsDry old piece fed.used new ⊎ StopsBehind old piece fed.used new) ⊎ Refuses old piece fed.used new →
    is_some new.end.carrier.ended ≡ true →
    Outcome old (old.held.octets ++ (take fed.used piece ++ later)) (account_of [] [] new.end) new.held.octets
ends_goes old piece fed new later quiet (inl (inl dry)) over = never new.end over (stops_not new.end dry.quiet)
ends_goes old piece fed new later quiet (inl (inr stop)) over = ends_stops old piece fed new later quiet stop over
ends_goes old piece fed new later quiet (inr refused) over = ends_refuses old piece fed new later refused

-- an end that a piece ended was reading
fed_quiet : (old : Holding) (piece : List ℕ) (fed : Fed) (new : Holding) (waiting : Bool) → waits old.end.lines ≡ waiting →
    old.end.carrier.ended ≡ None → Feeds old piece fed new → is_some new.end.carrier.ended ≡ true → stops old.end ≡ false
fed_quiet old piece fed new true e alive h over =
    never new.end over (ap (λ (x : Holding). x.end.carrier.ended) (h.waiting alive e).1 ∙ alive)
fed_quiet old piece fed new false e alive h over = quiet_stops old.end (ap is_some alive) e

-- ---- calls for which there is memory

abbrev InRoom : Holding → Call → Holding → Type 0
InRoom old call new = Calls old call new × HasRoom old call new

abbrev in_room_calls : takers.Runner accounts Holding Call InRoom CallsInRoom
in_room_calls = running InRoom CallsInRoom (λ old new h. h) (λ old call calls new h. (h.0, (h.1, h.2), h.3)) (λ old call new h. h.0)

finishes : takers.Finishes in_room_calls (λ reason. ⊥)
finishes old (feeding piece fed) new later h alive over =
    let quiet = fed_quiet old piece fed new (waits old.end.lines) refl alive h.0 over in
    inr (ends_goes old piece fed new later quiet (h.1 quiet) over)
finishes old (telling shown) new later h alive over = never new.end over (ap (λ (x : Holding). x.end.carrier.ended) h.0.1 ∙ alive)
finishes old (carrying octets) new later h alive over = never new.end over (ap (λ (x : Holding). x.end.carrier.ended) (sym h.0) ∙ alive)

pub outcome_along : IsPartial [] → (old : Holding) (calls : List Call) (new : Holding) → old.end.carrier.ended ≡ None →
    old.held.offset < 2 ^ 64 → CallsInRoom old calls new → is_some new.end.carrier.ended ≡ true →
    Outcome old (old.held.octets ++ flat_map used_in calls) (account_along calls new.end) new.held.octets
outcome_along nothing old calls new quiet bound h over =
    elim (takers.outcome_along in_room_calls (λ reason. ⊥) finishes old calls new h quiet bound over) [ inl none ↦ absurd none | inr m ↦ m ]

pub pieces_end : PacketLaws → IsPartial [] → (old a b : Holding) (xs ys : List Call) → IsPartial old.held.octets →
    old.held.offset < 2 ^ 64 → old.end.carrier.ended ≡ None →
    CallsInRoom old xs a → CallsInRoom old ys b → flat_map used_in xs ≡ flat_map used_in ys → (a.end.carrier.ended ≡ None → ⊥) →
    AreAlike a xs b ys × (a.held.octets ≡ [])
pieces_end laws nothing old a b xs ys partial bound quiet h k used ended =
    let e = takers.pieces_end in_room_calls (λ reason. ⊥) finishes old a b xs ys partial bound quiet h k used ended (λ none. none)
    (λ none. none) in
    let alike : AreAlike a xs b ys =
    record { octets = e.nothing ∙ sym e.nothing_too; end = ap (λ x. x.end) e.account; told = ap (λ x. x.told) e.account } in
    (alike, e.nothing)

-- ---- calls for which there may be too little

pub in_room : (old : Holding) (calls : List Call) (new : Holding) → CallsInRoom old calls new → CallsAlong old calls new
in_room old [] new h = h
in_room old (call ∷ calls) new h = (h.0, h.1, in_room h.0 calls new h.3)

pub stays_along : (old : Holding) (calls : List Call) (new : Holding) → is_some old.end.carrier.ended ≡ true → CallsAlong old calls new →
    (account_along calls new.end ≡ account_of [] [] old.end) × (new.held ≡ old.held)
stays_along old calls new over h = takers.stays_along any_calls old calls new h over

-- calls that did not end it
pub reads_lasts : IsPartial [] → (old : Holding) (calls : List Call) (new : Holding) → IsPartial old.held.octets →
    CallsAlong old calls new → new.end.carrier.ended ≡ None →
    Lasts old (old.held.octets ++ flat_map used_in calls)
reads_lasts nothing old calls new partial h lasts = takers.lasts_read any_calls old calls new partial h lasts

abbrev Full : Option EndReason → Type 0
Full reason = reason ≡ Some NoMemory

-- because memory ran out it ends so, since the packet alone would not have ended it
starves_goes : (old : Holding) (piece : List ℕ) (fed : Fed) (new : Holding) (later : List ℕ) → stops old.end ≡ false →
    Lasts old (old.held.octets ++ (take fed.used piece ++ later)) →
    Goes old piece fed.used new → is_some new.end.carrier.ended ≡ true → Full new.end.carrier.ended
starves_goes old piece fed new later quiet lasts (inr (inr starved)) over = elim (starved.how) [
  | inl none ↦ ap (λ (x : End). x.carrier.ended) none.ended
  | inr p ↦ (
      let front = front_used true piece fed.used starved.within starved.bound starved.all in
      let s = old.held.octets ++ take starved.within piece in
      let first = packets_append starved.units (p.0 ∷ []) s starved.rest [] starved.packets p.1 in
      let packets = packets_within (starved.units ++ p.0 ∷ []) old.held.octets (take fed.used piece) (take starved.within piece) front.0
      later [] front.1 first in
      let start = account_of [] [] old.end in
      let done = packets_done starved.units old.end starved.before starved.taken in
      let here : account_of [] [] (after_packet starved.before p.0) ≡ with_packets (starved.units ++ p.0 ∷ []) start =
      grind (arith, account_quiet, or_second, with_joined) in
      let still = takers.front_lasts accounts start (old.held.octets ++ (take fed.used piece ++ later)) (starved.units ++ p.0 ∷ [])
      (front.0 ++ later) lasts packets in
      starved_full starved.before new.end p.0 p.2 (ap (λ (x : Account). x.end.carrier.ended) here ∙ still)
      )
]
starves_goes old piece fed new later quiet lasts (inl goes) over =
    absurd (takers.ending_lasts accounts (account_of [] [] old.end) old.held.offset (old.held.octets ++ (take fed.used piece ++ later))
    (account_of [] [] new.end) lasts (ends_goes old piece fed new later quiet (inl goes) over).how)
starves_goes old piece fed new later quiet lasts (inr (inl refused)) over =
    absurd (takers.ending_lasts accounts (account_of [] [] old.end) old.held.offset (old.held.octets ++ (take fed.used piece ++ later))
    (account_of [] [] new.end) lasts (ends_refuses old piece fed new later refused).how)

starves : takers.Starves any_calls Full
starves old (feeding piece fed) new later h alive over lasts =
    let quiet = fed_quiet old piece fed new (waits old.end.lines) refl alive h over in
    starves_goes old piece fed new later quiet lasts (h.goes quiet) over
starves old (telling shown) new later h alive over lasts = never new.end over (ap (λ (x : Holding). x.end.carrier.ended) h.1 ∙ alive)
starves old (carrying octets) new later h alive over lasts = never new.end over (ap (λ (x : Holding). x.end.carrier.ended) (sym h) ∙ alive)

pub pieces_last : PacketLaws → IsPartial [] → (old a b : Holding) (xs ys : List Call) → IsPartial old.held.octets →
    old.end.carrier.ended ≡ None →
    CallsAlong old xs a → CallsAlong old ys b → flat_map used_in xs ≡ flat_map used_in ys → a.end.carrier.ended ≡ None →
    (b.end.carrier.ended ≡ None) ⊎ (b.end.carrier.ended ≡ Some NoMemory)
pieces_last laws nothing old a b xs ys partial quiet h k used lasts =
    takers.pieces_last any_calls Full starves old a b xs ys partial quiet h k used lasts
