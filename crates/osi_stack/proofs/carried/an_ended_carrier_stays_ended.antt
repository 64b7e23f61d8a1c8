-- Once the carrier has ended no session changes it, and it stays ended for the same reason.
use Rattle.std.proofs.Common.{◌≡◌, ℕ, zero, suc, true, List, ◌∷◌, length, Some, None, is_some, refl, ap, ◌∙◌, ◌⊎◌, inl, inr, [], arith}
use Rattle.osi_carrier.specs.Happenings as told
use Rattle.osi_carrier.specs.Packets as carriers
use Rattle.osi_carrier.specs.State as states
use Rattle.osi_stack.proofs.Vocabulary.{Happening, State as Carrier, NoMemory, acts_cases, hears_first, hears_next, hears_times, hears_all}
use Rattle.osi_stack.proofs.Vocabulary.{with_events, with_carrier, attends, after_packet, RunsOut, Starves, End}
use Rattle.osi_stack.proofs.carried.events_one_after_the_other.{times_quiet, concluded_carrier}
use Rattle.osi_stack.proofs.carried.packets_without_events.{packet_is}
use Rattle.osi_stack.proofs.carried.open_connections_stay_open.{rest_is, times_last}
use Rattle.osi_stack.proofs.carried.what_each_step_preserves.{event_heard}

-- ---- all events

first_over : (events : List Happening) (e : End) → is_some e.carrier.ended ≡ true → (hears_first events e).carrier.ended ≡ e.carrier.ended
first_over events e over = search (arith, with_events, event_heard)

pub times_over : (n : ℕ) (e : End) → is_some e.carrier.ended ≡ true → (hears_times n e).carrier.ended ≡ e.carrier.ended
times_over zero e over = refl
times_over (suc n) e over =
    let one = first_over e.carrier.events e over in
    times_over n (hears_next e) (ap is_some one ∙ over) ∙ one

pub attends_over : (e : End) → is_some e.carrier.ended ≡ true → (attends e).carrier.ended ≡ e.carrier.ended
attends_over e over = ap (λ (c : Carrier). c.ended) (concluded_carrier (hears_all e)) ∙ times_over (length e.carrier.events) e over

-- if the carrier lasts after all pending events, it lasts after some of them
times_within : (n : ℕ) (events : List Happening) (e : End) → e.carrier.events ≡ events →
    (hears_times (length events) e).carrier.ended ≡ None → (hears_times n e).carrier.ended ≡ None
times_within zero events e is lasts = times_last (length events) e lasts
times_within (suc n) [] e is lasts = ap (λ (x : End). x.carrier.ended) (times_quiet (suc n) e is) ∙ lasts
times_within (suc n) (event ∷ events) e is lasts = times_within n events (hears_next e) (rest_is event events e is) lasts

-- ---- an allocation failure

out_lasting : (e new : End) → RunsOut e new → (attends e).carrier.ended ≡ None → new.carrier.ended ≡ Some NoMemory
out_lasting e new out lasts = grind (arith, times_within, concluded_carrier)

out_by : (e new : End) (packet : List ℕ) (c : Carrier) →
    (c ≡ carriers.after_packet e.carrier packet) ⊎ carriers.Starves e.carrier packet c → RunsOut (with_carrier c e) new →
    (after_packet e packet).carrier.ended ≡ None → new.carrier.ended ≡ Some NoMemory
out_by e new packet c (inl is) out lasts = grind (arith, out_lasting (with_carrier c e) new out, packet_is)
out_by e new packet c (inr starved) out lasts = grind (arith, times_over)

-- if the packet does not end it, an allocation failure does
pub starved_full : (e new : End) (packet : List ℕ) → Starves e packet new → (after_packet e packet).carrier.ended ≡ None →
    new.carrier.ended ≡ Some NoMemory
starved_full e new packet (inl h) lasts = grind (arith, attends_over)
starved_full e new packet (inr h) lasts = out_by e new packet h.0 (acts_cases e.carrier h.0 packet h.1) h.2 lasts

-- ---- packets

pub packet_over : (e : End) (packet : List ℕ) → is_some (carriers.after_packet e.carrier packet).ended ≡ true →
    is_some (after_packet e packet).carrier.ended ≡ true
packet_over e packet over = search (arith, packet_is, attends_over)
