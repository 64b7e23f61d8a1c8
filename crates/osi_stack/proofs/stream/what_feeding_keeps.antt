-- What each packet and the end of the carrier keep, feeding keeps.
use Rattle.std.proofs.Common.{◌≡◌, ℕ, true, List, ◌∷◌, None, is_some, sym, subst, inl, inr, ◌⊎◌, [], arith}
use Rattle.osi_stack.proofs.Vocabulary.{ArePackets, Fed, EndReason, Broken, NoMemory, breaks, TakesPackets, Goes, Feeds, after_packet, ends}
use Rattle.osi_stack.proofs.Vocabulary.{hears_times, with_carrier, with_events, Starves, End, Holding, waits}
use Rattle.osi_stack.proofs.stream.the_room_for_a_packet.{found_how}
use Rattle.osi_stack.proofs.carried.events_one_after_the_other.{starved_over}
use Rattle.osi_stack.proofs.carried.packets_without_events.{lasting_of}
use Rattle.osi_stack.proofs.carried.an_ended_carrier_stays_ended.{attends_over}
use Rattle.osi_stack.proofs.carried.what_each_step_preserves.{broken_end}

-- a packet, the end of the carrier, and an allocation failure
pub record IsKept (P : End → Type 0) : Type 0 where
  pub each : (packet : List ℕ) (e : End) → e.carrier.ended ≡ None → P e → P (after_packet e packet)
  pub over : (reason : EndReason) (e : End) → P e → P (ends reason e)
  pub starved : (packet : List ℕ) (e new : End) → e.carrier.ended ≡ None → Starves e packet new → P e → P new

pub packets_kept : (P : End → Type 0) → IsKept P → (units : List (List ℕ)) (old new : End) → TakesPackets old units new → P old → P new
packets_kept P law [] old new h p = subst P (sym h) p
packets_kept P law (u ∷ units) old new h p =
    packets_kept P law units (after_packet old u) new h.1 (law.each u old (lasting_of old.carrier.ended (waits old.lines) h.0) p)

none_found : (P : End → Type 0) → IsKept P → (e new : End) (rest : List ℕ) → e.carrier.ended ≡ None →
    (new ≡ ends NoMemory e) ⊎ ((packet : List ℕ) × ArePackets (packet ∷ []) rest [] × Starves e packet new) → P e → P new
none_found P law e new rest lasts (inl is) p = subst P (sym is) (law.over NoMemory e p)
none_found P law e new rest lasts (inr h) p = law.starved h.0 e new lasts h.2 p

goes_kept : (P : End → Type 0) → IsKept P → (old new : Holding) (piece : List ℕ) (used : ℕ) → Goes old piece used new → P old.end →
    P new.end
goes_kept P law old new piece used (inl (inl h)) p = packets_kept P law h.units old.end new.end h.taken p
goes_kept P law old new piece used (inl (inr h)) p = packets_kept P law h.units old.end new.end h.taken p
goes_kept P law old new piece used (inr (inl h)) p = grind (arith, packets_kept)
goes_kept P law old new piece used (inr (inr h)) p =
    none_found P law h.before new.end h.rest (lasting_of h.before.carrier.ended (waits h.before.lines) h.quiet)
    (found_how old piece used new h)
    (packets_kept P law h.units old.end h.before h.taken p)

pub feeds_kept : (P : End → Type 0) → IsKept P → (old new : Holding) (piece : List ℕ) (fed : Fed) → Feeds old piece fed new → P old.end →
    P new.end
feeds_kept P law old new piece fed h p = grind (arith, is_some, goes_kept, waits)

pub breaks_kept : (P : End → Type 0) → IsKept P → (e : End) → P e → P (breaks e)
breaks_kept P law e p = broken_end P (law.over Broken) e p

-- ---- what is true of each end that has ended

pub over_kept : (P : End → Type 0) → ((packet : List ℕ) (e : End) → e.carrier.ended ≡ None → P e → P (after_packet e packet)) →
    ((e : End) → is_some e.carrier.ended ≡ true → P e) → IsKept P
over_kept P each over = grind (arith, ends, is_some, attends_over, with_carrier, starved_over, with_events, hears_times)

-- ---- beside what is kept already

pub record IsKeptBeside (P Q : End → Type 0) : Type 0 where
  pub each : (packet : List ℕ) (e : End) → e.carrier.ended ≡ None → P e → Q e → Q (after_packet e packet)
  pub over : (reason : EndReason) (e : End) → P e → Q e → Q (ends reason e)
  pub starved : (packet : List ℕ) (e new : End) → e.carrier.ended ≡ None → Starves e packet new → P e → Q e → Q new

-- if it holds of each end that has ended
pub over_beside : (P Q : End → Type 0) → ((packet : List ℕ) (e : End) → e.carrier.ended ≡ None → P e → Q e → Q (after_packet e packet)) →
    ((e : End) → is_some e.carrier.ended ≡ true → Q e) → IsKeptBeside P Q
over_beside P Q each over = grind (arith, ends, is_some, attends_over, with_carrier, starved_over, with_events, hears_times)

pub both_kept : (P Q : End → Type 0) → IsKept P → IsKeptBeside P Q → IsKept (λ e. P e × Q e)
both_kept P Q law beside = record {
  each = λ packet e lasts p. (law.each packet e lasts p.0, beside.each packet e lasts p.0 p.1);
  over = λ reason e p. (law.over reason e p.0, beside.over reason e p.0 p.1);
  starved = λ packet e new lasts h p. (law.starved packet e new lasts h p.0, beside.starved packet e new lasts h p.0 p.1);
}

pub feeds_beside : (P Q : End → Type 0) → IsKept P → IsKeptBeside P Q → (old new : Holding) (piece : List ℕ) (fed : Fed) →
    Feeds old piece fed new → P old.end → Q old.end → Q new.end
feeds_beside P Q law beside old new piece fed h p q = (feeds_kept (λ e. P e × Q e) (both_kept P Q law beside) old new piece fed h (p, q)).1
