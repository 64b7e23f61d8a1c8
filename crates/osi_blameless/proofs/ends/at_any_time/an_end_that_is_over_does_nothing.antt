-- An end that is over takes no packet, puts nothing, and stays over, whatever happens and however much memory there is.
-- For the course of a connection.
use Rattle.osi_blameless.proofs.ends.Vocabulary.{[], arith, IsSome, List, None, Option, ℕ, ◌∷◌, ◌≡◌, lasting_of, TakesPackets, End, waits}
use Rattle.osi_blameless.proofs.ends.Vocabulary.{◌++◌}
use Rattle.osi_blameless.proofs.ends.Vocabulary.{append-nil, append_cancel_left, State as Carrier, Call, Calls, carried_in, carrying}
use Rattle.osi_blameless.proofs.ends.Vocabulary.{feeding}
use Rattle.osi_blameless.proofs.ends.Vocabulary.{telling, Holding, Takes, Turn, is_some, length, subst, sym, true, concluded_carrier}
use Rattle.osi_blameless.proofs.ends.Vocabulary.{Carries}
use Rattle.osi_blameless.proofs.ends.Vocabulary.{events_heard, session_carried, attends, hears_all, Bool, if◌then◌else◌, Happening}
use Rattle.osi_blameless.proofs.ends.Vocabulary.{NoMemory}
use Rattle.osi_blameless.proofs.ends.Vocabulary.{hears_times, RunsOut, starves, with_events}
use Rattle.osi_carrier.specs.State.{ends}

-- ---- its packets

-- an end that is over takes no packet
pub over_takes : (units : List (List ℕ)) (e new : End) → IsSome e.carrier.ended → TakesPackets e units new → new ≡ e
over_takes [] e new is h = h
over_takes (v ∷ units) e new is h = let none = lasting_of e.carrier.ended (waits e.lines) h.0 in absurd (cc)

pub never_lasts : {A : Type 0} (o : Option A) → IsSome o → o ≡ None → ⊥
never_lasts o is none = grind arith

-- ---- its calls

over_calls : (call : Call) (put : List ℕ) (old new : Holding) → IsSome old.end.carrier.ended → Calls old call new →
    carried_in call ++ new.end.carrier.outgoing ≡ old.end.carrier.outgoing ++ put →
    IsSome new.end.carrier.ended × (put ≡ [])
over_calls (feeding piece fed) put old new over c outgoing = grind (arith, append_cancel_left, append-nil old.end.carrier.outgoing)
over_calls (telling shown) put old new over c outgoing = grind (arith, append_cancel_left, append-nil old.end.carrier.outgoing)
over_calls (carrying octets) put old new over c outgoing = grind (arith, append_cancel_left, append-nil old.end.carrier.outgoing)

pub over_acts : (turn : Turn) (old new : Holding) → IsSome old.end.carrier.ended → Takes old turn new →
    IsSome new.end.carrier.ended × (turn.put ≡ [])
over_acts turn old new over takes = grind (arith, over_calls, never_lasts)

-- ---- its carrier

abbrev pub Over : List ℕ → Carrier → Type 0
Over octets c = (is_some c.ended ≡ true) × (c.outgoing ≡ octets)

pub over_carries : (octets : List ℕ) → Carries (Over octets)
over_carries octets = grind arith

pub attends_over : (octets : List ℕ) (e : End) → Over octets e.carrier → Over octets (attends e).carrier
attends_over octets e p =
    subst (Over octets) (sym (concluded_carrier (hears_all e)))
    (events_heard (λ x. Over octets x.carrier) (λ events x q. q) (record {
      begins = λ r x none q. q;
      moves = λ event x q. session_carried (Over octets) (over_carries octets) _ _ x q;
    }) (length e.carrier.events) e p)

-- ---- a shortage of memory

ended_same : (b : Bool) (c : Carrier) → (if b then c else ends NoMemory c).outgoing ≡ c.outgoing
ended_same b c = grind arith

pub starves_same : (events : List Happening) (e : End) → (starves (with_events events e)).carrier.outgoing ≡ e.carrier.outgoing
starves_same events e = ended_same (is_some e.carrier.ended) (with_events events e).carrier

heard_over : (octets : List ℕ) (n : ℕ) (e : End) → Over octets e.carrier → Over octets (hears_times n e).carrier
heard_over octets n e p =
    events_heard (λ x. Over octets x.carrier) (λ events x q. q) (grind (arith, session_carried, over_carries)) n e p

pub out_over : (octets : List ℕ) (e new : End) → Over octets e.carrier → RunsOut e new → new.carrier.outgoing ≡ octets
out_over octets e new p out = grind (arith, starves_same, heard_over)
