-- What sessions leave of the carrier, while they send TSDUs and close connections.
use Rattle.osi_stack.proofs.Vocabulary.{◌≡◌, ℕ, List, Some, None, arith, eqb-true, eq-eqb, Happening, closed_with, sent, is_spoilt}
use Rattle.osi_stack.proofs.Vocabulary.{State as Carrier, Rows, value_at, put, Connection, asked, put_other, put_none, put_here, IsOrderly}
use Rattle.osi_stack.proofs.Vocabulary.{orderly_sent, orderly_closed, sent_gone, closed_gone, Input, hears, hears_times, to_session, End}
use Rattle.osi_stack.proofs.Vocabulary.{told_of, input_of}
use Rattle.osi_stack.proofs.carried.what_each_step_preserves.{Carries, session_carried, event_heard, events_heard}

-- ---- connections that await a CC

-- each that awaits one now did before
abbrev pub AwaitedBefore : Rows Connection → Rows Connection → Type 0
AwaitedBefore old new = (q : ℕ) → value_at q new ≡ Some asked → value_at q old ≡ Some asked

pub awaited_put : (r : ℕ) (c : Connection) (rows : Rows Connection) → (c ≡ asked → ⊥) → AwaitedBefore rows (put r c rows)
awaited_put r c rows other = λ q h. grind (arith, eq-eqb, put_other, put_none, put_here, eqb-true)

-- ---- what is left as it was

pub record Leaves (old new : Carrier) : Type 0 where
  pub spoilt : is_spoilt new.ended ≡ is_spoilt old.ended
  pub lasts : new.ended ≡ None → old.ended ≡ None
  pub side : new.is_caller ≡ old.is_caller
  pub given : new.given ≡ old.given
  -- a connection that is gone, and one that was requested, which stays so while the carrier lasts
  pub gone : (q : ℕ) → value_at q old.live ≡ None → value_at q new.live ≡ None
  pub awaited : AwaitedBefore old.live new.live
  pub stays : new.ended ≡ None → AwaitedBefore new.live old.live

leaves_all : (c : Carrier) → Leaves c c
leaves_all c = grind arith

leaves_then : (a b c : Carrier) → Leaves a b → Leaves b c → Leaves a c
leaves_then a b c first later = grind arith

sent_leaves : (r : ℕ) (tsdu : List ℕ) (c : Carrier) → Leaves c (sent r tsdu c)
sent_leaves r tsdu c = grind (arith, sent_gone, awaited_put, put_other)

closed_leaves : (r : ℕ) (c : Carrier) → Leaves c (closed_with r 128 c)
closed_leaves r c = grind (arith, closed_gone, awaited_put, put_other)

-- and the events that are pending
pub record Keeps (old new : Carrier) : Type 0 where
  pub events : new.events ≡ old.events
  pub leaves : Leaves old new

sessions_keep : (c : Carrier) → Carries (Keeps c)
sessions_keep c = record {
  sends = λ r tsdu d k. record { events = grind arith; leaves = leaves_then c d (sent r tsdu d) k.leaves (sent_leaves r tsdu d) };
  closes = λ r d k. record { events = grind arith; leaves = leaves_then c d (closed_with r 128 d) k.leaves (closed_leaves r d) };
}

keeps_all : (c : Carrier) → Keeps c c
keeps_all c = record { events = grind arith; leaves = leaves_all c }

pub close_keeps : (r : ℕ) (c : Carrier) → Keeps c (closed_with r 128 c)
close_keeps r c = (sessions_keep c).closes r c (keeps_all c)

pub session_keeps : (r : ℕ) (input : Input) (e : End) → Keeps e.carrier (to_session r input e).carrier
session_keeps r input e = session_carried (Keeps e.carrier) (sessions_keep e.carrier) r input e (keeps_all e.carrier)

pub session_orderly : (r : ℕ) (input : Input) (e : End) → IsOrderly e.carrier → IsOrderly (to_session r input e).carrier
session_orderly = session_carried IsOrderly (record { sends = orderly_sent; closes = λ r c. orderly_closed r 128 c })

pub hears_keep : (event : Happening) (e : End) → Keeps e.carrier (hears event e).carrier
hears_keep event e = event_heard (λ x. Keeps e.carrier x.carrier) (record {
  begins = λ r x none k. k;
  moves = λ event x k. session_carried (Keeps e.carrier) (sessions_keep e.carrier) (told_of event) (input_of event) x k;
}) event e (keeps_all e.carrier)

untold : (old c : Carrier) (events : List Happening) → Leaves old c → Leaves old (record c { events = events })
untold old c events l = grind arith

pub times_leave : (n : ℕ) (e : End) → Leaves e.carrier (hears_times n e).carrier
times_leave n e =
    events_heard (λ x. Leaves e.carrier x.carrier) (λ events x l. untold e.carrier x.carrier events l) (record {
      begins = λ r x none l. l;
      moves = λ event x l. leaves_then e.carrier x.carrier _ l (session_keeps (told_of event) (input_of event) x).leaves;
    }) n e (leaves_all e.carrier)
