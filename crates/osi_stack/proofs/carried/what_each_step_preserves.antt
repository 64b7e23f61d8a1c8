-- What each step of a session preserves, handling all events of an end preserves.
use Rattle.std.proofs.Common.{arith, ◌≡◌, ℕ, zero, suc, Bool, true, false, List, ◌∷◌, Option, Some, None, refl, []}
use Rattle.osi_carrier.specs.Happenings as told
use Rattle.osi_stack.proofs.Vocabulary.{open_link, sent, send_all_error, closed_with, Happening, told_of, value_at, State as Carrier}
use Rattle.osi_stack.proofs.Vocabulary.{Broken, SendError, Input, react, awaits, breaks, opens, hears, hears_next, hears_times, with_events}
use Rattle.osi_stack.proofs.Vocabulary.{concludes, ends, all_lost, input_of, to_session, Line, End, joins, sent_unless, answers_by}

-- ---- the carrier

-- TSDUs that are handed to it
pub unless_sent : (P : Carrier → Type 0) → ((r : ℕ) (tsdu : List ℕ) (c : Carrier) → P c → P (sent r tsdu c)) →
    (o : Option SendError) (r : ℕ) (tsdus : List (List ℕ)) (c : Carrier) →
    P c → P (sent_unless o r tsdus c)
unless_sent P law (Some e) r tsdus c p = p
unless_sent P law None r [] c p = p
unless_sent P law None r (tsdu ∷ tsdus) c p = unless_sent P law None r tsdus (sent r tsdu c) (law r tsdu c p)

-- a session sends TSDUs, or closes its connection
pub record Carries (P : Carrier → Type 0) : Type 0 where
  pub sends : (r : ℕ) (tsdu : List ℕ) (c : Carrier) → P c → P (sent r tsdu c)
  pub closes : (r : ℕ) (c : Carrier) → P c → P (closed_with r 128 c)

answer_carried : (P : Carrier → Type 0) → Carries P → (closing : Bool) (r : ℕ) (tsdus : List (List ℕ)) (c : Carrier) → P c →
    P (answers_by closing r tsdus c)
answer_carried P law true r tsdus c p = law.closes r c p
answer_carried P law false r tsdus c p = unless_sent P law.sends (send_all_error tsdus (open_link r c)) r tsdus c p

pub session_carried : (P : Carrier → Type 0) → Carries P → (r : ℕ) (input : Input) (e : End) → P e.carrier →
    P (to_session r input e).carrier
session_carried P law r input e p = grind (arith, answer_carried, react)

-- ---- events

-- a connection has a new session, or something happens to a session
pub record Hears (P : End → Type 0) : Type 0 where
  pub begins : (r : ℕ) (e : End) → value_at r e.lines ≡ None → P e → P (joins r awaits e)
  pub moves : (event : Happening) (e : End) → P e → P (to_session (told_of event) (input_of event) e)

opened_heard : (P : End → Type 0) → Hears P → (r : ℕ) (o : Option Line) (e : End) → value_at r e.lines ≡ o → P e → P (opens r o e)
opened_heard P law r None e here p = law.begins r e here p
opened_heard P law r (Some line) e here p = law.moves (told.opened r) e p

pub event_heard : (P : End → Type 0) → Hears P → (event : Happening) (e : End) → P e → P (hears event e)
event_heard P law (told.opened r) e p = opened_heard P law r (value_at r e.lines) e refl p
event_heard P law event e p = law.moves event e p

-- what the carrier has still to report does not matter
abbrev pub Untold : (End → Type 0) → Type 0
Untold P = (events : List Happening) (e : End) → P e → P (with_events events e)

pub events_heard : (P : End → Type 0) → Untold P → Hears P → (n : ℕ) (e : End) → P e → P (hears_times n e)
events_heard P untold law zero e p = p
events_heard P untold law (suc n) e p = events_heard P untold law n (hears_next e) (grind (arith, event_heard))

-- ---- the end

pub concluded_end : (P : End → Type 0) → ((e : End) → P e → P (record e { lines = all_lost e.lines })) → (e : End) → P e → P (concludes e)
concluded_end P lost e p = grind arith

pub broken_end : (P : End → Type 0) → ((e : End) → P e → P (ends Broken e)) → (e : End) → P e → P (breaks e)
broken_end P over e p = grind arith
