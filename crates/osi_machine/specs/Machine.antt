-- The machine: any number of connections between two ends, their steps, and the journal of what the
-- users do and see.
use Rattle.std.specs.Prelude.{◌≡◌, ℕ, zero, suc, ◌+◌, Bool, true, false, not, ◌&&◌, ◌||◌, if◌then◌else◌, nat_le, nat_lt, List, [], ◌∷◌, ◌++◌, take, map, length, Option, Some, None, is_some, Ok, Err}
use Rattle.std.specs.List.{AllByRecursion, list_any, slice_get}
use Rattle.osi_session.specs.declared.faults.CallError.TheVariants as error
use Rattle.osi_session.specs.Shown.{Shown}
use Rattle.osi_machine.specs.Floor.{CallError, Answer, Call, HasSerial, allowed, is_profile}
use Rattle.osi_machine.specs.Core.{Offer, CanBeOffered, Side, Left, Right}
use Rattle.osi_machine.specs.Worlds.{Class, class_0, class_2, Message, agree, Transport, not_yet, waiting, gone, World, turned, session_of, asked_with, after_answer, Taking, Terms, accepts, message_taken, closed, ended_at, shown_at_end}

-- why a side ends: it is told of a break, it has closed a connection of class 0, or it runs out of memory
pub data Ending : Type 0 where
  told_of_break : Ending
  closed_here : Ending
  no_memory : Ending

-- why a caller may not request a connection, in the order of the tests
pub data Refusal : Type 0 where
  has_ended : Refusal
  negotiating : Refusal
  one_connection : Refusal
  too_many : Refusal
  references_used_up : Refusal
  not_selected : Refusal
  too_long : Refusal

-- What happens. A delivery to a side takes the first message of the other's channel. If a close, an end or a break
-- loses messages, the step says how many of each channel stay.
pub data Step : Type 0 where
  connects : Offer → Step
  calls : Side → (reference : ℕ) → Call → Step
  delivers : Side → (reference : ℕ) → (keep : ℕ → ℕ) → Step
  breaks : (keep_left keep_right : ℕ → ℕ) → Step
  ends : Side → Ending → (keep : ℕ → ℕ) → Step

-- what the journal has of it
pub data Entry : Type 0 where
  connect_answered : Offer → Option Refusal → Entry
  call_answered : Side → (reference : ℕ) → Call → Option CallError → Entry
  shown_at : Side → (reference : ℕ) → Shown → Entry
  ended : Side → Ending → Entry

pub record Machine : Type 0 where
  pub terms : Terms
  pub broken : Bool
  pub left_end : Option Ending
  pub right_end : Option Ending
  -- the class, once the caller has its first connection
  pub known : Option Class
  -- by rising reference, from 1 on, as the left side sees them
  pub worlds : List World
  pub journal : List Entry

abbrev pub start : Terms → Machine
start terms = record { terms = terms; broken = false; left_end = None; right_end = None; known = None; worlds = []; journal = [] }

-- ---- connections and sides

abbrev pub connection_at : {C : Type 0} → ℕ → List C → Option C
connection_at zero ws = None
connection_at (suc r) ws = slice_get ws r

-- the connection at a place, counted from 0, is replaced
abbrev pub replaced : {C : Type 0} → ℕ → C → List C → List C
replaced r w [] = []
replaced zero w (v ∷ vs) = w ∷ vs
replaced (suc r) w (v ∷ vs) = v ∷ replaced r w vs

abbrev pub with_connection : {C : Type 0} → ℕ → C → List C → List C
with_connection zero w ws = ws
with_connection (suc r) w ws = replaced r w ws

abbrev pub seen_from : Side → World → World
seen_from Left w = w
seen_from Right w = turned w

abbrev pub end_of : Side → Machine → Option Ending
end_of Left m = m.left_end
end_of Right m = m.right_end

abbrev pub stays : Machine → Side → ℕ → World → Machine
stays m side r w = record m { worlds = with_connection r (seen_from side w) m.worlds }

abbrev pub noted : List Entry → Machine → Machine
noted entries m = record m { journal = m.journal ++ entries }

-- ---- a caller requests a connection

abbrev pub is_waiting : Transport → Bool
is_waiting waiting = true
is_waiting _ = false

abbrev pub is_live : Transport → Bool
is_live gone = false
is_live _ = true

abbrev pub is_known : Option Class → Bool
is_known c = is_some c

abbrev pub is_class_0 : Option Class → Bool
is_class_0 (Some class_0) = true
is_class_0 _ = false

abbrev pub live_count : List Transport → ℕ
live_count [] = 0
live_count (t ∷ ts) = if is_live t then live_count ts + 1 else live_count ts

-- a selector has at most 16 octets, and user data at most 10,240
abbrev pub is_long_selector : Option (List ℕ) → Bool
is_long_selector None = false
is_long_selector (Some octets) = nat_lt 16 (length octets)

abbrev pub is_long : Offer → Bool
is_long o = is_long_selector o.calling_selector || (is_long_selector o.called_selector || not (nat_le (length o.octets) 10240))

-- by whether the caller has ended, the class, and the transport connection of each connection that it requested
abbrev pub refusal_by : Bool → Option Class → List Transport → Offer → Option Refusal
refusal_by over_now known asked o =
    if over_now then Some has_ended
    else if not (is_known known) && list_any is_waiting asked then Some negotiating
    else if is_class_0 known then Some one_connection
    else if nat_le 64 (live_count asked) then Some too_many
    else if nat_le 65535 (length asked) then Some references_used_up
    else if not (is_profile o.requirements) then Some not_selected
    else if is_long o then Some too_long
    else None

abbrev pub transport_of : World → Transport
transport_of w = w.own.transport

abbrev pub refusal : Machine → Offer → Option Refusal
refusal m o = refusal_by (is_some m.left_end) m.known (map transport_of m.worlds) o

abbrev pub asked_in : Machine → Offer → Option Refusal → Machine
asked_in m o (Some e) = m
asked_in m o None = record m { worlds = m.worlds ++ (if m.broken then record (asked_with o) { own = record (asked_with o).own { channel = [] } } else asked_with o) ∷ [] }

-- ---- a call

abbrev pub error_of : Answer → Option CallError
error_of (Ok g) = None
error_of (Err e) = Some e

-- a reference that a side has never given
abbrev pub is_given : Transport → Bool
is_given not_yet = false
is_given _ = true

abbrev pub call_in : Machine → Side → ℕ → Call → Option World → Machine
call_in m side r c None = noted (call_answered side r c (Some error.NoSuchConnection) ∷ []) m
call_in m side r c (Some w) =
    if is_given w.own.transport
    then noted (call_answered side r c (error_of (allowed (session_of w) c)) ∷ [])
    (stays m side r (after_answer m.broken c w (allowed (session_of w) c)))
    else noted (call_answered side r c (Some error.NoSuchConnection) ∷ []) m

abbrev pub side_of : Side → Option World → Option World
side_of side None = None
side_of side (Some w) = Some (seen_from side w)

-- ---- the end of a side

-- a connection to which the side never gave a reference stays as it is
abbrev pub ends_there : ℕ → World → World
ends_there keep w = if is_given w.own.transport then ended_at keep w else w

-- each connection of the side, and what its user is told, by rising reference
abbrev pub ended_worlds : Side → (ℕ → ℕ) → ℕ → List World → List World
ended_worlds side keep r [] = []
ended_worlds side keep r (w ∷ ws) = seen_from side (ends_there (keep r) (seen_from side w)) ∷ ended_worlds side keep (r + 1) ws

abbrev pub shown_in_order : Side → ℕ → List World → List Entry
shown_in_order side r [] = []
shown_in_order side r (w ∷ ws) = map (shown_at side r) (shown_at_end (seen_from side w)) ++ shown_in_order side (r + 1) ws

abbrev pub marked_ended : Side → Ending → Machine → Machine
marked_ended Left e m = record m { left_end = Some e }
marked_ended Right e m = record m { right_end = Some e }

abbrev pub after_end : Side → Ending → (ℕ → ℕ) → Machine → Machine
after_end side e keep m = marked_ended side e (noted (shown_in_order side 1 m.worlds ++ ended side e ∷ [])
    (record m { worlds = ended_worlds side keep 1 m.worlds }))

-- ---- a delivery

abbrev pub closes_by : Option Class → Machine → Side → ℕ → (ℕ → ℕ) → Taking → Machine
closes_by (Some class_2) m side r keep t = stays m side r (closed m.broken (keep r) t.world)
closes_by _ m side r keep t = after_end side closed_here keep (stays m side r t.world)

-- the user receives an indication before the end that it may cause
abbrev pub after_taking : Machine → Side → ℕ → (ℕ → ℕ) → Taking → Machine
after_taking m side r keep t = if t.closes
    then closes_by m.known (noted (map (shown_at side r) t.shown) m) side r keep t
    else noted (map (shown_at side r) t.shown) (stays m side r t.world)

abbrev pub without_first : World → List Message → World
without_first w ms = record w { peer = record w.peer { channel = ms } }

-- the class is known once a caller takes the agreement
abbrev pub learns : Terms → Transport → Message → Option Class → Option Class
learns (accepts class) waiting agree known = Some class
learns terms transport m known = known

abbrev pub taken_in : Machine → Side → ℕ → (ℕ → ℕ) → World → List Message → Machine
taken_in m side r keep w [] = m
taken_in m side r keep w (x ∷ xs) = after_taking (record m { known = learns m.terms w.own.transport x m.known }) side r keep
    (message_taken m.broken m.terms (keep r) w.own.transport (without_first w xs) x)

abbrev pub delivered_to : Machine → Side → ℕ → (ℕ → ℕ) → Option World → Machine
delivered_to m side r keep None = m
delivered_to m side r keep (Some w) = taken_in m side r keep w w.peer.channel

-- ---- a break

abbrev pub cut_channels : (ℕ → ℕ) → (ℕ → ℕ) → ℕ → List World → List World
cut_channels left right r [] = []
cut_channels left right r (w ∷ ws) = record w {
  own = record w.own { channel = take (left r) w.own.channel };
  peer = record w.peer { channel = take (right r) w.peer.channel };
} ∷ cut_channels left right (r + 1) ws

-- ---- a step

-- A side that has ended takes nothing and does not end again. It can be told of a break only after there is one, and
-- there is at most one.
abbrev pub is_told : Ending → Bool → Bool
is_told told_of_break broken = broken
is_told closed_here broken = false
is_told no_memory broken = true

abbrev pub step : Machine → Step → Machine
step m (connects o) = noted (connect_answered o (refusal m o) ∷ []) (asked_in m o (refusal m o))
step m (calls side r c) = call_in m side r c (side_of side (connection_at r m.worlds))
step m (delivers side r keep) = if is_some (end_of side m) then m else delivered_to m side r keep (side_of side (connection_at r m.worlds))
step m (breaks left right) = if m.broken then m else record m { broken = true; worlds = cut_channels left right 1 m.worlds }
step m (ends side e keep) = if is_some (end_of side m) || not (is_told e m.broken) then m else after_end side e keep m

abbrev pub run : Machine → List Step → Machine
run m [] = m
run m (s ∷ steps) = run (step m s) steps

-- the number in an offer or a call is one that a point may have, and each size is one that a user may give
abbrev pub HasNumber : Step → Type 0
HasNumber (connects o) = CanBeOffered o
HasNumber (calls side r c) = HasSerial c
HasNumber step = Unit {0}

-- what two users may do and see
pub record IsLegal (terms : Terms) (journal : List Entry) : Type 0 where
  pub steps : List Step
  pub numbered : AllByRecursion HasNumber steps
  pub leads : (run (start terms) steps).journal ≡ journal
