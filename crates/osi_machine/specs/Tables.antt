-- The machine in which each side of a connection keeps the state of its session, as the tables of sessions have it. The
-- two share only what is in flight: no history, no owner, no mark. Whatever happens to a side is an input of its
-- session, and what the session sends is added to the end of its channel.
use Rattle.std.specs.Prelude.{ℕ, ◌+◌, Bool, true, false, not, ◌||◌, if◌then◌else◌, List, [], ◌∷◌, ◌++◌, take, map, Option, Some, None, is_some}
use Rattle.osi_session.specs.declared.faults.CallError.TheVariants as error
use Rattle.osi_session.specs.Moves.{Input, called, taken, opened, refused, broken as broken_off, Standing, Move, react}
use Rattle.osi_session.specs.Shown.{Shown}
use Rattle.osi_message.specs.Sendable.{said_of}
use Rattle.osi_machine.specs.Floor.{WaitTransport, Call, without_tokens, awaiting}
use Rattle.osi_machine.specs.Core.{Offer, Side, Left, Right, offering, offer_sent}
use Rattle.osi_machine.specs.Worlds.{Class, class_2, Message, unit, ask, agree, deny, bye, over, Transport, not_yet, waiting, linked, closing, gone, put, replied, Terms, accepts, denies}
use Rattle.osi_machine.specs.Machine.{Ending, closed_here, Refusal, Step, connects, calls, delivers, breaks, ends, Entry, connect_answered, call_answered, shown_at, ended, connection_at, with_connection, is_given, refusal_by, learns, is_told}

-- one side: its transport connection, its session, and what it has sent and the other has not taken
pub record Seat : Type 0 where
  pub transport : Transport
  pub session : Standing
  pub channel : List Message

-- a connection, seen from one of its sides
pub record Line : Type 0 where
  pub own : Seat
  pub peer : Seat

abbrev pub turned : Line → Line
turned l = record { own = l.peer; peer = l.own }

-- the session of a caller, which sends its CN once the transport connection is open
abbrev pub calling : Offer → Standing
calling o = record { state = without_tokens WaitTransport (offering o); waiting = Some (offer_sent o) }

-- the session of a called end, which awaits a CN
abbrev pub awaits : Standing
awaits = record { state = awaiting; waiting = None }

-- a caller requests a transport connection
abbrev pub asked_with : Bool → Offer → Line
asked_with broken o = record {
  own = record { transport = waiting; session = calling o; channel = put broken (ask ∷ []) [] };
  peer = record { transport = not_yet; session = awaits; channel = [] };
}

-- ---- what a side does

abbrev pub in_transport : Transport → Line → Line
in_transport transport l = record l { own = record l.own { transport = transport } }

abbrev pub puts : Bool → List Message → Line → Line
puts broken messages l = record l { own = record l.own { channel = put broken messages l.own.channel } }

-- a suffix of a channel, which a close discards
abbrev pub shortened : ℕ → Line → Line
shortened keep l = record l { own = record l.own { channel = take keep l.own.channel } }

-- the session makes a move, and what it sends is put into its channel
abbrev pub made : Bool → Move → Line → Line
made broken move l = puts broken (replied move.reply) (record l { own = record l.own { session = move.next } })

-- the effect of something that happens to a side, or that it takes: the connection after it, what the user receives,
-- whether the side closes the transport connection
pub record Turn : Type 0 where
  pub line : Line
  pub shown : List Shown
  pub closes : Bool

abbrev pub unseen : Line → Turn
unseen l = record { line = l; shown = []; closes = false }

-- something happens to the session, whose transport connection is then in this state
abbrev pub hears : Bool → Transport → Input → Line → Turn
hears broken transport input l = record {
  line = in_transport transport (made broken (react l.own.session input) l);
  shown = (react l.own.session input).shown;
  closes = (react l.own.session input).closes;
}

-- a call; a call that is refused changes nothing
abbrev pub after_call : Bool → Call → Line → Line
after_call broken c l = made broken (react l.own.session (called c)) l

-- ---- a message is taken, by what the transport connection is at the side that takes it

abbrev pub asked_at : Bool → Terms → Line → Line
asked_at broken (accepts class) l = puts broken (agree ∷ []) (in_transport linked l)
asked_at broken (denies reason) l = puts broken (deny reason ∷ []) l

abbrev pub message_taken : Bool → Terms → ℕ → Transport → Line → Message → Turn
message_taken broken terms keep not_yet l ask = unseen (asked_at broken terms l)
message_taken broken terms keep waiting l agree = hears broken linked opened l
message_taken broken terms keep waiting l (deny reason) = hears broken gone (refused reason) l
message_taken broken terms keep linked l (unit u) = hears broken linked (taken (said_of u)) l
message_taken broken terms keep linked l (bye reason) = record {
  line = puts broken (over ∷ []) (hears broken gone broken_off (shortened keep l)).line;
  shown = (react l.own.session broken_off).shown;
  closes = false;
}
message_taken broken terms keep closing l (bye reason) = unseen (in_transport gone l)
message_taken broken terms keep closing l over = unseen (in_transport gone l)
message_taken broken terms keep gone l (bye reason) = unseen (puts broken (over ∷ []) l)
message_taken broken terms keep transport l m = unseen l

-- a side closes a transport connection of class 2
abbrev pub closed : Bool → ℕ → Line → Line
closed broken keep l = puts broken (bye 128 ∷ []) (in_transport closing (shortened keep l))

-- the end of a side: any suffix of what it had put may be lost
abbrev pub ended_at : ℕ → Line → Turn
ended_at keep l = hears true gone broken_off (shortened keep l)

-- ---- any number of connections

pub record Tables : Type 0 where
  pub terms : Terms
  pub broken : Bool
  pub left_end : Option Ending
  pub right_end : Option Ending
  pub known : Option Class
  -- by rising reference, from 1 on, as the left side sees them
  pub lines : List Line
  pub journal : List Entry

abbrev pub start : Terms → Tables
start terms = record { terms = terms; broken = false; left_end = None; right_end = None; known = None; lines = []; journal = [] }

abbrev pub seen_from : Side → Line → Line
seen_from Left l = l
seen_from Right l = turned l

abbrev pub side_of : Side → Option Line → Option Line
side_of side None = None
side_of side (Some l) = Some (seen_from side l)

abbrev pub end_of : Side → Tables → Option Ending
end_of Left t = t.left_end
end_of Right t = t.right_end

abbrev pub stays : Tables → Side → ℕ → Line → Tables
stays t side r l = record t { lines = with_connection r (seen_from side l) t.lines }

abbrev pub noted : List Entry → Tables → Tables
noted entries t = record t { journal = t.journal ++ entries }

-- ---- a caller requests a connection

abbrev pub transport_of : Line → Transport
transport_of l = l.own.transport

abbrev pub refusal : Tables → Offer → Option Refusal
refusal t o = refusal_by (is_some t.left_end) t.known (map transport_of t.lines) o

abbrev pub asked_in : Tables → Offer → Option Refusal → Tables
asked_in t o (Some e) = t
asked_in t o None = record t { lines = t.lines ++ asked_with t.broken o ∷ [] }

-- ---- a call

abbrev pub call_in : Tables → Side → ℕ → Call → Option Line → Tables
call_in t side r c None = noted (call_answered side r c (Some error.NoSuchConnection) ∷ []) t
call_in t side r c (Some l) =
    if is_given l.own.transport
    then noted (call_answered side r c (react l.own.session (called c)).error ∷ []) (stays t side r (after_call t.broken c l))
    else noted (call_answered side r c (Some error.NoSuchConnection) ∷ []) t

-- ---- the end of a side

-- a connection to which the side never gave a reference stays as it is
abbrev pub ends_there : ℕ → Line → Line
ends_there keep l = if is_given l.own.transport then (ended_at keep l).line else l

abbrev pub ended_lines : Side → (ℕ → ℕ) → ℕ → List Line → List Line
ended_lines side keep r [] = []
ended_lines side keep r (l ∷ ls) = seen_from side (ends_there (keep r) (seen_from side l)) ∷ ended_lines side keep (r + 1) ls

abbrev pub shown_in_order : Side → ℕ → List Line → List Entry
shown_in_order side r [] = []
shown_in_order side r (l ∷ ls) = map (shown_at side r) (react (seen_from side l).own.session broken_off).shown ++ shown_in_order side (r + 1) ls

abbrev pub marked_ended : Side → Ending → Tables → Tables
marked_ended Left e t = record t { left_end = Some e }
marked_ended Right e t = record t { right_end = Some e }

abbrev pub after_end : Side → Ending → (ℕ → ℕ) → Tables → Tables
after_end side e keep t = marked_ended side e (noted (shown_in_order side 1 t.lines ++ ended side e ∷ [])
    (record t { lines = ended_lines side keep 1 t.lines }))

-- ---- a delivery

abbrev pub closes_by : Option Class → Tables → Side → ℕ → (ℕ → ℕ) → Line → Tables
closes_by (Some class_2) t side r keep l = stays t side r (closed t.broken (keep r) l)
closes_by _ t side r keep l = after_end side closed_here keep (stays t side r l)

-- the user receives an indication before the end that it may cause
abbrev pub after_turn : Tables → Side → ℕ → (ℕ → ℕ) → Turn → Tables
after_turn t side r keep turn = if turn.closes
    then closes_by t.known (noted (map (shown_at side r) turn.shown) t) side r keep turn.line
    else noted (map (shown_at side r) turn.shown) (stays t side r turn.line)

abbrev pub without_first : Line → List Message → Line
without_first l ms = record l { peer = record l.peer { channel = ms } }

abbrev pub taken_in : Tables → Side → ℕ → (ℕ → ℕ) → Line → List Message → Tables
taken_in t side r keep l [] = t
taken_in t side r keep l (x ∷ xs) = after_turn (record t { known = learns t.terms l.own.transport x t.known }) side r keep
    (message_taken t.broken t.terms (keep r) l.own.transport (without_first l xs) x)

abbrev pub delivered_to : Tables → Side → ℕ → (ℕ → ℕ) → Option Line → Tables
delivered_to t side r keep None = t
delivered_to t side r keep (Some l) = taken_in t side r keep l l.peer.channel

-- ---- a break

abbrev pub cut_channels : (ℕ → ℕ) → (ℕ → ℕ) → ℕ → List Line → List Line
cut_channels left right r [] = []
cut_channels left right r (l ∷ ls) = record {
  own = record l.own { channel = take (left r) l.own.channel };
  peer = record l.peer { channel = take (right r) l.peer.channel };
} ∷ cut_channels left right (r + 1) ls

-- ---- a step

abbrev pub step : Tables → Step → Tables
step t (connects o) = noted (connect_answered o (refusal t o) ∷ []) (asked_in t o (refusal t o))
step t (calls side r c) = call_in t side r c (side_of side (connection_at r t.lines))
step t (delivers side r keep) = if is_some (end_of side t) then t else delivered_to t side r keep (side_of side (connection_at r t.lines))
step t (breaks left right) = if t.broken then t else record t { broken = true; lines = cut_channels left right 1 t.lines }
step t (ends side e keep) = if is_some (end_of side t) || not (is_told e t.broken) then t else after_end side e keep t

abbrev pub run : Tables → List Step → Tables
run t [] = t
run t (s ∷ steps) = run (step t s) steps
