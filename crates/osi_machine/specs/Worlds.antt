-- One connection between two ends: what its two users share, and what each end keeps of it. Its
-- channels carry whole messages.
use Rattle.std.specs.Prelude.{ℕ, ◌+◌, Bool, true, false, if◌then◌else◌, List, [], ◌∷◌, ◌++◌, take, length, Option, Some, None, Ok, Err}
use Rattle.osi_session.specs.Shown.{Shown, RefusedByTransport}
use Rattle.osi_machine.specs.Floor.{Phase, WaitTransport, Ended, FunctionalUnits, TokenSetting, TsduMaximumSize, State, Granted, Answer, Call, Restart, Meaning, DT, MIP, MAP, RS, respond_unit, stands, lost, awaiting, without_tokens}
use Rattle.osi_machine.specs.Histories.{Item, points, cutat}
use Rattle.osi_machine.specs.Owners.{Owners, owned, turned_owners, no_owner, left_by}
use Rattle.osi_machine.specs.Taking.{is_acted_on, got_in, cut_by, owners_after}
use Rattle.osi_machine.specs.Core.{Offer, offering, offer_sent, says, speaks, owners_called}

-- the classes of transport connection
pub data Class : Type 0 where
  class_0 : Class
  class_2 : Class

-- a session unit; or a message about the transport connection: it is requested, agreed to, denied or closed, or a close
-- is answered (CR, CC, DR and DC)
pub data Message : Type 0 where
  unit : Meaning → Message
  ask : Message
  agree : Message
  deny : (reason : ℕ) → Message
  bye : (reason : ℕ) → Message
  over : Message

pub data Transport : Type 0 where
  not_yet : Transport
  waiting : Transport
  linked : Transport
  closing : Transport
  gone : Transport

-- what a side keeps for itself: all of its session except its tokens and V(M)
pub record Kept : Type 0 where
  pub phase : Phase
  pub is_caller : Bool
  pub units : FunctionalUnits
  pub wishes : TokenSetting
  pub proposed : ℕ
  pub base : ℕ
  pub confirmed : ℕ
  pub lowest : ℕ
  pub answers : Bool
  pub sizes : TsduMaximumSize

abbrev pub kept_of : State → Kept
kept_of s = record {
  phase = s.phase;
  is_caller = s.is_caller;
  units = s.units;
  wishes = s.wishes;
  proposed = s.proposed;
  base = s.base;
  confirmed = s.numbers.confirmed;
  lowest = s.numbers.lowest;
  answers = s.numbers.answers;
  sizes = s.sizes;
}

-- one side of a connection: how many items of the history it has seen; what it has sent and the other has not taken;
-- and with duplex, what it has sent and how much it has received of what the other sent
pub record End : Type 0 where
  pub transport : Transport
  pub kept : Kept
  pub mark : ℕ
  pub channel : List Message
  pub said : List (List ℕ)
  pub got : ℕ

-- one history, an owner for each token, and two sides, seen from one of them
pub record World : Type 0 where
  pub offer : Offer
  pub history : List Item
  pub owner : Owners
  pub own : End
  pub peer : End

abbrev pub turned : World → World
turned w = record w { owner = turned_owners w.owner; own = w.peer; peer = w.own }

-- the state of a side in the tables of its session: it holds what it owns, and its next number is the base plus the
-- points before its mark
abbrev pub session_of : World → State
session_of w = record {
  phase = w.own.kept.phase;
  is_caller = w.own.kept.is_caller;
  units = w.own.kept.units;
  wishes = w.own.kept.wishes;
  held = owned w.owner;
  proposed = w.own.kept.proposed;
  base = w.own.kept.base;
  numbers = record {
    next = w.own.kept.base + points (take w.own.mark w.history);
    confirmed = w.own.kept.confirmed;
    lowest = w.own.kept.lowest;
    answers = w.own.kept.answers;
  };
  sizes = w.own.kept.sizes;
}

-- a caller requests a transport connection
abbrev pub asked_with : Offer → World
asked_with o = record {
  offer = o;
  history = [];
  owner = no_owner;
  own = record { transport = waiting; kept = kept_of (without_tokens WaitTransport (offering o)); mark = 0; channel = ask ∷ []; said = []; got = 0 };
  peer = record { transport = not_yet; kept = kept_of awaiting; mark = 0; channel = []; said = []; got = 0 };
}

-- after a break nothing more is put into a channel
abbrev pub put : Bool → List Message → List Message → List Message
put broken messages channel = if broken then channel else channel ++ messages

-- ---- a call

-- the mark after a call; a restart cuts what the side has seen
abbrev pub mark_called : State → Call → List Item → ℕ → ℕ
mark_called s (Restart n wishes octets) h mark = length (cutat s.base h n)
mark_called s c h mark = mark + length (says s c)

abbrev pub after_call : Bool → State → Call → Granted → World → World
after_call broken s c g w = record w {
  history = w.history ++ says s c;
  owner = left_by g.next (owners_called g.next c w.owner);
  own = record w.own {
    kept = kept_of g.next;
    mark = mark_called s c w.history w.own.mark;
    channel = put broken (unit g.sent ∷ []) w.own.channel;
    said = w.own.said ++ speaks s c;
  };
}

-- a call that is refused changes nothing
abbrev pub after_answer : Bool → Call → World → Answer → World
after_answer broken c w (Ok g) = after_call broken (session_of w) c g w
after_answer broken c w (Err e) = w

-- ---- a message is taken

-- the effect of a message that a side takes: the connection after it, what the user receives, whether the side closes
-- the transport connection
pub record Taking : Type 0 where
  pub world : World
  pub shown : List Shown
  pub closes : Bool

-- the mark after a unit that is acted on: data and points are the item at the mark
abbrev pub mark_after : State → Meaning → List Item → ℕ → ℕ
mark_after s (DT octets) h mark = if s.units.duplex then mark else mark + 1
mark_after s (MIP confirm n octets) h mark = mark + 1
mark_after s (MAP n octets) h mark = mark + 1
mark_after s (RS kind n wishes octets) h mark = if stands s n then length (cutat s.base h n) else mark
mark_after s u h mark = mark

abbrev pub replied : Option Meaning → List Message
replied None = []
replied (Some m) = unit m ∷ []

abbrev pub after_unit : Bool → State → Meaning → World → World
after_unit broken s u w = record w {
  history = if is_acted_on s u then cut_by s u w.history else w.history;
  owner = left_by (respond_unit s u).next (if is_acted_on s u then owners_after s u w.owner else w.owner);
  own = record w.own {
    kept = kept_of (respond_unit s u).next;
    mark = if is_acted_on s u then mark_after s u w.history w.own.mark else w.own.mark;
    got = if is_acted_on s u then w.own.got + length (got_in s u) else w.own.got;
    channel = put broken (replied (respond_unit s u).reply) w.own.channel;
  };
}

abbrev pub unit_taken : Bool → World → Meaning → Taking
unit_taken broken w u = record {
  world = after_unit broken (session_of w) u w;
  shown = (respond_unit (session_of w) u).shown;
  closes = (respond_unit (session_of w) u).closes;
}

-- a side with a new transport connection and session, and more in its channel
abbrev pub moved : Bool → Transport → State → List Message → World → World
moved broken transport s messages w = record w {
  owner = left_by s w.owner;
  own = record w.own { transport = transport; kept = kept_of s; channel = put broken messages w.own.channel };
}

abbrev pub unchanged : World → Taking
unchanged w = record { world = w; shown = []; closes = false }

abbrev pub moves : World → List Shown → Taking
moves w shown = record { world = w; shown = shown; closes = false }

-- a suffix of a channel, which a close discards
abbrev pub shortened : ℕ → World → World
shortened keep w = record w { own = record w.own { channel = take keep w.own.channel } }

-- a called end accepts in one class, or denies
pub data Terms : Type 0 where
  accepts : Class → Terms
  denies : (reason : ℕ) → Terms

abbrev pub asked_at : Bool → Terms → World → World
asked_at broken (accepts class) w = moved broken linked awaiting (agree ∷ []) w
asked_at broken (denies reason) w = record w { own = record w.own { channel = put broken (deny reason ∷ []) w.own.channel } }

-- by the state of the transport connection at the side that takes the message
abbrev pub message_taken : Bool → Terms → ℕ → Transport → World → Message → Taking
message_taken broken terms keep not_yet w ask = unchanged (asked_at broken terms w)
message_taken broken terms keep waiting w agree = unchanged (moved broken linked (offering w.offer) (unit (offer_sent w.offer) ∷ []) w)
message_taken broken terms keep waiting w (deny reason) =
    moves (moved broken gone (without_tokens Ended (session_of w)) [] w) (RefusedByTransport reason ∷ [])
message_taken broken terms keep linked w (unit u) = unit_taken broken w u
message_taken broken terms keep linked w (bye reason) =
    moves (moved broken gone (lost (session_of w)).next (over ∷ []) (shortened keep w)) (lost (session_of w)).shown
message_taken broken terms keep closing w (bye reason) = unchanged (record w { own = record w.own { transport = gone } })
message_taken broken terms keep closing w over = unchanged (record w { own = record w.own { transport = gone } })
message_taken broken terms keep gone w (bye reason) = unchanged (record w { own = record w.own { channel = put broken (over ∷ []) w.own.channel } })
message_taken broken terms keep transport w m = unchanged w

-- a side closes a transport connection of class 2
abbrev pub closed : Bool → ℕ → World → World
closed broken keep w = moved broken closing (session_of w) (bye 128 ∷ []) (shortened keep w)

-- ---- the end of a side

-- its session is lost, and any suffix of what it had put may be
abbrev pub ended_at : ℕ → World → World
ended_at keep w = moved true gone (lost (session_of w)).next [] (shortened keep w)

abbrev pub shown_at_end : World → List Shown
shown_at_end w = (lost (session_of w)).shown
