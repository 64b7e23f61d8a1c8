-- The course of one connection of an end, of either class and among any number of others: the calls of its link, and what its
-- session took and sent by them.
use Rattle.std.specs.Prelude.{◌≡◌, ◌+◌, ◌<◌, ℕ, Bool, true, false, List, [], ◌∷◌, ◌++◌, map, Option, Some, None, IsSome}
use Rattle.std.specs.List.{AllByRecursion, flat_map}
use Rattle.osi_tpkt.specs.Stream.{ArePackets}
use Rattle.osi_tpdu.specs.Value.{Value}
use Rattle.osi_class.specs.Between.{given_by}
use Rattle.osi_class.specs.Link.{Given, Standing, unit_of}
use Rattle.osi_class.specs.Runs.{Move, MovesAlong, give_out, hand_in, hand_out, take_in, tsdus_in, tsdus_out}
use Rattle.osi_class.specs.declared.terms.Class.{Class}
use Rattle.osi_class.specs.declared.terms.Local.{Local}
use Rattle.osi_carrier.specs.Negotiation.{opened_link}
use Rattle.osi_carrier.specs.Rows.{value_at}
use Rattle.osi_carrier.specs.State.{Connection, State, asked, closing, linked, packets}
use Rattle.osi_session.specs.Listening.{Listener}
use Rattle.osi_session.specs.Phases.{is_wait_transport}
use Rattle.osi_session.specs.Sessions.{awaits}
use Rattle.osi_stack.specs.Calls.{calls_with, has_given, terms_error}
use Rattle.osi_stack.specs.Messages.{kept_at}
use Rattle.osi_stack.specs.State.{End, Holding}
use Rattle.osi_stack.specs.declared.connecting.Connect.{Connect}
use Rattle.osi_blameless.specs.Packets.{units_in}
use Rattle.osi_blameless.specs.ends.Arriving.{Lives}
use Rattle.osi_blameless.specs.ends.Doing.{Makes}
use Rattle.osi_blameless.specs.ends.Marked.{AreByLinks, Marked, all_units, units_at}
use Rattle.osi_blameless.specs.ends.Talking.{History, Said}
use Rattle.osi_blameless.specs.ends.Turns.{Takes, Turn}
use Rattle.osi_blameless.specs.ends.Writable.{CanBeWritten}

-- ---- the calls of a link

-- the TSDUs that were handed in, each with how many TSDUs had been handed out by then
abbrev pub said_in : (taken : ℕ) → List Move → List Said
said_in taken [] = []
said_in taken (hand_in tsdu ∷ moves) = record { octets = tsdu; taken = taken } ∷ said_in taken moves
said_in taken (hand_out tsdu ∷ moves) = said_in (taken + 1) moves
said_in taken (give_out unit ∷ moves) = said_in taken moves
said_in taken (take_in unit ∷ moves) = said_in taken moves

-- the units that were given
abbrev pub units_given : List Move → List Given
units_given moves = flat_map given_by moves

-- and those that were taken
abbrev pub taken_in : Move → List Value
taken_in (take_in unit) = unit ∷ []
taken_in move = []

abbrev pub units_taken : List Move → List Value
units_taken moves = flat_map taken_in moves

-- What was done at a connection: the calls of its link, and the units that were put for it.
pub record Deeds : Type 0 where
  pub calls : List Move
  pub put : List Value

abbrev pub no_deeds : Deeds
no_deeds = record { calls = []; put = [] }

-- and then more
abbrev pub then_did : Deeds → Deeds → Deeds
then_did some more = record { calls = some.calls ++ more.calls; put = some.put ++ more.put }

-- ---- the session

-- At a called end a session begins by awaiting a CN, at a calling end with the CN of a request.
abbrev pub IsNew : (is_caller : Bool) → Listener → Type 0
IsNew false l = l ≡ awaits
IsNew true l = (c : Connect) × (terms_error c ≡ None) × (l ≡ calls_with c)

-- A session took the TSDUs that its link handed out, and sent those that were handed in: each when it had taken so many.
pub record Speaks (is_caller : Bool) (moves : List Move) (closed : Bool) (session : Listener) : Type 0 where
  pub begin : Listener
  pub new : IsNew is_caller begin
  pub history : History begin (tsdus_out moves) (said_in 0 moves) closed session

-- ---- the connection

-- a link as it is when its connection is opened: nothing was sent or taken, and numbers begin at 0
pub record IsFreshLink (link : Standing) : Type 0 where
  pub class : Class
  pub size : Option ℕ
  pub local : Local
  pub credit : ℕ
  pub is : link ≡ opened_link class size local credit

-- These calls were made of a fresh link, and all TSDUs that became whole were handed out. All units that the link gave were
-- put, with the reference that the peer gave the connection.
pub record AreCalls (peer : ℕ) (deeds : Deeds) : Type 0 where
  pub first : Standing
  pub link : Standing
  pub fresh : IsFreshLink first
  pub along : MovesAlong first deeds.calls link
  pub handed : link.ends.joining.whole ≡ []
  pub put : deeds.put ≡ map (unit_of peer) (units_given deeds.calls)

-- The connection is open: its link is what these calls made of it, and its session spoke by them.
pub record IsOpen (is_caller : Bool) (r : ℕ) (deeds : Deeds) (e : End) : Type 0 where
  pub peer : ℕ
  pub calls : AreCalls peer deeds
  pub session : Listener
  pub lasts : e.carrier.ended ≡ None
  pub here : value_at r e.carrier.live ≡ Some (linked peer calls.link)
  pub kept : kept_at r e.lines ≡ Some session
  pub speaks : Speaks is_caller deeds.calls false session
  pub begun : is_wait_transport session.state.phase ≡ false

-- not open, and not waiting for its CC
abbrev pub IsShut : Option Connection → Type 0
IsShut None = Unit {0}
IsShut (Some asked) = ⊥
IsShut (Some (linked peer link)) = ⊥
IsShut (Some (closing peer)) = Unit {0}

-- It was closed or refused, and never opens again; or the end is over. Then the last TSDUs that the link handed out may not
-- have been taken; but whatever was handed in was sent.
pub data Gone (is_caller : Bool) (r : ℕ) (deeds : Deeds) (e : End) : Type 0 where
  closed : (peer : ℕ) → AreCalls peer deeds → (closed : Bool) (session : Listener) →
      Speaks is_caller deeds.calls closed session → has_given r e.carrier ≡ true →
      IsShut (value_at r e.carrier.live) → Gone is_caller r deeds e
  over : (peer : ℕ) → AreCalls peer deeds → (heard unheard : List Move) (closed : Bool) (session : Listener) →
      Speaks is_caller heard closed session →
      deeds.calls ≡ heard ++ unheard → tsdus_in unheard ≡ [] → IsSome e.carrier.ended → Gone is_caller r deeds e
  never : deeds ≡ no_deeds → IsSome e.carrier.ended → Gone is_caller r deeds e

-- The reference was not given yet; or the connection was requested and its CC is awaited; or it is open; or it is gone.
pub data Course (is_caller : Bool) (r : ℕ) (deeds : Deeds) (e : End) : Type 0 where
  unknown : deeds ≡ no_deeds → e.carrier.is_caller ≡ is_caller → has_given r e.carrier ≡ false → value_at r e.carrier.live ≡ None →
      value_at r e.lines ≡ None → Course is_caller r deeds e
  awaited : deeds ≡ no_deeds → (c : Connect) → terms_error c ≡ None → is_caller ≡ true → e.carrier.ended ≡ None →
      has_given r e.carrier ≡ true → value_at r e.carrier.live ≡ Some asked → kept_at r e.lines ≡ Some (calls_with c) →
      Course is_caller r deeds e
  is_open : has_given r e.carrier ≡ true → IsOpen is_caller r deeds e → Course is_caller r deeds e
  is_gone : Gone is_caller r deeds e → Course is_caller r deeds e

-- ---- a turn

-- More is done at each connection of an end.
pub record Continues (is_caller : Bool) (deeds : ℕ → Deeds) (old : Holding) (turn : Turn) (new : Holding) : Type 0 where
  pub more : ℕ → Deeds
  pub course : (r : ℕ) → Course is_caller r (then_did (deeds r) (more r)) new.end
  -- All that was put is these units, each of which can be written: those of a connection are all that was put for it, and those of
  -- none are no DTs and no AKs.
  pub put : List Marked
  pub written : turn.put ≡ packets (all_units put)
  pub can : AllByRecursion CanBeWritten (all_units put)
  pub by_links : AreByLinks put
  pub own : (r : ℕ) → 0 < r → (more r).put ≡ units_at r put
  -- What was used is these packets and a rest, which is held unless the end is over. Those of their units that are of a connection
  -- are all that its link took.
  pub used : List (List ℕ)
  pub rest : List ℕ
  pub cut : ArePackets used (old.held.octets ++ turn.used) rest
  pub held : new.end.carrier.ended ≡ None → rest ≡ new.held.octets
  pub took : List Marked
  pub all : all_units took ≡ units_in used
  pub taken : (r : ℕ) → 0 < r → units_taken (more r).calls ≡ units_at r took
  -- While it is open, its link takes all that is for it.
  pub lives : (r : ℕ) → 0 < r → Lives is_caller r old.end.carrier took put new.end.carrier
  -- By what was done at the carrier it took and put these units. Then octets may have been handed over.
  pub there : State
  pub makes : Makes old.end.carrier (units_in used) (all_units put) there
  pub same : new.end.carrier ≡ record there { outgoing = new.end.carrier.outgoing }

-- and then more, at each connection
abbrev pub all_did : (ℕ → Deeds) → (ℕ → Deeds) → ℕ → Deeds
all_did some more r = then_did (some r) (more r)

-- All that was done since this carrier, when these units were used and put: those of a connection are all that was put for it and
-- that its link took.
pub record SoFar (is_caller : Bool) (first : State) (deeds : ℕ → Deeds) (took put : List Marked) (new : Holding) : Type 0 where
  pub own : (r : ℕ) → 0 < r → (deeds r).put ≡ units_at r put
  pub taken : (r : ℕ) → 0 < r → units_taken (deeds r).calls ≡ units_at r took
  pub lives : (r : ℕ) → 0 < r → Lives is_caller r first took put new.end.carrier

-- turns one after the other, and all that was done since this carrier
abbrev pub ContinuesAlong : Bool → State → (ℕ → Deeds) → (took put : List Marked) → Holding → List Turn → Holding → Type 0
ContinuesAlong is_caller first deeds took put old [] new = new ≡ old
ContinuesAlong is_caller first deeds took put old (turn ∷ turns) new = (mid : Holding) × Takes old turn mid
    × (on : Continues is_caller deeds old turn mid)
    × SoFar is_caller first (all_did deeds on.more) (took ++ on.took) (put ++ on.put) mid
    × ContinuesAlong is_caller first (all_did deeds on.more) (took ++ on.took) (put ++ on.put) mid turns new
