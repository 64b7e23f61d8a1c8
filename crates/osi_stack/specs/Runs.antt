-- Runs of feeding, fetching and taking between two calls of an end's user, and what they did with the octets that the
-- end was fed.
use Rattle.std.specs.Prelude.{◌≡◌, ℕ, ◌+◌, ◌-◌, ◌<◌, ◌^◌, ◌==◌, false, List, [], ◌∷◌, ◌++◌, length, take, map, Option, is_some, option_to_list, ◌⊎◌}
use Rattle.std.specs.List.{flat_map, filter}
use Rattle.osi_tpkt.specs.Packet.{IsPartial}
use Rattle.osi_tpkt.specs.Stream.{ArePackets, offset_of}
use Rattle.osi_tpkt.specs.declared.cutting.Fed.{Fed}
use Rattle.osi_carrier.specs.Rows.{Rows, value_at}
use Rattle.osi_carrier.specs.State.{Connection}
use Rattle.osi_session.specs.Calls.{Call as SessionCall}
use Rattle.osi_session.specs.Shown.{Shown}
use Rattle.osi_stack.specs.Calls.{connect_error, call_error, first_shown, without_first, phase_at}
use Rattle.osi_stack.specs.Disconnecting.{disconnect_error}
use Rattle.osi_stack.specs.Feeding.{stops, RunsDry, StopsBehind, Refuses, Feeds}
use Rattle.osi_stack.specs.Hearing.{after_packet}
use Rattle.osi_stack.specs.Messages.{all_waiting}
use Rattle.osi_stack.specs.State.{Line, End, Holding, session_at, kept_octets}
use Rattle.osi_stack.specs.declared.connecting.Connect.{Connect}

-- ---- the account of an end

-- the same lines without pending indications
abbrev pub quieted : Rows Line → Rows Line
quieted lines = map (λ row. (row.0, record row.1 { waiting = [] })) lines

-- all pending indications were fetched
abbrev pub hushed : End → End
hushed e = record e { lines = quieted e.lines }

-- octets that were sent, put back in front of those still to be sent
abbrev pub put_back : List ℕ → End → End
put_back carried e = record e { carrier = record e.carrier { outgoing = carried ++ e.carrier.outgoing } }

-- The account of an end, which does not depend on when its user takes indications and octets: the end without pending
-- indications and with nothing sent, and all indications, given and pending, the oldest first.
pub record Account : Type 0 where
  pub end : End
  pub told : List (ℕ × Shown)

-- the account of an end of which these indications were given and these octets sent
abbrev pub account_of : List (ℕ × Shown) → List ℕ → End → Account
account_of told carried e = record { end = put_back carried (hushed e); told = told ++ all_waiting e.lines }

-- a packet takes effect, and its indications are given
abbrev pub with_packet : Account → List ℕ → Account
with_packet a packet = account_of a.told [] (after_packet a.end packet)

abbrev pub with_packets : List (List ℕ) → Account → Account
with_packets [] a = a
with_packets (packet ∷ packets) a = with_packets packets (with_packet a packet)

-- ---- calls

-- a call, with its argument and its result
pub data Call : Type 0 where
  feeding : List ℕ → Fed → Call
  -- the oldest indication of the lowest reference was given, with this reference
  telling : Option (ℕ × Shown) → Call
  -- these octets were sent to the peer
  carrying : List ℕ → Call

abbrev pub Calls : Holding → Call → Holding → Type 0
Calls old (feeding piece fed) new = Feeds old piece fed new
Calls old (telling shown) new = (shown ≡ first_shown old.end.lines) × (new ≡ record old { end = record old.end { lines = without_first old.end.lines } })
Calls old (carrying octets) new = old ≡ record new { end = put_back octets new.end }

-- feeding did not run out of memory
abbrev pub HasRoom : Holding → Call → Holding → Type 0
HasRoom old (feeding piece fed) new = stops old.end ≡ false → (RunsDry old piece fed.used new ⊎ StopsBehind old piece fed.used new) ⊎ Refuses old piece fed.used new
HasRoom old (telling shown) new = Unit {0}
HasRoom old (carrying octets) new = Unit {0}

-- calls one after the other
abbrev pub CallsAlong : Holding → List Call → Holding → Type 0
CallsAlong old [] new = new ≡ old
CallsAlong old (call ∷ calls) new = (mid : Holding) × Calls old call mid × CallsAlong mid calls new

-- the same, and none of them ran out of memory
abbrev pub CallsInRoom : Holding → List Call → Holding → Type 0
CallsInRoom old [] new = new ≡ old
CallsInRoom old (call ∷ calls) new = (mid : Holding) × Calls old call mid × HasRoom old call mid × CallsInRoom mid calls new

-- the octets of a piece that were used
abbrev pub used_in : Call → List ℕ
used_in (feeding piece fed) = take fed.used piece
used_in (telling shown) = []
used_in (carrying octets) = []

abbrev pub told_in : Call → List (ℕ × Shown)
told_in (feeding piece fed) = []
told_in (telling shown) = option_to_list shown
told_in (carrying octets) = []

abbrev pub carried_in : Call → List ℕ
carried_in (feeding piece fed) = []
carried_in (telling shown) = []
carried_in (carrying octets) = octets

-- ---- what calls did

-- the account of an end after these calls
abbrev pub account_along : List Call → End → Account
account_along calls e = account_of (flat_map told_in calls) (flat_map carried_in calls) e

-- The packets of the octets held and of those used took effect, each whole and in order, each once no indication was
-- pending, and nothing else did; the octets after the last packet are held.
pub record Reads (old : Holding) (calls : List Call) (new : Holding) : Type 0 where
  pub packets : List (List ℕ)
  pub cut : ArePackets packets (old.held.octets ++ flat_map used_in calls) new.held.octets
  pub account : account_along calls new.end ≡ with_packets packets (account_of [] [] old.end)
  pub partial : IsPartial old.held.octets → IsPartial new.held.octets
  pub offset : old.held.offset < 2 ^ 64 → new.held.offset ≡ offset_of (old.held.offset + (length (old.held.octets ++ flat_map used_in calls) - length new.held.octets))

-- Two ends with the same account: the same is held of the unfinished packet; with what was sent put back and nothing
-- pending, they are the same end; and all indications are the same, in the same order.
pub record AreAlike (a : Holding) (xs : List Call) (b : Holding) (ys : List Call) : Type 0 where
  pub octets : a.held.octets ≡ b.held.octets
  pub end : put_back (flat_map carried_in xs) (hushed a.end) ≡ put_back (flat_map carried_in ys) (hushed b.end)
  pub told : flat_map told_in xs ++ all_waiting a.end.lines ≡ flat_map told_in ys ++ all_waiting b.end.lines

-- the lines of live connections
abbrev pub live_lines : Rows Connection → Rows Line → Rows Line
live_lines live lines = filter (λ row. is_some (value_at row.0 live)) lines

-- an end without the lines of connections that are gone
abbrev pub pruned : End → End
pruned e = record e { lines = live_lines e.carrier.live e.lines }

-- The same, except for lines of connections that are gone: one of two ends may have dropped some that the other keeps.
pub record AreAlikeInLive (a : Holding) (xs : List Call) (b : Holding) (ys : List Call) : Type 0 where
  pub octets : a.held.octets ≡ b.held.octets
  pub end : put_back (flat_map carried_in xs) (hushed (pruned a.end)) ≡ put_back (flat_map carried_in ys) (hushed (pruned b.end))
  pub told : flat_map told_in xs ++ all_waiting a.end.lines ≡ flat_map told_in ys ++ all_waiting b.end.lines

-- the indications of one reference
abbrev pub told_of : ℕ → List (ℕ × Shown) → List (ℕ × Shown)
told_of r told = filter (λ first. first.0 == r) told

-- The same, except for the order of indications of several references; for each reference by itself it is the same.
pub record AreAlikeByReference (a : Holding) (xs : List Call) (b : Holding) (ys : List Call) : Type 0 where
  pub octets : a.held.octets ≡ b.held.octets
  pub end : put_back (flat_map carried_in xs) (hushed a.end) ≡ put_back (flat_map carried_in ys) (hushed b.end)
  pub told : (r : ℕ) → told_of r (flat_map told_in xs ++ all_waiting a.end.lines) ≡ told_of r (flat_map told_in ys ++ all_waiting b.end.lines)

-- What can be seen of two such ends: at each reference the same phase, the same session with its tokens and serial
-- numbers, and the same indications; the same octets for the peer, the same reason of the end, and as many octets kept;
-- and each call of the user gets the same answer.
pub record LookAlike (a : Holding) (xs : List Call) (b : Holding) (ys : List Call) : Type 0 where
  pub phases : (r : ℕ) → phase_at r a.end ≡ phase_at r b.end
  pub sessions : (r : ℕ) → session_at r a.end ≡ session_at r b.end
  pub indications : (r : ℕ) → told_of r (flat_map told_in xs ++ all_waiting a.end.lines) ≡ told_of r (flat_map told_in ys ++ all_waiting b.end.lines)
  pub octets : flat_map carried_in xs ++ a.end.carrier.outgoing ≡ flat_map carried_in ys ++ b.end.carrier.outgoing
  pub ended : a.end.carrier.ended ≡ b.end.carrier.ended
  pub kept : kept_octets a ≡ kept_octets b
  pub requests : (c : Connect) → connect_error c a.end ≡ connect_error c b.end
  pub answers : (r : ℕ) (call : SessionCall) → call_error r call a.end ≡ call_error r call b.end
  pub disconnects : (r : ℕ) → disconnect_error r a.end ≡ disconnect_error r b.end
