-- Everything that can happen to two carriers, one after the other.
use Rattle.std.specs.Prelude.{◌≡◌, ℕ, ◌<◌, ◌≤◌, Bool, true, false, List, [], ◌∷◌, ◌++◌, length, Option, Some, None}
use Rattle.osi_unit.specs.Octets.{IsOctets}
use Rattle.osi_tpkt.specs.Packet.{IsPacket}
use Rattle.osi_class.specs.Between.{IsShortTsdu}
use Rattle.osi_class.specs.Link.{Standing}
use Rattle.osi_carrier.specs.Calls.{may_connect, asks, sent, closed_with}
use Rattle.osi_carrier.specs.Happenings.{Happening}
use Rattle.osi_carrier.specs.Packets.{after_packet}
use Rattle.osi_carrier.specs.Rows.{value_at}
use Rattle.osi_carrier.specs.State.{linked, State}
use Rattle.osi_carrier.specs.declared.ends.EndReason.{EndReason}
use Rattle.osi_carrier.specs.declared.ends.EndReason.TheVariants.{Closed}
use Rattle.osi_between.specs.Between.{Both, side, arriving, Between, AreBetween, becomes, handed_over, still_to_tell, ended_at, broken_at}
use Rattle.osi_between.specs.Course.{IsTsap}
use Rattle.osi_between.specs.Terms.{Terms, by_two, by_zero, refusing}

-- What can happen. An end is `true` for the caller.
pub data Move : Type 0 where
  -- k octets from this end are handed over to the other
  carries : Bool → ℕ → Move
  -- the first packet that it holds is taken: its transport unit, its octets, and those after it
  takes : Bool → List ℕ → List ℕ → List ℕ → Move
  -- its user requests a connection
  connects : Option (List ℕ) → Option (List ℕ) → Move
  -- its user hands in a TSDU
  hands_in : Bool → ℕ → List ℕ → Move
  -- its user closes a connection
  closes : Bool → ℕ → ℕ → Move
  -- its user is told of events, after which these are still to be reported
  tells : Bool → List Happening → Move
  -- it ends
  ends : Bool → EndReason → Move
  -- the byte connection breaks: this many octets of each end will still arrive
  breaks : ℕ → ℕ → Move

-- the connection is open there
pub record IsOpenAt (n : ℕ) (s : State) : Type 0 where
  pub lasts : s.ended ≡ None
  pub peer : ℕ
  pub link : Standing
  pub is : value_at n s.live ≡ Some (linked peer link)

pub record MayTake (s : State) (held packet octets behind : List ℕ) : Type 0 where
  pub lasts : s.ended ≡ None
  pub is : IsPacket packet octets
  pub cut : held ≡ octets ++ behind

abbrev pub May : Move → Both → Type 0
May (carries end k) both = k ≤ length (arriving end both)
May (takes end packet octets behind) both = MayTake (side end both).state (side end both).held packet octets behind
May (connects calling called) both = (both.caller.state.ended ≡ None) × (may_connect both.caller.state ≡ None) × IsTsap calling × IsTsap called
May (hands_in end n tsdu) both = IsOpenAt n (side end both).state × IsShortTsdu tsdu × IsOctets tsdu
May (closes end n reason) both = IsOpenAt n (side end both).state × (reason < 256)
May (tells end events) both = Unit {0}
May (ends end reason) both = (side end both).state.ended ≡ None
May (breaks k l) both = (both.reach ≡ None) × (k ≤ length both.caller.state.outgoing) × (l ≤ length both.called.state.outgoing)

abbrev pub moved : Move → Both → Both
moved (carries end k) both = handed_over end k both
moved (takes end packet octets behind) both = becomes end (after_packet (side end both).state packet) behind both
moved (connects calling called) both = becomes true (asks calling called both.caller.state) both.caller.held both
moved (hands_in end n tsdu) both = becomes end (sent n tsdu (side end both).state) (side end both).held both
moved (closes end n reason) both = becomes end (closed_with n reason (side end both).state) (side end both).held both
moved (tells end events) both = still_to_tell end events both
moved (ends end reason) both = ended_at end reason both
moved (breaks k l) both = broken_at k l both

abbrev pub MayAll : List Move → Both → Type 0
MayAll [] both = Unit {0}
MayAll (m ∷ ms) both = May m both × MayAll ms (moved m both)

abbrev pub moved_by : List Move → Both → Both
moved_by [] both = both
moved_by (m ∷ ms) both = moved_by ms (moved m both)

-- why an end has ended, after a move: its user ended it, or closed the connection of class 0
abbrev pub closed_in : Terms → Option EndReason → Option EndReason
closed_in by_two ended = ended
closed_in by_zero ended = Some Closed
closed_in (refusing reason) ended = ended

abbrev pub ended_behind : Terms → Bool → Move → Option EndReason → Option EndReason
ended_behind terms true (ends true reason) ended = Some reason
ended_behind terms false (ends false reason) ended = Some reason
ended_behind terms true (closes true n reason) ended = closed_in terms ended
ended_behind terms false (closes false n reason) ended = closed_in terms ended
ended_behind terms end m ended = ended

abbrev pub ended_by_all : Terms → Bool → List Move → Option EndReason → Option EndReason
ended_by_all terms end [] ended = ended
ended_by_all terms end (m ∷ ms) ended = ended_by_all terms end ms (ended_behind terms end m ended)

-- The invariant holds after these moves, and an end has ended only for a reason that they give.
pub record StayBetween (terms : Terms) (moves : List Move) (both : Both) : Type 0 where
  pub now : Between
  pub between : AreBetween terms (moved_by moves both) now
  pub ended : (end : Bool) → (side end (moved_by moves both)).state.ended ≡ ended_by_all terms end moves (side end both).state.ended
