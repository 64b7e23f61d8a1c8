-- The TSDUs of a connection as a judge joins them, in the order in which they passed, and two sessions that send them.
use Rattle.std.specs.Prelude.{◌≡◌, ◌++◌, ℕ, List, map, take, Option, Some}
use Rattle.osi_session.specs.Standing.{seen_called, seen_calling}
use Rattle.osi_side.specs.declared.directions.Direction.{Direction}
use Rattle.osi_side.specs.declared.directions.Direction.TheVariants.{Left, Right}
use Rattle.osi_side.specs.declared.findings.Finding.{Finding}
use Rattle.osi_side.specs.declared.findings.Finding.TheVariants as finding
use Rattle.osi_side.specs.Captures.{Capture, other}
use Rattle.osi_side.specs.Judging.{IsFound}
use Rattle.osi_side.specs.Sides.{begin_of}
use Rattle.osi_judge.specs.declared.outcomes.Outcome.{Outcome}
use Rattle.osi_judge.specs.declared.outcomes.Outcome.TheVariants as outcome
use Rattle.osi_judge.specs.declared.rooms.Room.{Room}
use Rattle.osi_judge.specs.Connections.{Joined, numbered, spoken}
use Rattle.osi_judge.specs.Lines.{heard, told}
use Rattle.osi_judge.specs.States.{after, begin_within}
use Rattle.osi_blameless.specs.accord.Accords.{Accords, Turn, sending_of, told_by}
use Rattle.osi_blameless.specs.accord.Pairs.{pair_of}

-- the connection with this number after a capture, if so much of each connection is judged
abbrev pub connection_in : Room → (number : ℕ) → Capture → Option Joined
connection_in room number capture = numbered number (after capture (begin_within room)).course.sessions

-- what is found of the session of a side of it
pub record IsFoundOn (d : Direction) (room : Room) (number : ℕ) (capture : Capture) (f : Finding) : Type 0 where
  pub connection : Joined
  pub there : connection_in room number capture ≡ Some connection
  pub found : IsFound (begin_of d) (heard (spoken (other d) connection)) (told (spoken d connection)) f

-- the same, as it is told of a connection that is over
abbrev pub IsToldOn : Direction → Room → (number : ℕ) → Capture → Outcome → Type 0
IsToldOn d room number capture (outcome.Kept tsdus state owes) = IsFoundOn d room number capture finding.Kept
IsToldOn d room number capture (outcome.Broke offset by) = (i : ℕ) × IsFoundOn d room number capture (finding.Broke i)
IsToldOn d room number capture (outcome.Left offset by) = (i : ℕ) × IsFoundOn d room number capture (finding.Left i)
IsToldOn d room number capture outcome.TooMany = IsFoundOn d room number capture finding.TooMany

-- these are the TSDUs of both sides of a connection
pub record AreTold (turns : List Turn) (j : Joined) : Type 0 where
  pub left : told_by Left turns ≡ told j.left
  pub right : told_by Right turns ≡ told j.right

-- the first of these are
pub record BeginWith (turns : List Turn) (j : Joined) : Type 0 where
  pub front : List Turn
  pub back : List Turn
  pub parts : turns ≡ front ++ back
  pub are : AreTold front j

-- A caller and a called session, whose TSDUs are those of the connection with this number. They send them in the order in which they
-- passed as a whole: what had passed on the connection in the first n octets of the capture stands in front, for each n. And before it
-- sends a TSDU each has taken only what had passed as a whole before the first packet of that TSDU.
pub record IsAccord (room : Room) (number : ℕ) (capture : Capture) (turns : List Turn) : Type 0 where
  pub connection : Joined
  pub there : connection_in room number capture ≡ Some connection
  pub are : AreTold turns connection
  pub order : (n : ℕ) (by_then : Joined) → connection_in room number (take n capture) ≡ Some by_then → BeginWith turns by_then
  pub runs : Accords (map sending_of turns) (pair_of seen_calling seen_called)
