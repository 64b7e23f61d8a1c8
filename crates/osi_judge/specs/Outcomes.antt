-- What is told of the session of a side of a connection, by what both sides said on it.
use Rattle.std.specs.Prelude.{◌≡◌, ℕ, length, Option, Some}
use Rattle.osi_side.specs.declared.directions.Direction.{Direction}
use Rattle.osi_side.specs.declared.findings.Finding.TheVariants as finding
use Rattle.osi_side.specs.declared.rules.Break.{Break}
use Rattle.osi_side.specs.declared.standings.Stands.{Stands}
use Rattle.osi_side.specs.Judging.{Observed}
use Rattle.osi_side.specs.Onward.{StandsFor}
use Rattle.osi_message.specs.Tokens.{token_octet}
use Rattle.osi_session.specs.Standing.{Seen}
use Rattle.osi_session.specs.declared.reactions.Reply.{Reply}
use Rattle.osi_judge.specs.declared.outcomes.Outcome.{Outcome}
use Rattle.osi_judge.specs.declared.outcomes.Outcome.TheVariants.{Kept, Broke, Left, TooMany}
use Rattle.osi_judge.specs.declared.outcomes.SessionState.{SessionState}
use Rattle.osi_judge.specs.declared.outcomes.Violation.{Violation}
use Rattle.osi_judge.specs.Connections.{Joined, spoken}
use Rattle.osi_judge.specs.KnownSessions.{IsSession}
use Rattle.osi_judge.specs.Lines.{told, place_in}

-- what is told of the state of a session
abbrev pub state_of : Seen → SessionState
state_of s = record { phase = s.state.phase; held = record { 0 = token_octet s.state.held }; numbers = s.state.numbers }

-- and of a break
abbrev pub violation_of : Break → Violation
violation_of b = record { said = b.said; rule = b.rule; before = b.before; taken = b.taken; state = state_of b.standing }

-- so it stands that kept the protocol
pub record StandsSo (d : Direction) (j : Joined) (w : Observed) (state : SessionState) (owes : Option Reply) : Type 0 where
  pub stands : Stands
  pub stands_for : StandsFor w (told (spoken d j)) stands
  pub state_is : state ≡ state_of stands.standing
  pub owes_is : owes ≡ stands.owes

-- the TSDU that has this place ended in the packet at this offset, and the session strayed by this rule
pub record Strayed (d : Direction) (j : Joined) (w : Observed) (i offset : ℕ) (by : Violation) : Type 0 where
  pub place : place_in (spoken d j).said i ≡ Some offset
  pub rule : by ≡ violation_of w.by

-- this is told of it: how it stands that kept the protocol, or at which packet and by which rule it broke it or left the profile
abbrev pub SaysSo : Direction → Joined → Observed → Outcome → Type 0
SaysSo d j w (Kept tsdus state owes) = (w.finding ≡ finding.Kept) × (tsdus ≡ length (told (spoken d j))) × StandsSo d j w state owes
SaysSo d j w (Broke offset by) = (i : ℕ) × (w.finding ≡ finding.Broke i) × Strayed d j w i offset by
SaysSo d j w (Left offset by) = (i : ℕ) × (w.finding ≡ finding.Left i) × Strayed d j w i offset by
SaysSo d j w TooMany = w.finding ≡ finding.TooMany

-- of a side, by a session that was told all that this side said and heard all that the other said
pub record IsOutcomeOf (d : Direction) (j : Joined) (o : Outcome) : Type 0 where
  pub session : Observed
  pub is_session : IsSession d j session
  pub says : SaysSo d j session o
