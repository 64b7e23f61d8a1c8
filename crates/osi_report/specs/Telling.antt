-- What is told of a side of a connection, by what was found of its session.
use Rattle.std.specs.Prelude.{ℕ, Bool, true, false, not, ◌&&◌, Option, Some, None}
use Rattle.osi_side.specs.declared.findings.Finding.{Finding}
use Rattle.osi_side.specs.declared.findings.Finding.TheVariants as finding
use Rattle.osi_judge.specs.declared.outcomes.Outcome.{Outcome}
use Rattle.osi_judge.specs.declared.outcomes.Outcome.TheVariants as outcome
use Rattle.osi_report.specs.declared.told.Connection.{Connection}
use Rattle.osi_report.specs.declared.told.Connection.TheVariants.{Silent, Refused, Unanswered, Session}

abbrev pub is_kept : Finding → Bool
is_kept finding.Kept = true
is_kept found = false

abbrev pub is_left : Finding → Bool
is_left (finding.Left i) = true
is_left found = false

-- by what is told of a session
abbrev pub keeps : Outcome → Bool
keeps (outcome.Kept tsdus state owes) = true
keeps o = false

abbrev pub leaves : Outcome → Bool
leaves (outcome.Left offset by) = true
leaves o = false

abbrev pub strays : Outcome → Bool
strays (outcome.Broke offset by) = true
strays (outcome.Left offset by) = true
strays o = false

-- nothing is told of a side if the other side left the profile, and this side did not
abbrev pub is_dropped : (own other : Finding) → Bool
is_dropped own other = is_left other && not (is_left own)

-- A session is told of, also where the connection was refused or not answered if this side is to blame.
abbrev pub connection_with : (reference : ℕ) → (blamed refused unanswered : Bool) → Outcome → Connection
connection_with reference true refused unanswered t = Session reference t
connection_with reference false true unanswered t = Refused reference
connection_with reference false false true t = Unanswered reference
connection_with reference false false false t = Session reference t

-- Nothing is told of a side that is dropped, or gave no reference.
abbrev pub connection_by : (dropped : Bool) → Option ℕ → (blamed refused unanswered : Bool) → Outcome → Connection
connection_by true reference blamed refused unanswered t = Silent
connection_by false None blamed refused unanswered t = Silent
connection_by false (Some reference) blamed refused unanswered t = connection_with reference blamed refused unanswered t
