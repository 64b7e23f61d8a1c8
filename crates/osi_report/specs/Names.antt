-- The words for sides, for what a side sent, and for rules: a unit by the name of the call that sends it, a rule by
-- its own.
use Rattle.std.specs.Prelude.{ℕ, List, codes, Option, Some, None}
use Rattle.osi_side.specs.declared.directions.Direction.{Direction}
use Rattle.osi_side.specs.declared.directions.Direction.TheVariants.{Left, Right}
use Rattle.osi_side.specs.declared.rules.Rule.{Rule}
use Rattle.osi_side.specs.declared.rules.Rule.TheVariants as rule
use Rattle.osi_listing.specs.SessionLines.{session_fault_name}
use Rattle.osi_script.specs.Naming.{call_error_name}
use Rattle.osi_session.specs.declared.breaches.Breach.{Breach}
use Rattle.osi_session.specs.declared.breaches.Breach.TheVariants as breach
use Rattle.osi_session.specs.declared.reactions.Reply.{Reply}
use Rattle.osi_session.specs.declared.reactions.Reply.TheVariants as reply
use Rattle.osi_spdu.specs.declared.kinds.Kind.{Kind}
use Rattle.osi_spdu.specs.declared.kinds.Kind.TheVariants as unit

abbrev pub side_name : Direction → List ℕ
side_name Left = codes "left"
side_name Right = codes "right"

unfoldable pub unit_name : Kind → List ℕ
unit_name unit.GiveTokens = codes "Give"
unit_name unit.PleaseTokens = codes "Please"
unit_name unit.DataTransfer = codes "Data"
unit_name unit.NotFinished = codes "ReleaseRefuse"
unit_name unit.Finish = codes "Release"
unit_name unit.Disconnect = codes "ReleaseAccept"
unit_name unit.Refuse = codes "Refuse"
unit_name unit.Connect = codes "Connect"
unit_name unit.Accept = codes "Accept"
unit_name unit.Abort = codes "Abort"
unit_name unit.AbortAccept = codes "AbortAccept"
unit_name unit.ResynchronizeAck = codes "RestartConfirm"
unit_name unit.MajorSyncPoint = codes "Major"
unit_name unit.MajorSyncAck = codes "MajorConfirm"
unit_name unit.MinorSyncPoint = codes "Minor"
unit_name unit.MinorSyncAck = codes "MinorConfirm"
unit_name unit.Resynchronize = codes "Restart"

-- octets that are not session units are named as such
abbrev pub said_name : Option Kind → List ℕ
said_name None = codes "TSDU"
said_name (Some kind) = unit_name kind

abbrev pub breach_name : Breach → List ℕ
breach_name (breach.Call error) = call_error_name error
breach_name breach.BadTokens = codes "BadTokens"
breach_name breach.BadEnclosure = codes "BadEnclosure"
breach_name breach.NoFault = codes "NoFault"
breach_name breach.NothingToAnswer = codes "NothingToAnswer"
breach_name breach.Outside = codes "Outside"

abbrev pub rule_name : Rule → List ℕ
rule_name (rule.Breach found) = breach_name found
rule_name (rule.Fault fault) = session_fault_name fault

abbrev pub reply_name : Reply → List ℕ
reply_name reply.VersionNotSupported = codes "Refuse"
reply_name reply.ImplementationRestriction = codes "Refuse"
reply_name reply.ProtocolError = codes "Abort"
reply_name reply.AbortAccept = codes "AbortAccept"
