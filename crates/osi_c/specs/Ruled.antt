-- The numbers of what a side sent, and of the rules that it broke.
use Rattle.std.specs.Prelude.{◌≡◌, ℕ, Option, Some, None}
use Rattle.osi_side.specs.declared.rules.Rule.{Rule}
use Rattle.osi_side.specs.declared.rules.Rule.TheVariants as rule
use Rattle.osi_session.specs.declared.breaches.Breach.{Breach}
use Rattle.osi_session.specs.declared.breaches.Breach.TheVariants as breach
use Rattle.osi_spdu.specs.declared.faults.SpduFault.{SpduFault}
use Rattle.osi_spdu.specs.declared.faults.SpduFault.TheVariants as spelling
use Rattle.osi_spdu.specs.declared.kinds.Kind.{Kind}
use Rattle.osi_spdu.specs.declared.kinds.Kind.TheVariants as unit
use Rattle.osi_tpdu.specs.declared.faults.TpduFault.{TpduFault}
use Rattle.osi_tpdu.specs.declared.faults.TpduFault.TheVariants as tpdu
use Rattle.osi_tpkt.specs.declared.faults.TpktFault.{TpktFault}
use Rattle.osi_tpkt.specs.declared.faults.TpktFault.TheVariants as packet
use Rattle.osi_c.specs.Codes.{answer_of, Refused}

-- a session unit, or a TSDU that is none
abbrev pub said_code : Option Kind → ℕ
said_code (Some unit.Connect) = 1
said_code (Some unit.Accept) = 2
said_code (Some unit.Refuse) = 3
said_code (Some unit.DataTransfer) = 4
said_code (Some unit.GiveTokens) = 5
said_code (Some unit.PleaseTokens) = 6
said_code (Some unit.MinorSyncPoint) = 7
said_code (Some unit.MinorSyncAck) = 8
said_code (Some unit.MajorSyncPoint) = 9
said_code (Some unit.MajorSyncAck) = 10
said_code (Some unit.Resynchronize) = 11
said_code (Some unit.ResynchronizeAck) = 12
said_code (Some unit.Finish) = 13
said_code (Some unit.Disconnect) = 14
said_code (Some unit.NotFinished) = 15
said_code (Some unit.Abort) = 16
said_code (Some unit.AbortAccept) = 17
said_code None = 18

-- ---- rules

-- a call that a session refuses has the number that the call answers
abbrev pub IsBreach : Breach → ℕ → Type 0
IsBreach (breach.Call error) code = answer_of code ≡ Some (Refused error)
IsBreach breach.BadTokens code = code ≡ 30
IsBreach breach.BadEnclosure code = code ≡ 31
IsBreach breach.NoFault code = code ≡ 32
IsBreach breach.NothingToAnswer code = code ≡ 33
IsBreach breach.Outside code = code ≡ 34

abbrev pub spelling_code : SpduFault → ℕ
spelling_code (spelling.UnknownSi at) = 40
spelling_code (spelling.LengthPastEnd at) = 41
spelling_code (spelling.MissingParameter parameter at) = 42
spelling_code (spelling.DuplicateParameter parameter at) = 43
spelling_code (spelling.BadValue parameter at) = 44
spelling_code (spelling.BadConcatenation at) = 45
spelling_code (spelling.TrailingOctets at) = 46

abbrev pub IsRule : Rule → ℕ → Type 0
IsRule (rule.Breach found) code = IsBreach found code
IsRule (rule.Fault fault) code = code ≡ spelling_code fault

abbrev pub packet_code : TpktFault → ℕ
packet_code (packet.BadVersion at) = 54
packet_code (packet.BadLength at) = 55
packet_code packet.OutOfMemory = 3

abbrev pub unit_code : TpduFault → ℕ
unit_code (tpdu.BadLi at) = 56
unit_code (tpdu.UnknownCode at) = 57
unit_code (tpdu.BadParameterLength at) = 58
unit_code (tpdu.BadParameterValue at) = 59
unit_code (tpdu.DuplicateParameter at) = 60
