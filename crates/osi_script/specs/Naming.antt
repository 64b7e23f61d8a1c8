-- The words for errors, faults and phases: each by its own name.
use Rattle.std.specs.Prelude.{ℕ, List, codes}
use Rattle.osi_session.specs.declared.faults.CallError.{CallError}
use Rattle.osi_session.specs.declared.faults.CallError.TheVariants as call
use Rattle.osi_session.specs.declared.faults.UnitFault.{UnitFault}
use Rattle.osi_session.specs.declared.faults.UnitFault.TheVariants as fault
use Rattle.osi_session.specs.declared.phases.Phase.{Phase}
use Rattle.osi_session.specs.declared.phases.Phase.TheVariants as phase

unfoldable pub call_error_name : CallError → List ℕ
call_error_name call.NoSuchConnection = codes "NoSuchConnection"
call_error_name call.Ended = codes "Ended"
call_error_name call.BadState = codes "BadState"
call_error_name call.NotSelected = codes "NotSelected"
call_error_name call.TokenNotHeld = codes "TokenNotHeld"
call_error_name call.TokenAlreadyHeld = codes "TokenAlreadyHeld"
call_error_name call.BadNumber = codes "BadNumber"
call_error_name call.SerialsUsedUp = codes "SerialsUsedUp"
call_error_name call.Empty = codes "Empty"
call_error_name call.TooLong = codes "TooLong"
call_error_name call.OutOfMemory = codes "OutOfMemory"

abbrev pub unit_fault_name : UnitFault → List ℕ
unit_fault_name (fault.Spelling spelling) = codes "Spelling"
unit_fault_name (fault.Unexpected si) = codes "Unexpected"
unit_fault_name (fault.NotSelected si) = codes "NotSelected"
unit_fault_name (fault.TokenHeld si) = codes "TokenHeld"
unit_fault_name (fault.BadNumber si) = codes "BadNumber"
unit_fault_name (fault.BadTokens si) = codes "BadTokens"
unit_fault_name (fault.BadEnclosure si) = codes "BadEnclosure"
unit_fault_name (fault.DataTooLong si) = codes "DataTooLong"

unfoldable pub phase_name : Phase → List ℕ
phase_name phase.WaitTransport = codes "WaitTransport"
phase_name phase.WaitCn = codes "WaitCn"
phase_name phase.Connecting = codes "Connecting"
phase_name phase.Answering = codes "Answering"
phase_name phase.Ready = codes "Ready"
phase_name phase.MajorAsked = codes "MajorAsked"
phase_name phase.MajorDue = codes "MajorDue"
phase_name phase.Releasing = codes "Releasing"
phase_name phase.ReleaseDue = codes "ReleaseDue"
phase_name phase.Restarting = codes "Restarting"
phase_name phase.RestartDue = codes "RestartDue"
phase_name phase.Aborting = codes "Aborting"
phase_name phase.Ended = codes "Ended"
