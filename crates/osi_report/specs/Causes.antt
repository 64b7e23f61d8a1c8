-- The words for transport units, and for the rules of transport: a rule by its own name.
use Rattle.std.specs.Prelude.{ℕ, List, codes, Option, Some, None}
use Rattle.osi_rules.specs.declared.findings.Rule.{Rule}
use Rattle.osi_rules.specs.declared.findings.Rule.TheVariants as rule
use Rattle.osi_judge.specs.declared.marks.Cause.{Cause}
use Rattle.osi_judge.specs.declared.marks.Cause.TheVariants.{BadPacket, BadUnit, Broke, Outside, TooMany}
use Rattle.osi_judge.specs.declared.marks.Mark.{Mark}
use Rattle.osi_judge.specs.declared.marks.UnitKind.{UnitKind}
use Rattle.osi_judge.specs.declared.marks.UnitKind.TheVariants as kind
use Rattle.osi_listing.specs.Lines.{fault_name, unit_fault_name}

abbrev pub unit_kind_name : UnitKind → List ℕ
unit_kind_name kind.Cr = codes "CR"
unit_kind_name kind.Cc = codes "CC"
unit_kind_name kind.Dr = codes "DR"
unit_kind_name kind.Dc = codes "DC"
unit_kind_name kind.Dt = codes "DT"
unit_kind_name kind.Ak = codes "AK"
unit_kind_name kind.Er = codes "ER"

unfoldable pub transport_rule_name : Rule → List ℕ
transport_rule_name rule.UnexpectedUnit = codes "UnexpectedUnit"
transport_rule_name rule.OneConnection = codes "OneConnection"
transport_rule_name rule.Negotiating = codes "Negotiating"
transport_rule_name rule.ReferenceInUse = codes "ReferenceInUse"
transport_rule_name rule.UnknownReference = codes "UnknownReference"
transport_rule_name rule.WrongForm = codes "WrongForm"
transport_rule_name rule.BadAnswer = codes "BadAnswer"
transport_rule_name rule.LargerSize = codes "LargerSize"
transport_rule_name rule.Closed = codes "Closed"
transport_rule_name rule.OutOfSequence = codes "OutOfSequence"
transport_rule_name rule.NoCredit = codes "NoCredit"
transport_rule_name rule.SizeExceeded = codes "SizeExceeded"
transport_rule_name rule.TsduTooLong = codes "TsduTooLong"
transport_rule_name rule.CreditReduced = codes "CreditReduced"
transport_rule_name rule.NothingToAnswer = codes "NothingToAnswer"

-- what can't be read: a packet, or the units of one
abbrev pub unread_name : Cause → List ℕ
unread_name (BadPacket fault) = codes "TPKT"
unread_name cause = codes "TPDU"

-- what a mark is at
abbrev pub marked_name : Option UnitKind → Cause → List ℕ
marked_name (Some kind) cause = unit_kind_name kind
marked_name None cause = unread_name cause

abbrev pub marked_at_name : Mark → List ℕ
marked_at_name m = marked_name m.unit m.cause

-- and what was found there
abbrev pub cause_name : Cause → List ℕ
cause_name (BadPacket fault) = fault_name fault
cause_name (BadUnit fault) = unit_fault_name fault
cause_name (Broke rule) = transport_rule_name rule
cause_name Outside = codes "Outside"
cause_name TooMany = codes "TooMany"
