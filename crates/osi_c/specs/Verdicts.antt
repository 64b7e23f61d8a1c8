-- What C is told of a byte connection, in the numbers of C.
use Rattle.std.specs.Prelude.{◌≡◌, ℕ, ◌-◌, ◌^◌, Option, Some, None}
use Rattle.osi_side.specs.declared.directions.Direction.{Direction}
use Rattle.osi_rules.specs.declared.findings.Rule.{Rule}
use Rattle.osi_rules.specs.declared.findings.Rule.TheVariants as rule
use Rattle.osi_judge.specs.declared.marks.Cause.{Cause}
use Rattle.osi_judge.specs.declared.marks.Cause.TheVariants as cause
use Rattle.osi_judge.specs.declared.marks.UnitKind.{UnitKind}
use Rattle.osi_judge.specs.declared.marks.UnitKind.TheVariants as unit
use Rattle.osi_judge.specs.declared.judge.Judge.{Judge}
use Rattle.osi_judge.specs.Connections.{Joined, numbered}
use Rattle.osi_judge.specs.Standing.{HoldsState, IsSettled}
use Rattle.osi_judge.specs.States.{State}
use Rattle.osi_c.specs.Judges.{side_of}
use Rattle.osi_c.specs.declared.verdicts.OsiVerdict.{OsiVerdict}
use Rattle.osi_c.specs.declared.verdicts.References.{References}
use Rattle.osi_c.specs.declared.notes.Note.{Note}
use Rattle.osi_c.specs.declared.notes.Note.TheVariants.{Silent, Kept, Broke, Leaves, TooMany, Over, Stopped, Halted, Unopened}
use Rattle.osi_c.specs.declared.subjects.Subject.{Subject}
use Rattle.osi_c.specs.declared.subjects.Subject.TheVariants.{Session, Transport, Rest}
use Rattle.osi_c.specs.Ruled.{said_code, IsRule, packet_code, unit_code}
use Rattle.osi_c.specs.Subjects.{side_in}

-- ---- what a transport sent, and the rule that it broke

abbrev pub transport_rule_code : Rule → ℕ
transport_rule_code rule.NothingToAnswer = 33
transport_rule_code rule.UnexpectedUnit = 61
transport_rule_code rule.WrongForm = 62
transport_rule_code rule.TsduTooLong = 63
transport_rule_code rule.OneConnection = 80
transport_rule_code rule.Negotiating = 81
transport_rule_code rule.ReferenceInUse = 82
transport_rule_code rule.UnknownReference = 83
transport_rule_code rule.BadAnswer = 84
transport_rule_code rule.LargerSize = 85
transport_rule_code rule.Closed = 86
transport_rule_code rule.OutOfSequence = 87
transport_rule_code rule.NoCredit = 88
transport_rule_code rule.SizeExceeded = 89
transport_rule_code rule.CreditReduced = 90

abbrev pub cause_code : Cause → ℕ
cause_code (cause.BadPacket fault) = packet_code fault
cause_code (cause.BadUnit fault) = unit_code fault
cause_code (cause.Broke broken) = transport_rule_code broken
cause_code cause.Outside = 34
cause_code cause.TooMany = 71

abbrev pub unit_said_code : UnitKind → ℕ
unit_said_code unit.Dt = 21
unit_said_code unit.Dr = 22
unit_said_code unit.Cr = 23
unit_said_code unit.Cc = 24
unit_said_code unit.Dc = 25
unit_said_code unit.Ak = 26
unit_said_code unit.Er = 27

-- octets that begin no packet, or a packet whose units can't be read
abbrev pub unread_said_code : Cause → ℕ
unread_said_code (cause.BadPacket fault) = 19
unread_said_code c = 20

abbrev pub mark_said_code : Option UnitKind → Cause → ℕ
mark_said_code (Some u) c = unit_said_code u
mark_said_code None c = unread_said_code c

abbrev pub mark_kind_code : Cause → ℕ
mark_kind_code cause.Outside = 3
mark_kind_code c = 2

-- ---- what is told

abbrev pub kind_code : Note → ℕ
kind_code Silent = 0
kind_code Kept = 1
kind_code (Broke offset by) = 2
kind_code (Leaves offset by) = 3
kind_code TooMany = 4
kind_code Over = 5
kind_code (Stopped m) = mark_kind_code m.cause
kind_code (Halted m) = 5
kind_code (Unopened m) = 5

abbrev pub IsRuleOf : Note → ℕ → Type 0
IsRuleOf Silent code = code ≡ 0
IsRuleOf Kept code = code ≡ 0
IsRuleOf (Broke offset by) code = IsRule by.rule code
IsRuleOf (Leaves offset by) code = code ≡ 34
IsRuleOf TooMany code = code ≡ 0
IsRuleOf Over code = code ≡ 70
IsRuleOf (Stopped m) code = code ≡ cause_code m.cause
IsRuleOf (Halted m) code = code ≡ cause_code m.cause
IsRuleOf (Unopened m) code = code ≡ 50

abbrev pub said_in : Note → ℕ
said_in Silent = 0
said_in Kept = 0
said_in (Broke offset by) = said_code by.said
said_in (Leaves offset by) = said_code by.said
said_in TooMany = 0
said_in Over = 0
said_in (Stopped m) = mark_said_code m.unit m.cause
said_in (Halted m) = mark_said_code m.unit m.cause
said_in (Unopened m) = mark_said_code m.unit m.cause

-- of the packet
abbrev pub offset_in : Note → ℕ
offset_in Silent = 0
offset_in Kept = 0
offset_in (Broke offset by) = offset
offset_in (Leaves offset by) = offset
offset_in TooMany = 0
offset_in Over = 0
offset_in (Stopped m) = m.offset
offset_in (Halted m) = m.offset
offset_in (Unopened m) = m.offset

-- the side that sent the packet
abbrev pub by_in : Subject → Note → Direction
by_in k (Stopped m) = m.direction
by_in k (Halted m) = m.direction
by_in k (Unopened m) = m.direction
by_in k n = side_in k

-- ---- the connection

abbrev pub number_of_mark : Note → Option ℕ
number_of_mark (Stopped m) = m.connection
number_of_mark (Halted m) = m.connection
number_of_mark (Unopened m) = m.connection
number_of_mark n = None

-- its number; none if it is of no single one
abbrev pub number_in : Subject → Note → Option ℕ
number_in (Session number d) n = Some number
number_in (Transport d) n = number_of_mark n
number_in (Rest d) n = number_of_mark n

abbrev pub number_code : Option ℕ → ℕ
number_code None = 2 ^ 64 - 1
number_code (Some number) = number

-- 0 if the side gave none
abbrev pub reference_code : Option ℕ → ℕ
reference_code None = 0
reference_code (Some reference) = reference

-- its references
abbrev pub named_in : Option Joined → References
named_in None = record { left = 0; right = 0 }
named_in (Some j) = record { left = j.calling; right = reference_code j.called }

abbrev pub IsNamed : Judge → Option ℕ → (left right : ℕ) → Type 0
IsNamed t None left right = (left ≡ 0) × (right ≡ 0)
IsNamed t (Some number) left right = (s : State) → HoldsState t s → IsSettled t
    → (left ≡ (named_in (numbered number s.course.sessions)).left) × (right ≡ (named_in (numbered number s.course.sessions)).right)

-- ---- a verdict

pub record Shows (t : Judge) (k : Subject) (n : Note) (v : OsiVerdict) : Type 0 where
  pub offset : v.offset ≡ offset_in n
  pub connection : v.connection ≡ number_code (number_in k n)
  pub kind : v.kind ≡ kind_code n
  pub side : side_of v.side ≡ Some (side_in k)
  pub by : side_of v.by ≡ Some (by_in k n)
  pub rule : IsRuleOf n v.rule
  pub said : v.said ≡ said_in n
  pub names : IsNamed t (number_in k n) v.left v.right

-- none
abbrev pub nothing : OsiVerdict
nothing = record { offset = 0; connection = 0; kind = 0; side = 0; by = 0; rule = 0; said = 0; left = 0; right = 0 }
