-- How much is not judged any more after a unit.
use Rattle.std.specs.Prelude.{Bool, true, false, Option, Some, None}
use Rattle.osi_class.specs.declared.terms.Class.{Class}
use Rattle.osi_class.specs.declared.terms.Class.TheVariants.{Zero, Two}
use Rattle.osi_rules.specs.declared.findings.Rule.{Rule}
use Rattle.osi_rules.specs.declared.findings.Rule.TheVariants.{WrongForm, LargerSize, Closed, OutOfSequence, NoCredit, SizeExceeded, TsduTooLong, CreditReduced, NothingToAnswer}
use Rattle.osi_rules.specs.declared.findings.Finding.{Finding}
use Rattle.osi_rules.specs.declared.findings.Finding.TheVariants.{Kept, Broke, Outside, TooMany, NotJudged}
use Rattle.osi_rules.specs.declared.findings.Reach.{Reach}
use Rattle.osi_rules.specs.declared.findings.Reach.TheVariants.{Nothing, Connection, Side, Everything}

-- a break that the taker does not look at
abbrev pub passes_over : Rule → Bool
passes_over NoCredit = true
passes_over SizeExceeded = true
passes_over LargerSize = true
passes_over Closed = true
passes_over rule = false

-- in class 2 a fault of one connection, for which the taker closes it (X.224 section 6.22)
abbrev pub is_of_connection : Rule → Bool
is_of_connection WrongForm = true
is_of_connection OutOfSequence = true
is_of_connection TsduTooLong = true
is_of_connection CreditReduced = true
is_of_connection NothingToAnswer = true
is_of_connection rule = false

-- Before the class is known nothing is judged any more. In class 0 the taker has ended: it takes nothing more, and is
-- judged on. In class 2 it has closed the connection, or has ended with all of them.
abbrev pub reach_by : Option Class → (of_connection : Bool) → Reach
reach_by None of_connection = Everything
reach_by (Some Zero) of_connection = Side
reach_by (Some Two) true = Connection
reach_by (Some Two) false = Everything

abbrev pub reach_past : (passed_over : Bool) → Reach → Reach
reach_past true reach = Nothing
reach_past false reach = reach

abbrev pub reach_of : Option Class → Finding → Reach
reach_of class Kept = Nothing
reach_of class NotJudged = Nothing
reach_of class Outside = Everything
reach_of class TooMany = Everything
reach_of class (Broke rule) = reach_past (passes_over rule) (reach_by class (is_of_connection rule))

-- the unit has its effect: it is right, or the taker takes it all the same
abbrev pub is_applied : Finding → Bool
is_applied Kept = true
is_applied (Broke NoCredit) = true
is_applied (Broke SizeExceeded) = true
is_applied (Broke LargerSize) = true
is_applied finding = false

-- its sender has broken a rule
abbrev pub is_break : Finding → Bool
is_break (Broke rule) = true
is_break finding = false
