-- When a unit is right, by what its sender has sent and by what had passed of the other side before the packet of the
-- unit began: a row for each kind of unit. A row lists its tests, and what is found if the first of them fails; those that
-- the taker passes over come last.
use Rattle.std.specs.Prelude.{ℕ, ◌+◌, ◌%◌, Bool, true, false, not, ◌&&◌, ◌||◌, ◌==◌, nat_le, nat_lt, List, [], ◌∷◌, Option, Some, None, is_none, if◌then◌else◌}
use Rattle.osi_tpdu.specs.Value.{Connect}
use Rattle.osi_class.specs.Flow.{steps_before}
use Rattle.osi_class.specs.Limits.{longest_tsdu}
use Rattle.osi_class.specs.Negotiation.{proposes}
use Rattle.osi_class.specs.declared.terms.Class.{Class}
use Rattle.osi_rules.specs.declared.connections.Connection.{Connection}
use Rattle.osi_rules.specs.declared.connections.Offer.{Offer}
use Rattle.osi_rules.specs.declared.directions.Direction.{Direction}
use Rattle.osi_rules.specs.declared.findings.Finding.{Finding}
use Rattle.osi_rules.specs.declared.findings.Finding.TheVariants.{Kept, Broke, Outside, TooMany, NotJudged}
use Rattle.osi_rules.specs.declared.findings.Rule.TheVariants as rule
use Rattle.osi_rules.specs.Sides.{is_silent, is_open, is_closing, own, theirs, seen}

-- a test of a unit, and what is found if it fails
abbrev pub Test : Type 0
Test = Bool × Finding

-- what is found of a unit with these tests: that of the first that fails
abbrev pub first_failed : List Test → Finding
first_failed [] = Kept
first_failed (t ∷ ts) = if t.0 then first_failed ts else t.1

-- ---- numbers (X.224 sections 6.10 and 6.16)

-- how many numbers there are from one up to another, modulo 128
abbrev pub steps_from : ℕ → ℕ → ℕ
steps_from first last = steps_before last (first % 128)

-- The next DT is below the upper edge of the window: that of the last AK that had passed. Without an AK the number is 0
-- and the credit that of the CR or CC.
abbrev pub has_credit : Direction → Connection → Bool
has_credit d c = nat_lt (steps_from (seen d c).awaited (own d c).next) (seen d c).credit

-- At most 127 DTs are not acknowledged. Of one more the numbers modulo 128 could not tell whether it is.
abbrev pub is_tellable : Direction → Connection → Bool
is_tellable d c = nat_lt (steps_from (theirs d c).awaited (own d c).next) 127

-- an AK's number is from that of the last AK up to that of the DT that had not passed yet
abbrev pub has_passed : Direction → Connection → (number : ℕ) → Bool
has_passed d c number = nat_le (steps_from (own d c).awaited number) (steps_from (own d c).awaited (seen d c).next)

-- the upper edge of the window does not move down
abbrev pub keeps_credit : Direction → Connection → (number credit : ℕ) → Bool
keeps_credit d c number credit = nat_le (own d c).credit (steps_from (own d c).awaited number + credit)

-- ---- sizes (X.224 sections 6.5 and 13.3.4)

-- not longer than the size that the CC names, if it names one; header included
abbrev pub fits_size : Option ℕ → (octets : ℕ) → Bool
fits_size None octets = true
fits_size (Some most) octets = nat_le octets most

abbrev pub fits_tsdu : Direction → Connection → (octets : ℕ) → Bool
fits_tsdu d c octets = nat_le ((own d c).begun + octets) longest_tsdu

-- the code of a size; 7, for 128 octets, if none is named
abbrev pub code_named : Option ℕ → ℕ
code_named None = 7
code_named (Some code) = code

-- ---- what a CR offers (X.224 section 6.5)

-- bit 1 of the additional options: expedited data. It is asked for if a CR leaves them out, and not selected if a CC does.
abbrev pub asks_expedited : Option ℕ → Bool
asks_expedited None = true
asks_expedited (Some options) = options % 2 == 1

abbrev pub selects_expedited : Option ℕ → Bool
selects_expedited None = false
selects_expedited (Some options) = options % 2 == 1

-- bits 1 and 2 of the options beside the class: class 2 without flow control, and extended formats (X.224 section 13.3.3)
abbrev pub is_without_flow_control : (options : ℕ) → Bool
is_without_flow_control options = options % 2 == 1

abbrev pub is_extended : (options : ℕ) → Bool
is_extended options = nat_le 2 (options % 4)

-- the class is preferred or listed, or may be selected by an answer to one that is
abbrev pub offers_zero : Connect → Bool
offers_zero c = proposes c 0 || proposes c 1

abbrev pub offers_two : Connect → Bool
offers_two c = proposes c 2 || ((c.class == 3) || (c.class == 4))

abbrev pub offers_others : Connect → Bool
offers_others c = proposes c 1 || (proposes c 3 || proposes c 4)

-- an option is selected only if it is offered
abbrev pub selects_offered : (offered selected : Bool) → Bool
selects_offered offered selected = offered || not selected

abbrev pub are_offered : Offer → Connect → Bool
are_offered offer c =
    selects_offered offer.expedited (selects_expedited c.parameters.additional)
    && (selects_offered offer.without_flow_control (is_without_flow_control c.options)
    && selects_offered offer.extended (is_extended c.options))

-- the answer is one that the CR allows, and class 0 only if it is the first
abbrev pub is_offered : Offer → Option Class → Connect → Bool
is_offered offer held c =
    if c.class == 0 then offer.class0 && is_none held
    else (if c.class == 2 then offer.class2 && are_offered offer c
    else offer.others)

-- class 0, or class 2 with flow control, and without extended formats and expedited data
abbrev pub is_inside : Connect → Bool
is_inside c = (c.class == 0) || ((c.class == 2) && (not (selects_expedited c.parameters.additional)
    && (not (is_without_flow_control c.options) && not (is_extended c.options))))

-- ---- the rows

-- a reference that is in use; it may be free if it is that of a connection that is not judged any more
abbrev pub given_again : (loose : Bool) → Finding
given_again true = TooMany
given_again false = Broke rule.ReferenceInUse

-- CC of right: its CR is not answered; it is allowed by the CR; its reference is not in use; its size is not above the CR's
-- (X.224 section 6.5)
abbrev pub confirm_tests : Connection → (held : Option Class) → (in_use loose : Bool) → Connect → List Test
confirm_tests c held in_use loose confirm =
    (is_silent c.right.phase, Broke rule.WrongForm) ∷ (is_offered c.offer held confirm, Broke rule.BadAnswer)
    ∷ (is_inside confirm, Outside) ∷ (not in_use, given_again loose)
    ∷ (nat_le (code_named confirm.parameters.size) c.offer.size_code, Broke rule.LargerSize) ∷ []

-- its sender has answered the CR, and has not closed the connection
abbrev pub open_tests : Direction → Connection → List Test → List Test
open_tests d c tests =
    (not (is_silent (own d c).phase), Broke rule.UnknownReference) ∷ (is_open (own d c).phase, Broke rule.Closed) ∷ tests

-- DT of class 2 (X.224 sections 6.10 and 6.16)
abbrev pub data2_tests : Direction → Connection → (number octets : ℕ) → List Test
data2_tests d c number octets = open_tests d c
    ((number == (own d c).next, Broke rule.OutOfSequence) ∷ (is_tellable d c, Broke rule.OutOfSequence)
    ∷ (fits_tsdu d c octets, Broke rule.TsduTooLong) ∷ (has_credit d c, Broke rule.NoCredit)
    ∷ (fits_size c.size (octets + 5), Broke rule.SizeExceeded) ∷ [])

-- DT of class 0 (X.224 section 6.3)
abbrev pub data0_tests : Direction → Connection → (octets : ℕ) → List Test
data0_tests d c octets =
    (fits_tsdu d c octets, Broke rule.TsduTooLong) ∷ (fits_size c.size (octets + 3), Broke rule.SizeExceeded) ∷ []

-- AK (X.224 section 6.16)
abbrev pub acknowledge_tests : Direction → Connection → (number credit : ℕ) → List Test
acknowledge_tests d c number credit = open_tests d c
    ((has_passed d c number, Broke rule.OutOfSequence) ∷ (keeps_credit d c number credit, Broke rule.CreditReduced) ∷ [])

-- DR: it refuses the CR, or closes the connection (X.224 sections 6.6 and 6.7)
abbrev pub disconnect_tests : Direction → Connection → List Test
disconnect_tests d c = (is_silent (own d c).phase || is_open (own d c).phase, Broke rule.Closed) ∷ []

-- DC: it answers a DR that closes the connection, and its SRC-REF is its sender's reference (X.224 section 6.7). It is not
-- judged if it may answer a DR that closed nothing. A connection that its sender has not answered has no DR to answer.
abbrev pub is_due : Direction → Connection → (source : ℕ) → Bool
is_due d c source = is_open (own d c).phase && (is_closing (seen d c).phase && (source == (own d c).reference))

abbrev pub disconnected_tests : Direction → Connection → (source : ℕ) → (may_answer : Bool) → List Test
disconnected_tests d c source may_answer =
    (is_due d c source || not may_answer, NotJudged) ∷ (not (is_silent (own d c).phase), Broke rule.UnknownReference)
    ∷ (is_due d c source, Broke rule.NothingToAnswer) ∷ []

-- ER: it refuses the CR, or answers a break of the other side. Which break that is is not looked at, so after any it is not
-- judged (X.224 section 6.22).
abbrev pub error_tests : Direction → (other_erred : Bool) → Connection → List Test
error_tests d other_erred c =
    (is_silent (own d c).phase || not other_erred, NotJudged) ∷ (is_silent (own d c).phase, Broke rule.WrongForm) ∷ []
