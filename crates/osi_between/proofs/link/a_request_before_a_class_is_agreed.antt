-- The CR of a caller before a class is agreed: that it can be written, and its answer.
-- For class 0 and the invariant.
use Rattle.osi_between.specs.Zero.{answer_of}
use Rattle.osi_between.proofs.Vocabulary.{◌≡◌, ℕ, ◌<◌, ◌≤◌, ◌^◌, ◌-◌, false, List, min, Option, Some, None, refl, ap, ◌∙◌, arith}
use Rattle.osi_between.proofs.Vocabulary.{pow-le-pow_right, size_code, Connect, IsConnect, request, confirm, opened_pair, fresh_ends}
use Rattle.osi_between.proofs.Vocabulary.{Standing, zero_standing, selected_size, Class, Zero, Local, begins, IsSendable, proposal_by}
use Rattle.osi_between.proofs.Vocabulary.{proposal, agreed_size, opened_link, IsTsap, AreOpen, IsSettled, IsProposed, length, length-append}
use Rattle.osi_between.proofs.link.a_request_and_its_answer_open_two_links.{asked_sendable, no_octets}

-- ---- it can be written

zero_connect : (caller : Local) (class : Option Class) (calling called : Option (List ℕ)) (n : ℕ) → n < 65536 → IsTsap calling →
    IsTsap called → IsConnect (proposal_by false caller class calling called n)
zero_connect caller class calling called n few fits fits_called = grind (arith, no_octets)

pub proposal_sendable : (caller : Local) (calling called : Option (List ℕ)) (n : ℕ) → n < 65536 → IsTsap calling → IsTsap called →
    IsSendable (request (proposal caller None calling called n))
proposal_sendable caller calling called n few fits fits_called = grind (arith, asked_sendable, length-append, zero_connect)

pub source_is : (n : ℕ) (caller : Local) (c : Connect) → IsProposed n caller c → c.source ≡ n
source_is n caller c a = ap (λ (x : Connect). x.source) a.is ∙ (grind arith)

pub size_is : (n : ℕ) (caller : Local) (c : Connect) → IsProposed n caller c → c.parameters.size ≡ Some (size_code caller.size)
size_is n caller c a = ap (λ (x : Connect). x.parameters.size) a.is ∙ (grind arith)

-- ---- class 0

pub answer_zero_sendable : (caller called : Local) (c : Connect) → IsProposed 1 caller c → IsSendable (confirm 1 (answer_of called c))
answer_zero_sendable caller called c a =
    rw a.is (grind (arith, length, length-append))

-- the links
abbrev zero_link : ℕ → Standing
zero_link code = zero_standing (fresh_ends (2 ^ code - 3))

zero_settled : (code : ℕ) → 7 ≤ code → code ≤ 13 → IsSettled (zero_link code)
zero_settled code least most = grind (arith, pow-le-pow_right {n = 2} (omega arith) most, pow-le-pow_right {n = 2} (omega arith) least)

zero_open : (i j : ℕ) → 7 ≤ i → i ≤ 13 → 7 ≤ j → j ≤ 13 → AreOpen false (opened_pair (zero_link i) (zero_link j))
zero_open i j least most least_j most_j =
    let left = zero_link i in
    let right = zero_link j in
    grind (arith, zero_settled, begins left right (refl, refl, refl) (refl, refl, refl))

pub opens_zero : (caller called : Local) (n : ℕ) (c : Connect) → IsProposed n caller c →
    AreOpen false (opened_pair
    (opened_link Zero (agreed_size (answer_of called c).parameters.size caller) caller (answer_of called c).credit)
    (opened_link Zero (selected_size c called) called c.credit))
opens_zero caller called n c a =
    let w = called.size.at_most in
    rw (size_is n caller c a) (zero_open (min (min (size_code caller.size) (size_code called.size)) (size_code caller.size))
    (min (size_code caller.size) (size_code called.size)) (omega arith) (omega arith) (omega arith) (omega arith))
