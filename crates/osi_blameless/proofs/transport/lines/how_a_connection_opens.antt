-- A CC of a called end is right, and after a CC of class 2 the connection is open as a line begins.
-- For the law of that name.
use Rattle.osi_blameless.proofs.transport.Vocabulary.{ap, arith, Bool, false, IfSome, List, None, Option, option_map, refl, Some, true, ℕ}
use Rattle.osi_blameless.proofs.transport.Vocabulary.{◌^◌, ◌≡◌, ◌≤◌}
use Rattle.osi_blameless.proofs.transport.Vocabulary.{pow-le-pow_right, ◌&&◌, ◌||◌, window_units, confirm, Connect, IsConnect, accept}
use Rattle.osi_blameless.proofs.transport.Vocabulary.{proposes}
use Rattle.osi_blameless.proofs.transport.Vocabulary.{selected_by, selected_size, Class, Two, Zero, Local, acceptance, agreed_size}
use Rattle.osi_blameless.proofs.transport.Vocabulary.{opened_link, proposal}
use Rattle.osi_blameless.proofs.transport.Vocabulary.{proposal_by, unit_octets, asked_by, found, offer_of, sent_on, silent_half, Connection}
use Rattle.osi_blameless.proofs.transport.Vocabulary.{Course, Left}
use Rattle.osi_blameless.proofs.transport.Vocabulary.{Right, Kept, IsOpened, opened_half, opened_line}
use Rattle.osi_blameless.proofs.transport.small_facts_that_many_lemmas_use.{and_first, and_second}
use Rattle.osi_blameless.proofs.transport.lines.what_is_right_passes_each_test.{is_right}

-- ---- what was selected

two_selected : (c : Connect) (local : Local) (size : Option ℕ) → selected_by c local ≡ accept Two size →
    (proposes c 2 ≡ true) × (selected_size c local ≡ size)
two_selected c local size e = search (arith, and_first, and_second)

zero_selected : (c : Connect) (local : Local) (size : Option ℕ) → selected_by c local ≡ accept Zero size →
    (proposes c 0 ≡ true) × (selected_size c local ≡ size)
zero_selected c local size e = search (arith, and_second)

-- ---- a CC of this end is right

pub or_left : (a b : Bool) → a ≡ true → (a || b) ≡ true
or_left a b h = rw h refl

pub both : (a b : Bool) → a ≡ true → b ≡ true → (a && b) ≡ true
both a b h k = rw (h, k) refl

pub two_right : (local : Local) (c : Connect) (size : Option ℕ) (r : ℕ) (t : Connection) (course : Course) →
    selected_by c local ≡ accept Two size →
    t.offer ≡ offer_of c → t.right ≡ silent_half → found Right course false t (confirm c.source (acceptance Two size c local r)) ≡ Kept
two_right local c size r t course e offer silent = search (arith, or_left, is_right, two_selected c local size e)

pub zero_right : (local : Local) (c : Connect) (size : Option ℕ) (r : ℕ) (t : Connection) (course : Course) →
    selected_by c local ≡ accept Zero size → t.offer ≡ offer_of c → t.right ≡ silent_half → course.class ≡ None →
    found Right course false t (confirm c.source (acceptance Zero size c local r)) ≡ Kept
zero_right local c size r t course e offer silent none = grind (arith, or_left, is_right, both, zero_selected c local size e)

-- ---- sizes

at_least_five : (o : Option ℕ) → IfSome o (λ code. 7 ≤ code) → 5 ≤ unit_octets o
at_least_five None h = omega arith
at_least_five (Some code) h = let p : 2 ^ 7 ≤ 2 ^ code = pow-le-pow_right {n = 2} (omega arith) h in omega arith

at_size : (o : Option ℕ) → IfSome (option_map (λ code. 2 ^ code) o) (λ most. unit_octets o ≤ most)
at_size o = grind arith

-- ---- the line

pub opens_by_the_cc_that_it_puts : (local : Local) (c : Connect) (size : Option ℕ) (r : ℕ) (t : Connection) → IsConnect c →
    selected_by c local ≡ accept Two size →
    t.left ≡ opened_half c.source c.credit → t.right ≡ silent_half → t.seen_by_left.next ≡ 0 →
    IsOpened Right r c.source
    (opened_line (opened_link Two size local c.credit) (sent_on Right (confirm c.source (acceptance Two size c local r)) t))
opens_by_the_cc_that_it_puts local c size r t range e left right noted = search (arith, two_selected, at_size, at_least_five)

pub opens_by_the_cc_that_comes : (local : Local) (c : Connect) (r : ℕ) (t : Connection) → IsConnect c →
    t.left ≡ opened_half r (window_units local.window) →
    t.right ≡ silent_half → t.seen_by_right.next ≡ 0 →
    IsOpened Left r c.source
    (opened_line (opened_link Two (agreed_size c.parameters.size local) local c.credit) (sent_on Right (confirm r c) t))
opens_by_the_cc_that_comes local c r t range left right noted = grind (arith, at_least_five, pow-le-pow_right)

-- the CR of this end, as the judge knows it
pub asked_so : (local : Local) (held : Option Class) (calling called : Option (List ℕ)) (r : ℕ) → local.class2 ≡ true →
    (asked_by (proposal local held calling called r)).left ≡ opened_half r (window_units local.window)
asked_so local held calling called r e = ap (λ (b : Bool). (asked_by (proposal_by b local held calling called r)).left) e
