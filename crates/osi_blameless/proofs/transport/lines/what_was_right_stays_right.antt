-- What was right stays right if more of the other side has passed: row by row.
-- For the law of that name.
use Rattle.osi_blameless.proofs.transport.Vocabulary.{arith, Bool, length, ℕ, ◌≡◌, lt-ltb, ltb-true, acknowledge, data2, disconnected}
use Rattle.osi_blameless.proofs.transport.Vocabulary.{Value}
use Rattle.osi_blameless.proofs.transport.Vocabulary.{data2_tests, first_failed, other, own, seen, theirs, found, Connection, Course}
use Rattle.osi_blameless.proofs.transport.Vocabulary.{Direction, Left}
use Rattle.osi_blameless.proofs.transport.Vocabulary.{Right, Kept, Half, IsLater, knows}
use Rattle.osi_rules.specs.Sides.{sends}
use Rattle.osi_blameless.proofs.transport.lines.what_is_right_passes_each_test.{passes_each, is_right}

-- ---- what the side knows when its packet begins

data_known : (d : Direction) (c : Connection) (later : Half) (number octets : ℕ) → IsLater (own d c) (seen d c) later →
    first_failed (data2_tests d c number octets) ≡ Kept → first_failed (data2_tests d (knows d later c) number octets) ≡ Kept
data_known d c later number octets h e = grind (arith, passes_each, ltb-true, lt-ltb, is_right)

-- ---- each kind of unit

pub known_stays : (d : Direction) (course : Course) (in_use : Bool) (c : Connection) (later : Half) (v : Value) →
    IsLater (own d c) (seen d c) later → found d course in_use c v ≡ Kept → found d course in_use (knows d later c) v ≡ Kept
known_stays Left course in_use c later (disconnected destination source) h e = grind arith
known_stays Left course in_use c later (data2 destination number end user) h e = data_known Left c later number (length user) h e
known_stays Left course in_use c later (acknowledge credit destination number) h e = grind (arith, passes_each, is_right)
known_stays Left course in_use c later _ h e = e
known_stays Right course in_use c later (disconnected destination source) h e = grind arith
known_stays Right course in_use c later (data2 destination number end user) h e = data_known Right c later number (length user) h e
known_stays Right course in_use c later (acknowledge credit destination number) h e = grind (arith, passes_each, is_right)
known_stays Right course in_use c later _ h e = e

pub passed_stays : (d : Direction) (course : Course) (in_use : Bool) (c : Connection) (later : Half) (v : Value) →
    IsLater (own d c) (theirs d c) later → found d course in_use c v ≡ Kept → found d course in_use (sends (other d) later c) v ≡ Kept
passed_stays d course in_use c later v h e = search arith
