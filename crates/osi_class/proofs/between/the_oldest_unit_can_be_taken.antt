-- Between links that agree, the oldest unit in flight can be taken.
use Rattle.std.proofs.Common.{arith, ◌≡◌, ℕ, Bool, List, [], ◌∷◌, Some, None, Ok, ap}
use Rattle.osi_class.proofs.Vocabulary.{flat_map, AllByRecursion, LinkPair, swapped, parts_under_way, under_way, HasWholeTsdus, IsShortTsdu}
use Rattle.osi_class.proofs.Vocabulary.{TakesOldest, unit_numbers, ack_numbers, direction, Agree, AgreeZero, restored, with_part, joined}
use Rattle.osi_class.proofs.Vocabulary.{Standing, Given, part0, part2, ack, taken, taken_flow, unit_of, given_in}
use Rattle.osi_class.proofs.between.parts_stay_in_order.{append_nil}
use Rattle.osi_class.proofs.between.owed_acks_keep_the_counts.{unit_is_awaited, ack_is_taken}
use Rattle.osi_class.proofs.between.no_tsdu_becomes_too_long.{not_too_long}

pub said : (destination : ℕ) (unit : Given) → given_in (unit_of destination unit) ≡ unit ∷ []
said destination unit = grind arith

oldest : (p : LinkPair) (g : Given) (rest : List Given) (destination : ℕ) (new : Standing) → p.rightward ≡ g ∷ rest →
    taken p.right (unit_of destination g) ≡ Ok new → TakesOldest p (unit_of destination g) rest
oldest p g rest destination new e is = grind (arith, append_nil, said)

first_fits : (p : LinkPair) (end : Bool) (octets : List ℕ) (rest : List Given) → HasWholeTsdus p →
    AllByRecursion IsShortTsdu (under_way p) →
    parts_under_way p.rightward ≡ (end, octets) ∷ parts_under_way rest →
    joined p.right.ends.joining end octets ≡ Ok (with_part p.right.ends.joining end octets)
first_fits p end octets rest whole short e = not_too_long p end octets (parts_under_way rest) whole short e

pub oldest_in_class_0 : (p : LinkPair) (unit : Given) (rest : List Given) (destination : ℕ) → AgreeZero p → HasWholeTsdus p →
    AllByRecursion IsShortTsdu (under_way p) → p.rightward ≡ unit ∷ rest → TakesOldest p (unit_of destination unit) rest
oldest_in_class_0 p (part0 end octets) rest destination a whole short e =
    let ends = p.right.ends in
    let fits = first_fits p end octets rest whole short (ap (λ (us : List Given). parts_under_way us) e) in
    oldest p (part0 end octets) rest destination
    (record { ends = record ends { joining = with_part ends.joining end octets }; flow = None }) e
    (grind arith)
oldest_in_class_0 p (part2 number end octets) rest destination a whole short e = grind arith
oldest_in_class_0 p (ack number credit) rest destination a whole short e = grind arith

pub oldest_in_class_2 : (p : LinkPair) (units back : ℕ) (unit : Given) (rest : List Given) (destination : ℕ) → Agree p units →
    Agree (swapped p) back → HasWholeTsdus p →
    AllByRecursion IsShortTsdu (under_way p) → p.rightward ≡ unit ∷ rest → TakesOldest p (unit_of destination unit) rest
oldest_in_class_2 p units back (part0 end octets) rest destination a b whole short e = grind arith
oldest_in_class_2 p units back (part2 number end octets) rest destination a b whole short e =
    let ends = p.right.ends in
    let r = a.right_flow in
    let fits = first_fits p end octets rest whole short (ap (λ (us : List Given). parts_under_way us) e) in
    let awaited = unit_is_awaited (direction a.left_flow p r) a.known number (flat_map unit_numbers rest) a.in_step
    (ap (λ (us : List Given). flat_map unit_numbers us) e) in
    oldest p (part2 number end octets) rest destination
    (record { ends = record ends { joining = with_part ends.joining end octets }; flow = Some (taken_flow r) }) e
    (grind arith)
oldest_in_class_2 p units back (ack number credit) rest destination a b whole short e =
    let ends = p.right.ends in
    let f = b.left_flow in
    let is = ack_is_taken (direction f (swapped p) b.right_flow) b.known (number, credit) (flat_map ack_numbers rest) b.in_step
    (ap (λ (us : List Given). flat_map ack_numbers us) e) in
    oldest p (ack number credit) rest destination (record { ends = ends; flow = Some (record f { sender = restored f.sender }) }) e
    (grind arith)
