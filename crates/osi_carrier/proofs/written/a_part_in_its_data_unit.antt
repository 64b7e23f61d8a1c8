-- A part of a TSDU in the data unit that a link lets a caller send, if the TSDU is given in two pieces.
-- For `send_whole`, `write_parts` and `write_headed` of links.
use Rattle.osi_carrier.proofs.Vocabulary.{le-leb, length-take-le, min, take_all, Slot, first_in, number_in, octets_of, part_under, ◌≡◌, ℕ}
use Rattle.osi_carrier.proofs.Vocabulary.{◌+◌, ◌-◌, ◌≤◌, Bool, true, eqb, List, ◌++◌, length, take, drop, Option, arith, length-append}
use Rattle.osi_carrier.proofs.Vocabulary.{length-drop, take-append-add, drop-append-add}

pub part_octets : (number : Option ℕ) (end : Bool) (octets : List ℕ) → octets_of (part_under number end octets) ≡ length octets
part_octets number end octets = grind arith

-- a TSDU that fits one unit is sent in one
pub whole_part : (slot : Slot) (limit : ℕ) (tsdu : List ℕ) → length tsdu ≤ limit →
    first_in slot limit tsdu ≡ part_under (number_in slot) true tsdu
whole_part slot limit tsdu fits = grind (arith, le-leb, take_all)

-- the first part of two pieces: all of the first, and as much of the second as a unit then carries
pub record IsFirst (slot : Slot) (limit n : ℕ) (head body part rest : List ℕ) (end : Bool) : Type 0 where
  pub unit : part_under (number_in slot) end (head ++ part) ≡ first_in slot limit (head ++ body)
  pub carries : octets_of (first_in slot limit (head ++ body)) ≡ length head + n
  pub left : drop (octets_of (first_in slot limit (head ++ body))) (head ++ body) ≡ rest

pub first_cut : (slot : Slot) (limit n : ℕ) (head body part rest : List ℕ) (end : Bool) → length head ≤ limit →
    n ≡ min (limit - length head) (length body) →
    part ≡ take n body → rest ≡ drop n body → end ≡ eqb (length rest) 0 → IsFirst slot limit n head body part rest end
first_cut slot limit n head body part rest end few is first behind last =
    search (
      arith,
      length-append head body,
      take-append-add head body n,
      length-drop n body,
      length-append head part,
      length-take-le n body (omega arith),
      drop-append-add head body n,
    )
