-- Octets that are cut into pieces, each after its head: the TSDUs one after the other.
-- For `room` and `copies` of pieces, `write_some` of links, and `send_pieces_open` of the switch.
use Rattle.osi_carrier.proofs.Vocabulary.{le-leb, leb-true, leb-false, length-take-le, sum_by-cons, list_any, lengths_error, ◌≡◌, refl, ℕ}
use Rattle.osi_carrier.proofs.Vocabulary.{zero, suc, ◌+◌, ◌^◌, ◌<◌, ◌≤◌, Bool, false, nat_le, List, [], ◌∷◌, ◌++◌, length, take, drop}
use Rattle.osi_carrier.proofs.Vocabulary.{arith, length-append, length-drop, if◌then◌else◌, nat_lt, Option, Some, None, IfSome, IsSome}
use Rattle.osi_carrier.proofs.Vocabulary.{lt-leb, le-ltb, more_units, parts_some, parts_needed, units_needed, octets_of_tsdus, Room, headed}
use Rattle.osi_carrier.proofs.Vocabulary.{tsdus_from, tsdus_in, FitsTsdu, FitTsdus, Pieces}
use Rattle.std.proofs.lemmas.List.{length-take}

-- ---- the next TSDU

same_if : (b : Bool) (alone first : List ℕ) (xs ys : List (List ℕ)) → (b ≡ false → xs ≡ ys) →
    (if b then alone ∷ [] else first ∷ xs) ≡ (if b then alone ∷ [] else first ∷ ys)
same_if b alone first xs ys e = grind arith

-- fuel beyond the number of octets makes no difference
same_headed : (f g : ℕ) (h m l : List ℕ) (size : ℕ) (o : List ℕ) → 0 < size → length o ≤ f → length o ≤ g →
    headed f h m l size o ≡ headed g h m l size o
same_headed zero zero h m l size o some a b = refl
same_headed zero (suc g) h m l size o some a b = grind (arith, le-leb)
same_headed (suc f) zero h m l size o some a b = grind (arith, le-leb)
same_headed (suc f) (suc g) h m l size o some a b =
    same_if (nat_le (length o) size) (l ++ o) (h ++ take size o) (headed f m m l size (drop size o)) (headed g m m l size (drop size o))
    (λ no. let long : size < length o = leb-false (length o) size no in let d = length-drop size o in
    same_headed f g m m l size (drop size o) some (omega arith) (omega arith))

-- the next of several
pub cut_next : (p : Pieces) (head rest piece behind : List ℕ) → 0 < p.size → p.size < length rest → piece ≡ take p.size rest →
    behind ≡ drop p.size rest → tsdus_from p head rest ≡ (head ++ piece) ∷ tsdus_from p p.middle.now behind
cut_next p head rest piece behind some long first after = grind (arith, lt-leb, length-drop, same_headed)

end_of : (n : ℕ) (h m l : List ℕ) (size : ℕ) (o : List ℕ) → length o ≤ size → headed n h m l size o ≡ (l ++ o) ∷ []
end_of n h m l size o short = grind (arith, le-leb)

-- ---- their units and octets

pub more_octets : (t : List ℕ) (ts : List (List ℕ)) → octets_of_tsdus (t ∷ ts) ≡ length t + octets_of_tsdus ts
more_octets t ts = sum_by-cons length t ts

-- Those before this head are counted.
pub record IsCounted (p : Pieces) (limit units octets : ℕ) (head rest : List ℕ) : Type 0 where
  pub fits : FitsTsdu p.size head
  pub units_are : units + units_needed limit (tsdus_from p head rest) ≡ units_needed limit (tsdus_in p)
  pub octets_are : octets + octets_of_tsdus (tsdus_from p head rest) ≡ octets_of_tsdus (tsdus_in p)

pub counting_first : (p : Pieces) (limit : ℕ) → FitTsdus p → IsCounted p limit 0 0 p.first.now p.octets.now
counting_first p limit fit = record { fits = fit.first; units_are = omega arith; octets_are = omega arith }

pub counting_next : (p : Pieces) (limit u o v q : ℕ) (head rest behind : List ℕ) → FitTsdus p → IsCounted p limit u o head rest →
    p.size < length rest → behind ≡ drop p.size rest → v ≡ u + parts_needed limit (length head + p.size) → q ≡ o + (length head + p.size)
    → IsCounted p limit v q p.middle.now behind
counting_next p limit u o v q head rest behind fit h long after units octets =
    grind (arith, cut_next, length-append, length-take-le, more_units, more_octets)

pub record AreCounted (p : Pieces) (limit units octets : ℕ) : Type 0 where
  pub units_are : units ≡ units_needed limit (tsdus_in p)
  pub octets_are : octets ≡ octets_of_tsdus (tsdus_in p)

pub counting_last : (p : Pieces) (limit u o v q : ℕ) (head rest : List ℕ) → IsCounted p limit u o head rest → length rest ≤ p.size →
    v ≡ u + parts_needed limit (length p.last.now + length rest) → q ≡ o + (length p.last.now + length rest) → AreCounted p limit v q
counting_last p limit u o v q head rest h short units octets = grind (arith, end_of, length-append, more_units, more_octets)

-- what is counted, if it fits a usize
pub counted_units : (p : Pieces) (limit u o : ℕ) (head rest : List ℕ) (r : Option Room) → IsCounted p limit u o head rest →
    length rest ≤ p.size → IfSome r (λ x. x.units ≡ u + parts_needed limit (length p.last.now + length rest)) →
    IfSome r (λ x. x.units ≡ units_needed limit (tsdus_in p))
counted_units p limit u o head rest None h short units = tt
counted_units p limit u o head rest (Some room) h short units =
    (counting_last p limit u o room.units (o + (length p.last.now + length rest)) head rest h short units refl).units_are

pub counted_octets : (p : Pieces) (limit u o : ℕ) (head rest : List ℕ) (r : Option Room) → IsCounted p limit u o head rest →
    length rest ≤ p.size → IfSome r (λ x. x.octets ≡ o + (length p.last.now + length rest)) →
    IfSome r (λ x. x.octets ≡ octets_of_tsdus (tsdus_in p))
counted_octets p limit u o head rest None h short octets = tt
counted_octets p limit u o head rest (Some room) h short octets =
    (counting_last p limit u o (u + parts_needed limit (length p.last.now + length rest)) room.octets head rest h short refl
    octets).octets_are

pub counted_some : (limit u octets : ℕ) (r : Option Room) → IfSome r (λ x. x.units ≡ u + parts_needed limit octets) →
    IfSome r (λ x. 0 < x.units)
counted_some limit u octets r units = grind (arith, parts_some)

-- of a TSDU before the last, if what is counted fits a usize
pub fits_next : (p : Pieces) (limit u o : ℕ) (head rest : List ℕ) (r : Option Room) → FitTsdus p → IsCounted p limit u o head rest →
    p.size < length rest →
    (u + parts_needed limit (length head + p.size) < 2 ^ 64 → o + (length head + p.size) < 2 ^ 64 → IsSome r) →
    units_needed limit (tsdus_in p) < 2 ^ 64 → octets_of_tsdus (tsdus_in p) < 2 ^ 64 → IsSome r
fits_next p limit u o head rest r fit h long fits units octets =
    let more = counting_next p limit u o (u + parts_needed limit (length head + p.size)) (o + (length head + p.size)) head rest
    (drop p.size rest) fit h long refl refl refl in
    grind arith

-- and of the last
pub fits_last : (p : Pieces) (limit u o : ℕ) (head rest : List ℕ) (r : Option Room) → IsCounted p limit u o head rest →
    length rest ≤ p.size →
    (u + parts_needed limit (length p.last.now + length rest) < 2 ^ 64 → o + (length p.last.now + length rest) < 2 ^ 64 → IsSome r) →
    units_needed limit (tsdus_in p) < 2 ^ 64 → octets_of_tsdus (tsdus_in p) < 2 ^ 64 → IsSome r
fits_last p limit u o head rest r h short fits units octets =
    let all = counting_last p limit u o (u + parts_needed limit (length p.last.now + length rest)) (o + (length p.last.now + length rest))
    head rest h short refl refl in
    grind arith

-- ---- their lengths

none_long : (n : ℕ) (h m l : List ℕ) (size : ℕ) (o : List ℕ) → length o ≤ n → 0 < size → FitsTsdu size h → FitsTsdu size m →
    FitsTsdu size l → list_any (λ (t : List ℕ). nat_lt 1048576 (length t)) (headed n h m l size o) ≡ false
none_long zero h m l size o within some first middle last = grind (arith, length-append, le-ltb)
none_long (suc n) h m l size o within some first middle last =
    let d = length-drop size o in
    grind (arith, length-take, length-append, le-ltb, leb-true, none_long n m m l size (drop size o) (omega arith) some middle middle last)

-- none of them is too long
pub all_fit : (p : Pieces) → FitTsdus p → lengths_error (tsdus_in p) ≡ None
all_fit p fit = grind (arith, none_long)
