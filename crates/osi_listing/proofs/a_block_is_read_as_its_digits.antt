-- A block of digits gives the octets that reading them one by one gives: for the functions of `runs`.
use Rattle.osi_listing.proofs.Vocabulary.{◌≡◌, ◌∙◌, ℕ, ◌+◌, ◌*◌, ◌%◌, ◌<◌, ◌≤◌, List, [], ◌∷◌, ◌++◌, length, take, drop, slice_index}
use Rattle.osi_listing.proofs.Vocabulary.{Option, Some, None, refl, arith, append_assoc, append-nil, drop_all, drop_more, take_all}
use Rattle.osi_listing.proofs.Vocabulary.{hex_digit_value, octets_from}
use Rattle.std.proofs.Common.{zero, suc, max, slice_set}
use Rattle.std.proofs.lemmas.List.{take_more_set}
use Rattle.osi_listing.specs.Runs.{greatest, pairs_joined, value_or_255, values_of}
use Rattle.osi_listing.specs.Digits.{octet_by}
use Rattle.osi_listing.proofs.two_digits_make_an_octet.{pair_read, with_octet}

-- ---- the octets of all characters

two_are : (x y : Option ℕ) (more : Option (List ℕ)) (octets : List ℕ) → value_or_255 x < 16 → value_or_255 y < 16 → more ≡ Some octets →
    with_octet (octet_by x y) more ≡ Some ((value_or_255 x * 16 + value_or_255 y) ∷ octets)
two_are None y more octets a b e = absurd (omega arith)
two_are (Some h) None more octets a b e = absurd (omega arith)
two_are (Some h) (Some l) more octets a b e = rw e refl

pub block_read : (cs : List ℕ) → length cs % 2 ≡ 0 → greatest (values_of cs) < 16 → octets_from cs None ≡ Some (pairs_joined (values_of cs))
block_read [] even few = refl
block_read (a ∷ []) even few = absurd (omega arith)
block_read (a ∷ b ∷ cs) even few =
    pair_read a b cs
    ∙ two_are (hex_digit_value a) (hex_digit_value b) (octets_from cs None) (pairs_joined (values_of cs)) (omega arith) (omega arith)
    (block_read cs (omega arith) (omega arith))

-- ---- the values, one after the other

pub values_go_on : (each cs : List ℕ) (at v : ℕ) → at < length each → at < length cs →
    v ≡ value_or_255 (hex_digit_value (slice_index cs at)) → take at each ++ values_of (drop at cs) ≡ values_of cs →
    take (at + 1) (slice_set each at v) ++ values_of (drop (at + 1) cs) ≡ values_of cs
values_go_on each cs at v room some e so_far = grind (arith, append_assoc, drop_more, take_more_set)

pub greatest_goes_on : (cs : List ℕ) (at most v : ℕ) → at < length cs → v ≡ value_or_255 (hex_digit_value (slice_index cs at)) →
    max most (greatest (values_of (drop at cs))) ≡ greatest (values_of cs) →
    max (max most v) (greatest (values_of (drop (at + 1) cs))) ≡ greatest (values_of cs)
greatest_goes_on cs at most v some e so_far = grind (arith, drop_more)

pub values_end : (each cs : List ℕ) (at : ℕ) → length each ≤ at → length cs ≤ at →
    take at each ++ values_of (drop at cs) ≡ values_of cs → each ≡ values_of cs
values_end each cs at full all so_far = grind (arith, append-nil, drop_all, take_all)

-- ---- the pairs, one after the other

pub at_most : (values : List ℕ) (k : ℕ) → slice_index values k ≤ greatest values
at_most [] k = omega arith
at_most (v ∷ values) zero = omega arith
at_most (v ∷ values) (suc k) = let rest = at_most values k in omega arith

pub pairs_go_on : (octets values : List ℕ) (at v : ℕ) → at < length octets → 2 * at + 1 < length values →
    v ≡ slice_index values (2 * at) * 16 + slice_index values (2 * at + 1) →
    take at octets ++ pairs_joined (drop (2 * at) values) ≡ pairs_joined values →
    take (at + 1) (slice_set octets at v) ++ pairs_joined (drop (2 * (at + 1)) values) ≡ pairs_joined values
pairs_go_on octets values at v room some e so_far = grind (arith, append_assoc, drop_more, take_more_set)

pub pairs_end : (octets values : List ℕ) (at : ℕ) → length octets ≤ at → length values ≤ 2 * at →
    take at octets ++ pairs_joined (drop (2 * at) values) ≡ pairs_joined values → octets ≡ pairs_joined values
pairs_end octets values at full all so_far = grind (arith, append-nil, drop_all, take_all)
