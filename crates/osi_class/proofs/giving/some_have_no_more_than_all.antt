-- The first TSDUs of a list and one more have no more octets than all of them.
-- For `octets_of` of sending, which adds them up.
use Rattle.osi_class.proofs.Vocabulary.{◌≡◌, ℕ, zero, suc, ◌+◌, ◌<◌, ◌≤◌, List, [], ◌∷◌, length, take, map, get_or, arith, sum_by-cons}
use Rattle.osi_class.proofs.Vocabulary.{octets_of_tsdus}

more_octets : (t : List ℕ) (ts : List (List ℕ)) → octets_of_tsdus (t ∷ ts) ≡ length t + octets_of_tsdus ts
more_octets t ts = sum_by-cons length t ts

some_have : {V : Type 0} (items : V → List ℕ) (i : ℕ) (vs : List V) (d : V) → i < length vs →
    octets_of_tsdus (map items (take i vs)) + length (items (get_or vs i d)) ≤ octets_of_tsdus (map items vs)
some_have items i [] d within = absurd (omega arith)
some_have items zero (v ∷ vs) d within = let all = more_octets (items v) (map items vs) in omega (arith, all)
some_have items (suc i) (v ∷ vs) d within = grind (arith, more_octets, some_have items i vs d (omega arith))

pub some_have_no_more : {V : Type 0} (items : V → List ℕ) (i octets : ℕ) (vs : List V) (v : V) → i < length vs → v ≡ get_or vs i v →
    octets ≡ length (items v) → octets_of_tsdus (map items (take i vs)) + octets ≤ octets_of_tsdus (map items vs)
some_have_no_more items i octets vs v within is size = grind (arith, some_have)
