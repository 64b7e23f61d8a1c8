-- Lists of octets: joining, cutting and filling keep their bound.
use Rattle.std.proofs.Common.{ℕ, zero, suc, ◌<◌, List, [], ◌∷◌, ◌++◌, take, drop, replicate, arith}
use Rattle.osi_unit.specs.Octets.{IsOctets}

pub octets_nil : IsOctets []
octets_nil i = omega arith

pub octets_cons : (x : ℕ) (xs : List ℕ) → x < 256 → IsOctets xs → IsOctets (x ∷ xs)
octets_cons x xs h hs h2 = grind arith

pub octets_append : (xs ys : List ℕ) → IsOctets xs → IsOctets ys → IsOctets (xs ++ ys)
octets_append [] ys h k = k
octets_append (x ∷ xs) ys h k = octets_cons x (xs ++ ys) (h 0) (octets_append xs ys (λ i. h (suc i)) k)

-- an element of the first part; past its end, 0 is read
pub octets_left : (xs ys : List ℕ) → IsOctets (xs ++ ys) → IsOctets xs
octets_left [] ys h = octets_nil
octets_left (x ∷ xs) ys h = octets_cons x xs (h 0) (octets_left xs ys (λ i. h (suc i)))

pub octets_right : (xs ys : List ℕ) → IsOctets (xs ++ ys) → IsOctets ys
octets_right [] ys h = h
octets_right (x ∷ xs) ys h = octets_right xs ys (λ i. h (suc i))

pub octets_take : (n : ℕ) (xs : List ℕ) → IsOctets xs → IsOctets (take n xs)
octets_take zero xs h = octets_nil
octets_take (suc n) [] h = octets_nil
octets_take (suc n) (x ∷ xs) h = octets_cons x (take n xs) (h 0) (octets_take n xs (λ i. h (suc i)))

pub octets_drop : (n : ℕ) (xs : List ℕ) → IsOctets xs → IsOctets (drop n xs)
octets_drop zero xs h = h
octets_drop (suc n) [] h = octets_nil
octets_drop (suc n) (x ∷ xs) h = octets_drop n xs (λ i. h (suc i))

pub octets_zeros : (n : ℕ) → IsOctets (replicate n 0)
octets_zeros zero = octets_nil
octets_zeros (suc n) = octets_cons 0 (replicate n 0) (omega arith) (octets_zeros n)
