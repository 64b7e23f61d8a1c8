-- Data in parts: how its pieces follow one another, and what is true of them.
use Rattle.std.proofs.Common.{◌≡◌, refl, sym, ap, subst, ℕ, zero, suc, ◌<◌, ◌≤◌, Bool, true, false, if◌then◌else◌, nat_le, List, [], ◌∷◌}
use Rattle.std.proofs.Common.{◌++◌, length, take, drop, map, arith, append_assoc}
use Rattle.osi_message.proofs.Vocabulary.{le-leb, leb-false, lt-leb, length-append, length-drop, First, Middle, part, Words, part_octets}
use Rattle.osi_message.proofs.Vocabulary.{word_octets, pieces, later_parts, parts_of}

-- ---- pieces

same_if : (b : Bool) (o x : List ℕ) (xs ys : List (List ℕ)) → (b ≡ false → xs ≡ ys) →
    (if b then o ∷ [] else x ∷ xs) ≡ (if b then o ∷ [] else x ∷ ys)
same_if b o x xs ys e = grind arith

-- fuel beyond the number of octets makes no difference
same_pieces : (f g size : ℕ) (o : List ℕ) → 0 < size → length o ≤ f → length o ≤ g → pieces f size o ≡ pieces g size o
same_pieces zero zero size o some a b = refl
same_pieces zero (suc g) size o some a b = let e : nat_le (length o) size ≡ true = le-leb (length o) size (omega arith) in rw e refl
same_pieces (suc f) zero size o some a b = let e : nat_le (length o) size ≡ true = le-leb (length o) size (omega arith) in rw e refl
same_pieces (suc f) (suc g) size o some a b =
    same_if (nat_le (length o) size) o (take size o) (pieces f size (drop size o)) (pieces g size (drop size o))
    (λ h. let long : size < length o = leb-false (length o) size h in let d = length-drop size o in
    same_pieces f g size (drop size o) some (omega arith) (omega arith))

-- the pieces of all the octets
abbrev pub all_pieces : ℕ → List ℕ → List (List ℕ)
all_pieces size o = pieces (length o) size o

step : (size : ℕ) (o : List ℕ) → 0 < size → size < length o → all_pieces size o ≡ take size o ∷ all_pieces size (drop size o)
step size o some long = grind (arith, lt-leb, length-drop, same_pieces)

-- there is one piece at least
pub record IsCons (os : List (List ℕ)) : Type 0 where
  pub head : List ℕ
  pub tail : List (List ℕ)
  pub is : os ≡ head ∷ tail

pub some_piece : (fuel size : ℕ) (o : List ℕ) → IsCons (pieces fuel size o)
some_piece fuel size o = grind arith

-- ---- parts

-- those after the first
abbrev pub rest_parts : ℕ → List ℕ → Words
rest_parts size o = later_parts (all_pieces size o)

pub middle_of : (x : List ℕ) (os : List (List ℕ)) → IsCons os → later_parts (x ∷ os) ≡ part Middle x ∷ later_parts os
middle_of x os c = subst (λ (l : List (List ℕ)). later_parts (x ∷ l) ≡ part Middle x ∷ later_parts l) (sym c.is) refl

pub parts_begin : (size : ℕ) (o : List ℕ) → 0 < size → size < length o → parts_of (all_pieces size o) ≡ part First (take size o) ∷
    rest_parts size (drop size o)
parts_begin size o some long = ap parts_of (step size o some long)

-- ---- as they are written

abbrev pub octets_of : Words → List (List ℕ)
octets_of words = map word_octets words

-- What is written, and what is to be written of the rest, is what is to be written of all.
abbrev pub IsParting : (size : ℕ) (all rest : List ℕ) (tsdus : List (List ℕ)) → Type 0
IsParting size all rest tsdus = tsdus ++ octets_of (rest_parts size rest) ≡ octets_of (parts_of (all_pieces size all))

pub parting_begins : (size : ℕ) (all first rest : List ℕ) (tsdus : List (List ℕ)) → 0 < size → size < length all
    → first ≡ take size all → rest ≡ drop size all → tsdus ≡ part_octets First first ∷ [] → IsParting size all rest tsdus
parting_begins size all first rest tsdus some long f r t = grind (arith, parts_begin)

pub parting_goes_on : (size : ℕ) (all rest piece behind : List ℕ) (old new : List (List ℕ)) → 0 < size → size < length rest
    → piece ≡ take size rest → behind ≡ drop size rest → new ≡ old ++ part_octets Middle piece ∷ []
    → IsParting size all rest old → IsParting size all behind new
parting_goes_on size all rest piece behind old new some long f r t h = grind (arith, append_assoc, step, middle_of, some_piece)

-- what has something put after it is not empty
pub some_put : {A : Type 0} (f : A → List ℕ) (new : List A) (old : List (List ℕ)) (tsdu : List ℕ) → map f new ≡ old ++ tsdu ∷ [] →
    0 < length new
some_put f [] old tsdu e = let n = ap length e in let m = length-append old (tsdu ∷ []) in absurd (omega arith)
some_put f (v ∷ new) old tsdu e = omega arith
