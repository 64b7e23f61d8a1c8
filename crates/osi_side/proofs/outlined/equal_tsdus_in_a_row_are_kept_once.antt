-- TSDUs of which equal ones in a row are kept once: how many there are, which one has a place, one more, and one fewer.
-- For the value Heard.
use Rattle.osi_side.proofs.Vocabulary.{◌≡◌, ◌∙◌, refl, sym, ap, ℕ, zero, suc, ◌+◌, ◌-◌, ◌<◌, ◌≤◌, List, [], ◌∷◌, ◌++◌, length, get_or}
use Rattle.osi_side.proofs.Vocabulary.{arith, Bool, true, false, ◌&&◌, ◌==◌, replicate, get_or_append_left}
use Rattle.osi_side.proofs.Vocabulary.{get_or-append_right, get_or-replicate, length-append, length-replicate, append-nil, replicate_more}
use Rattle.osi_side.proofs.Vocabulary.{eq-eqb, eqb-true, eqb, pointwise, Run, is_same, once, once_behind, room_in, AreApart, AreFrom}
use Rattle.osi_side.proofs.Vocabulary.{HasPlace, IsOther, begin_at, begin_in, last_from, last_in, room_of, spread}
use Rattle.std.proofs.Common.{append_assoc}
use Rattle.osi_side.specs.Runs.{tsdu_at}

-- ---- how many there are

spread_length : (at : ℕ) (runs : List Run) (count : ℕ) → AreFrom at runs count → at + length (spread runs count) ≡ count
spread_length at [] count h = omega (arith, h)
spread_length at (r ∷ runs) count h = grind (arith, length-append, length-replicate, spread_length (begin_in runs count) runs count h.2)

pub counted_in : (runs : List Run) (count : ℕ) (value : List (List ℕ)) → AreFrom 0 runs count → spread runs count ≡ value
    → count ≡ length value
counted_in runs count value h v = (grind (arith, spread_length)) ∙ ap (λ (x : List (List ℕ)). length x) v

-- ---- which one has a place

begin_later : (at : ℕ) (runs : List Run) (count i : ℕ) → AreFrom at runs count → at ≤ begin_at runs count i
begin_later at [] count i h = omega (arith, h)
begin_later at (r ∷ runs) count zero h = omega (arith, h.0)
begin_later at (r ∷ runs) count (suc i) h = let l = begin_later (begin_in runs count) runs count i h.2 in omega (arith, l, h.1)

pub begin_end : (runs : List Run) (count : ℕ) → begin_at runs count (length runs) ≡ count
begin_end [] count = refl
begin_end (r ∷ runs) count = begin_end runs count

pub begin_read : (runs : List Run) (count i : ℕ) (r : Run) → i < length runs → r ≡ get_or runs i r → r.from ≡ begin_at runs count i
begin_read [] count i r l e = absurd (omega (arith, l))
begin_read (x ∷ runs) count zero r l e = ap (λ (y : Run). y.from) e
begin_read (x ∷ runs) count (suc i) r l e = begin_read runs count i r (omega (arith, l)) e

pub tsdu_read : (runs : List Run) (i : ℕ) (r : Run) → i < length runs → r ≡ get_or runs i r → r.tsdu ≡ tsdu_at runs i
tsdu_read [] i r l e = absurd (omega (arith, l))
tsdu_read (x ∷ runs) zero r l e = ap (λ (y : Run). y.tsdu) e
tsdu_read (x ∷ runs) (suc i) r l e = tsdu_read runs i r (omega (arith, l)) e

found_from : (at place : ℕ) (runs : List Run) (count i : ℕ) → AreFrom at runs count → i < length runs → begin_at runs count i ≤ at + place
    → at + place < begin_at runs count (suc i) → get_or (spread runs count) place [] ≡ tsdu_at runs i
found_from at place [] count i h l b e = absurd (omega (arith, l))
found_from at place (r ∷ runs) count zero h l b e = grind (arith, length-replicate, get_or_append_left, get_or-replicate)
found_from at place (r ∷ runs) count (suc i) h l b e =
    let n = begin_in runs count - r.from in
    let many = length-replicate n r.tsdu in
    let behind : n ≤ place = grind (arith, begin_later, b, h.0, h.1) in
    get_or-append_right (replicate n r.tsdu) (spread runs count) n place [] many behind
    ∙ found_from (begin_in runs count) (place - n) runs count i h.2 (omega (arith, l)) (omega (arith, behind, b, h.0, h.1))
    (omega (arith, behind, e, h.0, h.1))

-- ---- one more

pub more_of_last : (at : ℕ) (runs : List Run) (count : ℕ) → AreFrom at runs count → 0 < length runs
    → spread runs (count + 1) ≡ spread runs count ++ last_in runs ∷ []
more_of_last at [] count h l = absurd (omega (arith, l))
more_of_last at (r ∷ []) count h l = grind (arith, append-nil, replicate_more)
more_of_last at (r ∷ s ∷ runs) count h l = grind (arith, append_assoc, more_of_last s.from (s ∷ runs) count h.2 (omega arith))

pub last_goes_on : (at : ℕ) (runs : List Run) (count : ℕ) → AreFrom at runs count → 0 < length runs → AreFrom at runs (count + 1)
last_goes_on at [] count h l = absurd (omega (arith, l))
last_goes_on at (r ∷ []) count h l = (h.0, omega (arith, h.1), refl)
last_goes_on at (r ∷ s ∷ runs) count h l = (h.0, h.1, last_goes_on s.from (s ∷ runs) count h.2 (omega arith))

pub one_added : (runs : List Run) (x : Run) (count : ℕ) → x.from ≡ count
    → spread (runs ++ x ∷ []) (count + 1) ≡ spread runs count ++ x.tsdu ∷ []
one_added [] x count e = grind arith
one_added (r ∷ runs) x count e = grind (arith, append_assoc, one_added runs x count e)

pub a_run_begins : (at : ℕ) (runs : List Run) (x : Run) (count : ℕ) → AreFrom at runs count → x.from ≡ count
    → AreFrom at (runs ++ x ∷ []) (count + 1)
a_run_begins at [] x count h e = (e ∙ sym h, omega (arith, h), refl)
a_run_begins at (r ∷ runs) x count h e = grind (arith, a_run_begins (begin_in runs count) runs x count h.2 e)

-- ---- equal ones in a row

pub same_as_itself : (t : List ℕ) → is_same t t ≡ true
same_as_itself [] = refl
same_as_itself (x ∷ t) = λ i. eq-eqb x x refl i && same_as_itself t i

one_of : (xs ys : List ℕ) → is_same xs ys ≡ true → xs ≡ ys
one_of [] [] e = refl
one_of [] (y ∷ ys) e = absurd (cc)
one_of (x ∷ xs) [] e = absurd (cc)
one_of (x ∷ xs) (y ∷ ys) e =
    let h = both_true (x == y) (is_same xs ys) e in
    λ i. eqb-true x y h.0 i ∷ one_of xs ys h.1 i
  where
    both_true : (a b : Bool) → (a && b) ≡ true → (a ≡ true) × (b ≡ true)
    both_true true b e = (refl, e)
    both_true false b e = absurd (cc)

pub same_by_pairs : (xs ys : List ℕ) → pointwise eqb xs ys ≡ is_same xs ys
same_by_pairs [] [] = refl
same_by_pairs [] (y ∷ ys) = refl
same_by_pairs (x ∷ xs) [] = refl
same_by_pairs (x ∷ xs) (y ∷ ys) = ap (λ (b : Bool). (x == y) && b) (same_by_pairs xs ys)

pub apart_more : (runs : List Run) (x : Run) → AreApart runs → (0 < length runs → is_same (last_in runs) x.tsdu ≡ false)
    → AreApart (runs ++ x ∷ [])
apart_more [] x h n = (tt, tt)
apart_more (r ∷ []) x h n = (n (omega arith), (tt, tt))
apart_more (r ∷ s ∷ runs) x h n = (h.0, apart_more (s ∷ runs) x h.1 (λ l. n (omega arith)))

skipped : (n : ℕ) (t : List ℕ) (rest : List (List ℕ)) → once_behind t (replicate n t ++ rest) ≡ once_behind t rest
skipped zero t rest = refl
skipped (suc n) t rest = grind (arith, same_as_itself, skipped n t rest)

one_then : (n : ℕ) (t : List ℕ) → 0 < n → replicate n t ≡ t ∷ replicate (n - 1) t
one_then n t l = grind arith

kept_behind : (at : ℕ) (before : List ℕ) (runs : List Run) (count : ℕ) → AreFrom at runs count → IsOther before runs → AreApart runs
    → length (once_behind before (spread runs count)) ≡ length runs
kept_behind at before [] count h o a = refl
kept_behind at before (r ∷ runs) count h o a =
    grind (arith, one_then, skipped, kept_behind (begin_in runs count) r.tsdu runs count h.2 a.0 a.1)

pub kept_once : (runs : List Run) (count : ℕ) → AreFrom 0 runs count → AreApart runs → length runs ≡ length (once (spread runs count))
kept_once [] count h a = refl
kept_once (r ∷ runs) count h a = grind (arith, one_then, skipped, kept_behind)

-- ---- the room that they take

room_behind : (at : ℕ) (before : List ℕ) (runs : List Run) (count : ℕ) → AreFrom at runs count → IsOther before runs → AreApart runs
    → room_in (once_behind before (spread runs count)) ≡ room_of runs
room_behind at before [] count h o a = refl
room_behind at before (r ∷ runs) count h o a =
    grind (arith, one_then, skipped, room_behind (begin_in runs count) r.tsdu runs count h.2 a.0 a.1)

pub room_once : (runs : List Run) (count : ℕ) → AreFrom 0 runs count → AreApart runs → room_of runs ≡ room_in (once (spread runs count))
room_once [] count h a = refl
room_once (r ∷ runs) count h a = grind (arith, one_then, skipped, room_behind)

pub room_more : (runs : List Run) (x : Run) → room_of (runs ++ x ∷ []) ≡ room_of runs + (length x.tsdu + 48)
room_more [] x = omega arith
room_more (r ∷ runs) x = let e = room_more runs x in omega (arith, e)

-- ---- the steps of the value

pub halves_begin : (runs : List Run) (count place : ℕ) → AreFrom 0 runs count → place < count
    → (0 < length runs) × (length runs ≤ length runs) × (begin_at runs count 0 ≤ place) × (place < begin_at runs count (length runs))
halves_begin [] count place h l = absurd (omega (arith, h, l))
halves_begin (r ∷ runs) count place h l = grind (arith, begin_end)

last_read : (runs : List Run) (r : Run) → 0 < length runs → r ≡ get_or runs (length runs - 1) r → (r.tsdu ≡ last_in runs)
    × (r.from ≡ last_from runs)
last_read [] r l e = absurd (omega (arith, l))
last_read (x ∷ []) r l e = (ap (λ (y : Run). y.tsdu) e, ap (λ (y : Run). y.from) e)
last_read (x ∷ y ∷ runs) r l e =
    let i : length (x ∷ y ∷ runs) - 1 ≡ suc (length (y ∷ runs) - 1) = omega arith in
    last_read (y ∷ runs) r (omega arith) (e ∙ ap (λ (k : ℕ). get_or (x ∷ y ∷ runs) k r) i)

pub last_tsdu : (runs : List Run) (r : Run) → 0 < length runs → r ≡ get_or runs (length runs - 1) r → r.tsdu ≡ last_in runs
last_tsdu runs r l e = (last_read runs r l e).0

pub once_more : (runs : List Run) (count : ℕ) (value : List (List ℕ)) (tsdu : List ℕ) → AreFrom 0 runs count → 0 < length runs
    → is_same (last_in runs) tsdu ≡ true
    → spread runs count ≡ value → spread runs (count + 1) ≡ value ++ tsdu ∷ []
once_more runs count value tsdu h l s v = grind (arith, one_of (last_in runs) tsdu s, more_of_last 0 runs count h l)

pub a_run_more : (runs new : List Run) (x : Run) (count : ℕ) → AreFrom 0 runs count → AreApart runs → x.from ≡ count
    → (0 < length runs → is_same (last_in runs) x.tsdu ≡ false) → new ≡ runs ++ x ∷ [] → AreFrom 0 new (count + 1) × AreApart new
a_run_more runs new x count h a f n e = grind (arith, a_run_begins, apart_more)

pub added_in : (runs new : List Run) (x : Run) (count : ℕ) (value : List (List ℕ)) → x.from ≡ count → new ≡ runs ++ x ∷ []
    → spread runs count ≡ value
    → spread new (count + 1) ≡ value ++ x.tsdu ∷ []
added_in runs new x count value f e v = grind (arith, one_added)

pub place_in : (runs same : List Run) (count place i : ℕ) (r : Run) (value : List (List ℕ)) → AreFrom 0 runs count → same ≡ runs
    → HasPlace same count place i
    → r ≡ get_or same i r → spread runs count ≡ value → r.tsdu ≡ get_or value place []
place_in runs same count place i r value h e p g v = grind (arith, tsdu_read, found_from)
