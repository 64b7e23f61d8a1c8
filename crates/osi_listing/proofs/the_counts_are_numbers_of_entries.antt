-- The counts, one entry after the other, are the numbers of entries of each kind.
use Rattle.osi_listing.proofs.Vocabulary.{◌≡◌, ◌∙◌, ℕ, ◌+◌, ◌-◌, ◌^◌, ◌≤◌, ◌==◌, Bool, cond, if◌then◌else◌, List, [], ◌∷◌, ◌++◌, refl, ap}
use Rattle.osi_listing.proofs.Vocabulary.{arith, eqb_tells, count_by, list_any, sum_by-cons, list_any-append, Counts, capped, counts_of}
use Rattle.osi_listing.proofs.Vocabulary.{none, counted, Entry, Left}
use Rattle.osi_listing.specs.Counting.{is_packet, is_unit, is_tsdu, is_session_unit, one_more}
use Rattle.osi_listing.specs.Listing.{is_refused}

-- one field of the counts, and the kind of entries that it counts
abbrev Counting : (Counts → ℕ) → (Entry → Bool) → Type 0
Counting get p = (c : Counts) (e : Entry) → get (one_more c e) ≡ cond (p e) (capped (get c + 1)) (get c)

packets_counted : Counting (λ c. c.packets) is_packet
unfolding one_more is_packet
packets_counted c h = grind arith

units_counted : Counting (λ c. c.units) is_unit
unfolding one_more is_unit
units_counted c h = grind arith

tsdus_counted : Counting (λ c. c.tsdus) is_tsdu
unfolding one_more is_tsdu
tsdus_counted c h = grind arith

session_units_counted : Counting (λ c. c.session_units) is_session_unit
unfolding one_more is_session_unit
session_units_counted c h = grind arith

refused_counted : Counting (λ c. c.refused) is_refused
unfolding one_more is_refused
refused_counted c h = grind arith

within : (b : Bool) (n m : ℕ) → n ≤ 2 ^ 64 - 1 → m ≡ cond b (capped (n + 1)) n → m ≤ 2 ^ 64 - 1
within b n m h e = grind arith

count_cons : (p : Entry → Bool) (e : Entry) (es : List Entry) → count_by p (e ∷ es) ≡ cond (p e) 1 0 + count_by p es
count_cons p e es = sum_by-cons (λ x. cond (p x) 1 0) e es

field : (get : Counts → ℕ) (p : Entry → Bool) → Counting get p → (c : Counts) (es : List Entry) → get c ≤ 2 ^ 64 - 1 →
    get (counted c es) ≡ capped (get c + count_by p es)
field get p step c [] h = omega arith
field get p step c (e ∷ es) h =
    grind (arith, within, count_cons, field get p step (one_more c e) es (within (p e) (get c) (get (one_more c e)) h (step c e)))

same_counts : (c d : Counts) → c.packets ≡ d.packets → c.units ≡ d.units → c.tsdus ≡ d.tsdus → c.session_units ≡ d.session_units →
    c.refused ≡ d.refused → c ≡ d
same_counts c d e f g h k = λ i. record { packets = e i; units = f i; tsdus = g i; session_units = h i; refused = k i }

pub counted_is : (es : List Entry) → counted none es ≡ counts_of es
counted_is es =
    same_counts (counted none es) (counts_of es) (grind (arith, field (λ c. c.packets) is_packet packets_counted none es (omega arith)))
    (grind (arith, field (λ c. c.units) is_unit units_counted none es (omega arith)))
    (grind (arith, field (λ c. c.tsdus) is_tsdu tsdus_counted none es (omega arith)))
    (grind (arith, field (λ c. c.session_units) is_session_unit session_units_counted none es (omega arith)))
    (grind (arith, field (λ c. c.refused) is_refused refused_counted none es (omega arith)))

-- ---- whether something was refused

-- the status, by whether something was refused, and by whether nothing was
abbrev pub one_if : Bool → ℕ
one_if b = if b then 1 else 0

abbrev pub zero_if : Bool → ℕ
zero_if b = if b then 0 else 1

some_counted : (p : Entry → Bool) (es : List Entry) → zero_if (capped (count_by p es) == 0) ≡ one_if (list_any p es)
some_counted p [] = refl
some_counted p (e ∷ es) = grind (arith, count_cons, eqb_tells, cond, some_counted p es)

pub status_of : (es : List Entry) (n : ℕ) → n ≡ capped (count_by is_refused es) → zero_if (n == 0) ≡ one_if (list_any is_refused es)
status_of es n e = ap (λ m. zero_if (m == 0)) e ∙ some_counted is_refused es

-- the line of the octets left over says of nothing that it was refused
pub refused_left : (es : List Entry) (n : ℕ) → list_any is_refused (es ++ Left n ∷ []) ≡ list_any is_refused es
unfolding is_refused
refused_left es n = grind (arith, list_any-append)
