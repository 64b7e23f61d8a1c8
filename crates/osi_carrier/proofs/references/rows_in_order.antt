-- Rows that rise by a key, such as a reference: each key has one place, and what preserves the order.
use Rattle.osi_carrier.proofs.Vocabulary.{remove, position_or_len, eqb-true, eq-eqb, cases_lt, nat_tests, IsNonDecreasingBy-from_default}
use Rattle.osi_carrier.proofs.Vocabulary.{position_or_len_is, common_steps, length-set, RiseFrom, Rows, place_of, ◌≡◌, ℕ, Bool, zero, suc}
use Rattle.osi_carrier.proofs.Vocabulary.{◌<◌, ◌≤◌, ◌==◌, true, List, [], ◌∷◌, ◌++◌, length, get_or, set, Some, Result, Ok, Err, refl, sym}
use Rattle.osi_carrier.proofs.Vocabulary.{arith, None, IsSearchInRange, IsBinarySearchResult, IsNonDecreasingBy, nat_cmp, ordering_index}
use Rattle.osi_carrier.proofs.Vocabulary.{result_ok, ranked, RiseBy, place_by}
use Rattle.osi_carrier.proofs.references.rows_after_a_change.{without_rise, without_length}
use Rattle.osi_carrier.proofs.references.the_row_at_a_place.{placed}

-- ---- the place of a key

-- a row's key is above that which the rows rise from
above_at : {X : Type 0} (key : X → ℕ) (n : ℕ) (rows : List X) (i : ℕ) (d : X) → RiseBy key n rows → i < length rows →
    n < key (get_or rows i d)
above_at key n [] i d h within = absurd (omega arith)
above_at key n (y ∷ rows) zero d h within = h.0
above_at key n (y ∷ rows) (suc i) d h within = let more = above_at key (key y) rows i d h.1 (omega arith) in let first = h.0 in omega arith

-- rows before a row have lower keys
before_at : {X : Type 0} (key : X → ℕ) (n : ℕ) (rows : List X) (i k : ℕ) (d : X) → RiseBy key n rows → i < length rows → k < i →
    key (get_or rows k d) < key (get_or rows i d)
before_at key n (y ∷ rows) (suc i) zero d h within less = above_at key (key y) rows i d h.1 (omega arith)
before_at key n (y ∷ rows) (suc i) (suc k) d h within less = before_at key (key y) rows i k d h.1 (omega arith) (omega arith)
before_at key n rows i k d h within less = absurd (omega arith)

pub place_here : {X : Type 0} (key : X → ℕ) (r : ℕ) (rows : List X) (i : ℕ) (d : X) → RiseBy key 0 rows → i < length rows →
    key (get_or rows i d) ≡ r → place_by key r rows ≡ Some i
place_here key r rows i d h within here =
    let at : position_or_len (λ row. key row == r) rows ≡ i =
    position_or_len_is (λ row. key row == r) rows i d (omega arith)
    (λ k less. grind (arith, before_at key 0 rows i k d h within less))
    (λ inside. eq-eqb (key (get_or rows i d)) r here) in
    grind (arith, common_steps)

-- ---- a key found by binary search

-- a row's key is at most that of a row after it, or its own
up_to_at : {X : Type 0} (key : X → ℕ) (n : ℕ) (rows : List X) (i k : ℕ) (d : X) → RiseBy key n rows → i < length rows → k ≤ i →
    key (get_or rows k d) ≤ key (get_or rows i d)
up_to_at key n (y ∷ rows) zero zero d h within less = omega arith
up_to_at key n (y ∷ rows) (suc i) zero d h within less = let above = above_at key (key y) rows i d h.1 (omega arith) in omega arith
up_to_at key n (y ∷ rows) (suc i) (suc k) d h within less = up_to_at key (key y) rows i k d h.1 (omega arith) (omega arith)
up_to_at key n rows i k d h within less = absurd (omega arith)

-- so the comparisons with a key rise along the rows, as a search by halves asks
comparisons_rise : {X : Type 0} (key : X → ℕ) (r : ℕ) (rows : List X) (d : X) → RiseBy key 0 rows →
    IsNonDecreasingBy (λ row. ordering_index (nat_cmp (key row) r)) rows
comparisons_rise key r rows d rise =
    IsNonDecreasingBy-from_default (λ row. ordering_index (nat_cmp (key row) r)) rows d
    (λ i j before within. let lower = up_to_at key 0 rows j i d rise within before in grind (arith, nat_tests))

-- rows before a place are below a key, and those from it on above
nowhere : {X : Type 0} (key : X → ℕ) (r : ℕ) (rows : List X) (i : ℕ) (d : X) → i ≤ length rows →
    ((k : ℕ) → k < i → key (get_or rows k d) < r) →
    ((k : ℕ) → i ≤ k → k < length rows → r < key (get_or rows k d)) → place_by key r rows ≡ None
nowhere key r rows i d within below above =
    let none : position_or_len (λ row. key row == r) rows ≡ length rows =
    position_or_len_is (λ row. key row == r) rows (length rows) d (omega arith)
    (grind (arith, cases_lt, eqb-true))
    (λ inside. absurd (omega arith)) in
    grind (arith, common_steps)

sought_by : {X : Type 0} (key : X → ℕ) (r : ℕ) (rows : List X) (d : X) (answer : Result ℕ ℕ) → RiseBy key 0 rows →
    IsSearchInRange answer (length rows) →
    IsBinarySearchResult (λ row. nat_cmp (key row) r) rows answer → result_ok answer ≡ place_by key r rows
sought_by key r rows d (Ok i) rise within equal = sym (place_here key r rows i d rise within (ranked _ r _ (sym (equal d))))
sought_by key r rows d (Err i) rise within parted =
    let split = parted (comparisons_rise key r rows d rise) in
    sym (nowhere key r rows i d within (λ k less. ranked _ r _ (sym (split.0 k d (omega arith) less)))
    (λ k from inside. ranked _ r _ (sym (split.1 k d from inside))))

-- what a search by halves answers is the place of a key
pub sought : {X : Type 0} (key : X → ℕ) (r : ℕ) (rows : List X) (answer : Result ℕ ℕ) → RiseBy key 0 rows →
    IsSearchInRange answer (length rows) →
    IsBinarySearchResult (λ row. nat_cmp (key row) r) rows answer → result_ok answer ≡ place_by key r rows
sought key r [] (Ok i) rise within equal = absurd (omega arith)
sought key r [] (Err i) rise within parted = refl
sought key r (row ∷ rows) answer rise within is = sought_by key r (row ∷ rows) row answer rise within is

-- ---- what keeps rows rising

pub rise_last : {X : Type 0} (key : X → ℕ) (n : ℕ) (x : X) (rows : List X) (i : ℕ) (d : X) → length rows ≡ suc i →
    key (get_or rows i d) < key x → RiseBy key n rows →
    RiseBy key n (rows ++ x ∷ [])
rise_last key n x (y ∷ []) zero d e less h = (h.0, (less, tt))
rise_last key n x (y ∷ z ∷ rows) (suc i) d e less h = (h.0, rise_last key (key y) x (z ∷ rows) i d (omega arith) less h.1)
rise_last key n x rows i d e less h = absurd (omega arith)

pub set_rise : {X : Type 0} (n : ℕ) (rows : Rows X) (i : ℕ) (row new : ℕ × X) → row ≡ get_or rows i row → new.0 ≡ row.0 → RiseFrom n rows →
    RiseFrom n (set rows i new)
set_rise n [] i row new here same h = tt
set_rise n ((p, y) ∷ rows) zero row new here same h = grind arith
set_rise n ((p, y) ∷ rows) (suc i) row new here same h = (h.0, set_rise p rows i row new here same h.1)

-- the rows of a table: at most 64, with rising numbers if `rises` is set
abbrev pub AreKept : {X : Type 0} → Bool → Rows X → Type 0
AreKept rises rows = (length rows ≤ 64) × (rises ≡ true → RiseFrom 0 rows)

pub set_kept : {X : Type 0} (rises : Bool) (rows : Rows X) (i : ℕ) (row new : ℕ × X) → row ≡ get_or rows i row → new.0 ≡ row.0 →
    AreKept rises rows →
    AreKept rises (set rows i new)
set_kept rises rows i row new here same kept = grind (arith, length-set, set_rise)

pub without_kept : {X : Type 0} (rises : Bool) (r : ℕ) (rows left : Rows X) (i : ℕ) (d : ℕ × X) → place_of r rows ≡ Some i →
    left ≡ remove rows i → AreKept rises rows →
    AreKept rises left
without_kept rises r rows left i d e is kept = grind (arith, without_rise, placed r rows i d e, without_length r rows)
