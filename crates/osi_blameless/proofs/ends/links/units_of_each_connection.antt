-- Units in order, each with the connection that it is of: which are of one connection.
-- For the course of a connection.
use Rattle.osi_blameless.proofs.ends.Vocabulary.{[], ap, arith, false, List, map, nat_lt, refl, sym, true, ℕ, ◌++◌, ◌<◌, ◌==◌, ◌∙◌}
use Rattle.osi_blameless.proofs.ends.Vocabulary.{◌∷◌, ◌≡◌, ◌≢◌, eq-eqb, eqb-true, nat_tests, map-append, AllByRecursion, Value, Given}
use Rattle.osi_blameless.proofs.ends.Vocabulary.{unit_of}
use Rattle.osi_blameless.proofs.ends.Vocabulary.{all_units, AreByLinks, if_of, is_of_link, Marked, units_at, CanBeWritten, flat_map-append}

-- ---- one list after another

pub units_more : (r : ℕ) (xs ys : List Marked) → units_at r (xs ++ ys) ≡ units_at r xs ++ units_at r ys
units_more r xs ys = flat_map-append (if_of r) xs ys

pub all_units_more : (xs ys : List Marked) → all_units (xs ++ ys) ≡ all_units xs ++ all_units ys
all_units_more xs ys = map-append (λ (m : Marked). m.1) xs ys

pub all_of_both : {X : Type 0} (P : X → Type 0) (xs ys : List X) → AllByRecursion P xs → AllByRecursion P ys → AllByRecursion P (xs ++ ys)
all_of_both P [] ys a b = b
all_of_both P (x ∷ xs) ys a b = (a.0, all_of_both P xs ys a.1 b)

-- A DT or an AK is of a connection, and another unit is of none and can be written.
abbrev pub IsAccounted : Marked → Type 0
IsAccounted m = (is_of_link m.1 ≡ nat_lt 0 m.0) × (is_of_link m.1 ≡ false → CanBeWritten m.1)

abbrev pub AreAccounted : List Marked → Type 0
AreAccounted units = AllByRecursion IsAccounted units

pub by_links : (units : List Marked) → AreAccounted units → AreByLinks units
by_links [] all = tt
by_links (m ∷ units) all = (all.0.0, by_links units all.1)

-- ---- units of one connection, or of none

abbrev pub marked : ℕ → List Value → List Marked
marked q units = map (λ unit. (q, unit)) units

pub marked_all : (q : ℕ) (units : List Value) → all_units (marked q units) ≡ units
marked_all q [] = refl
marked_all q (unit ∷ units) = ap (λ (l : List Value). unit ∷ l) (marked_all q units)

-- a reference is this one or another
pub unequal : (q r : ℕ) → (r == q) ≡ false → r ≢ q
unequal q r e same = let both : true ≡ false = sym (eq-eqb r q same) ∙ e in absurd (cc)

pub marked_own : (r : ℕ) (units : List Value) → units_at r (marked r units) ≡ units
marked_own r [] = refl
marked_own r (unit ∷ units) = grind (arith, eq-eqb, marked_own r units)

marked_other : (q r : ℕ) (units : List Value) → (q == r) ≡ false → units_at r (marked q units) ≡ []
marked_other q r [] e = refl
marked_other q r (unit ∷ units) e = (grind arith) ∙ marked_other q r units e

pub elsewhere : (q r : ℕ) (units : List Value) → r ≢ q → units_at r (marked q units) ≡ []
elsewhere q r units ne = marked_other q r units (grind (arith, eqb-true))

pub none_mark : (r : ℕ) → 0 < r → (0 == r) ≡ false
none_mark r some = grind (arith, nat_tests)

pub nowhere : (r : ℕ) (units : List Value) → 0 < r → units_at r (marked 0 units) ≡ []
nowhere r units some = marked_other 0 r units (none_mark r some)

pub none_marked : (r : ℕ) (units : List Value) → 0 < r → AllByRecursion (λ (m : Marked). (m.0 == r) ≡ false) (marked 0 units)
none_marked r [] some = tt
none_marked r (unit ∷ units) some = (none_mark r some, none_marked r units some)

pub other_marked : (q r : ℕ) (units : List Value) → r ≢ q → AllByRecursion (λ (m : Marked). (m.0 == r) ≡ false) (marked q units)
other_marked q r [] ne = tt
other_marked q r (unit ∷ units) ne = (grind (arith, eqb-true), other_marked q r units ne)

-- ---- DTs and AKs, and others

-- no DT and no AK, and it can be written
abbrev pub ArePlain : List Value → Type 0
ArePlain units = AllByRecursion (λ unit. (is_of_link unit ≡ false) × CanBeWritten unit) units

pub plain_accounted : (units : List Value) → ArePlain units → AreAccounted (marked 0 units)
plain_accounted [] all = tt
plain_accounted (unit ∷ units) all = ((all.0.0, λ plain. all.0.1), plain_accounted units all.1)

pub given_accounted : (q peer : ℕ) (units : List Given) → 0 < q → AreAccounted (marked q (map (unit_of peer) units))
given_accounted q peer [] some = tt
given_accounted q peer (given ∷ units) some = grind (arith, given_accounted q peer units some)
