-- Digits of numbers, written and read.
use Rattle.osi_spdu.proofs.Vocabulary.{list_all, cases_Bool, and_parts, and_from, eqb-true, eq-eqb, ne_eqb, le-leb, lt-ltb, drop_more}
use Rattle.osi_spdu.proofs.Vocabulary.{drop_all, length-drop, common_steps, significant, digits_of, decimal_from, decimal, is_digit}
use Rattle.osi_spdu.proofs.Vocabulary.{numeral, ◌≡◌, ℕ, suc, ◌+◌, ◌-◌, ◌*◌, ◌^◌, ◌<◌, ◌≤◌, true, eqb, List, [], ◌∷◌, length, get_or, drop}
use Rattle.osi_spdu.proofs.Vocabulary.{Some, refl, arith}

-- a leading zero is dropped
pub significant_step : (xs : List ℕ) (i : ℕ) → i + 1 < length xs → get_or xs i 0 ≡ 48 →
    significant (drop (i + 1) xs) ≡ significant (drop i xs)
unfolding significant
significant_step xs i lt e =
    let a : i < length xs = omega arith in
    grind (arith, significant, drop_more xs i 0 a, drop_more xs (i + 1) 0 lt, eqb (get_or xs i 0) 48, eq-eqb (get_or xs i 0) 48 e)

-- any other digit stays, and so does the last
pub significant_end : (xs : List ℕ) (i : ℕ) → i < length xs → (i + 1 < length xs → get_or xs i 0 ≡ 48 → ⊥) →
    significant (drop i xs) ≡ drop i xs
unfolding significant
significant_end xs i lt h = ends (drop i xs) refl
  where
    ends : (s : List ℕ) → drop i xs ≡ s → significant s ≡ s
    ends [] e = refl
    ends (d ∷ []) e = refl
    ends (d ∷ f ∷ s) e = grind (arith, ne_eqb, length-drop i xs, eqb d 48, drop_more)

pub pow_small : (i : ℕ) → i ≤ 6 → 10 ^ i ≤ 1000000
pow_small (suc (suc (suc (suc (suc (suc (suc i))))))) h = absurd (omega arith)
pow_small _ h = omega arith

-- ---- reading digits

-- the invariant of the loop over digits
pub record IsReading (digits : List ℕ) (i number : ℕ) : Type 0 where
  pub value : decimal_from number (drop i digits) ≡ decimal digits
  pub good : list_all is_digit (drop i digits) ≡ list_all is_digit digits
  pub small : number < 10 ^ i

pub reading_step : (digits : List ℕ) (i number d : ℕ) → i < length digits → d ≡ get_or digits i 0 → 48 ≤ d → d ≤ 57 →
    IsReading digits i number → IsReading digits (i + 1) (number * 10 + (d - 48))
unfolding decimal_from
reading_step digits i number d lt is low high r = grind (arith, drop_more, common_steps)

pub reading_end : (digits : List ℕ) (number : ℕ) → 0 < length digits → length digits ≤ 6 → IsReading digits (length digits) number →
    numeral digits ≡ Some number
unfolding decimal_from
reading_end digits number h0 h1 h2 = grind (arith, drop_all, and_from, lt-ltb, le-leb)

-- ---- writing digits, and reading them again

significant_same : (n : ℕ) (xs : List ℕ) → decimal (significant xs) ≡ decimal xs
unfolding significant decimal_from
significant_same n (d ∷ e ∷ xs) = grind (arith, decimal_from, eqb-true, cases_Bool (eqb d 48), eqb d 48, significant_same n (e ∷ xs))
significant_same n _ = refl

significant_all : (xs : List ℕ) → list_all is_digit xs ≡ true → list_all is_digit (significant xs) ≡ true
unfolding significant
significant_all [] h = refl
significant_all (d ∷ []) h = h
significant_all (d ∷ e ∷ xs) h =
    grind (arith, cases_Bool, eqb, and_parts, significant_all (e ∷ xs) (and_parts (is_digit d) (list_all is_digit (e ∷ xs)) h).1)

pub significant_len : (xs : List ℕ) → (length (significant xs) ≤ length xs) × (0 < length xs → 0 < length (significant xs))
unfolding significant
significant_len (d ∷ e ∷ xs) = grind (arith, cases_Bool, eqb, significant_len (e ∷ xs))
significant_len _ = (omega arith, λ h. h)

-- a number at most 999,999 is read from its digits
pub numeral_digits : (n : ℕ) → n ≤ 999999 → numeral (digits_of n) ≡ Some n
unfolding digits_of decimal_from
numeral_digits n h0 = search (arith, significant_len, significant_all, and_from, lt-ltb, le-leb, significant_same)
