-- Comparing a word with a name, letter by letter.
use Rattle.std.proofs.Common.{◌≡◌, ◌≢◌, ◌∙◌, ℕ, suc, ◌+◌, ◌<◌, ◌≤◌, ◌&&◌, Bool, true, false, List, [], ◌∷◌, length, get_or, drop, refl, ap}
use Rattle.std.proofs.Common.{subst, arith}
use Rattle.std.specs.Prelude.{nat_eq}
use Rattle.std.proofs.Math.Seq.{drop-cons}
use Rattle.std.proofs.lemmas.Bool.Decides.{nat_tests}
use Rattle.std.proofs.lemmas.List.{drop_all}
use Rattle.osi_script.specs.Words.{is}
use Rattle.osi_script.proofs.a_number_is_read_digit_by_digit.{both_refused, one_left}

both_refused_second : (a b : Bool) → b ≡ false → (a && b) ≡ false
both_refused_second a b h = grind arith

same_octet : (x y : ℕ) → x ≡ y → nat_eq x y ≡ true
same_octet x y h = grind (arith, nat_tests)

other_octet : (x y : ℕ) → x ≢ y → nat_eq x y ≡ false
other_octet x y h = grind (arith, nat_tests)

first_octet : (l : List ℕ) (i : ℕ) → i < length l → drop i l ≡ get_or l i 0 ∷ drop (i + 1) l
first_octet l i h = let next : suc i ≡ i + 1 = omega arith in subst (λ (n : ℕ). drop i l ≡ get_or l i 0 ∷ drop n l) next (drop-cons l i 0 h)

both_first : (word name : List ℕ) (i : ℕ) → i < length word → i < length name →
    is (drop i word) (drop i name) ≡ is (get_or word i 0 ∷ drop (i + 1) word) (get_or name i 0 ∷ drop (i + 1) name)
both_first word name i a b = grind (arith, first_octet)

-- a letter that both have is skipped
pub same_letter : (word name : List ℕ) (i : ℕ) → i < length word → i < length name → get_or word i 0 ≡ get_or name i 0 →
    is (drop (i + 1) word) (drop (i + 1) name) ≡ is (drop i word) (drop i name)
same_letter word name i a b same = grind (arith, one_left, same_octet, both_first)

-- they differ at another letter
pub other_letter : (word name : List ℕ) (i : ℕ) → i < length word → i < length name → get_or word i 0 ≢ get_or name i 0 →
    is (drop i word) (drop i name) ≡ false
other_letter word name i a b other = grind (arith, both_first, both_refused, other_octet)

-- no letter is left
pub all_letters : (word name : List ℕ) (i : ℕ) → length word ≤ i → length name ≤ i → is (drop i word) (drop i name) ≡ true
all_letters word name i a b = ap (λ (w : List ℕ). is w (drop i name)) (drop_all i word a) ∙ ap (λ (n : List ℕ). is [] n) (drop_all i name b)

-- a word of another length
pub other_length : (word name : List ℕ) → length word ≢ length name → is word name ≡ false
other_length [] [] h = absurd (h refl)
other_length [] (y ∷ name) h = refl
other_length (x ∷ word) [] h = refl
other_length (x ∷ word) (y ∷ name) h =
    both_refused_second (nat_eq x y) (is word name) (other_length word name (λ same. h (ap suc same)))
