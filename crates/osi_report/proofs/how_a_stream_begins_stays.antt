-- How a stream begins stays as it is when the stream goes on: for `Opening`.
use Rattle.osi_report.proofs.Vocabulary.{◌≡◌, ◌∙◌, refl, sym, ap, ℕ, zero, suc, ◌+◌, ◌-◌, ◌<◌, ◌≤◌, List, [], ◌∷◌, ◌++◌, length, arith}
use Rattle.osi_report.proofs.Vocabulary.{slice_get, length-append, offset_of, Capture, piece, stream, Opening, Opens, first_code}
use Rattle.osi_report.proofs.Vocabulary.{stream_beside, stream_fed, subst}
use Rattle.osi_side.specs.declared.directions.Direction.TheVariants as side

within : (xs ys : List ℕ) (n : ℕ) → n < length xs → slice_get (xs ++ ys) n ≡ slice_get xs n
within [] ys n l = absurd (omega arith)
within (x ∷ xs) ys zero l = refl
within (x ∷ xs) ys (suc n) l = within xs ys n (omega arith)

none_off : (n : ℕ) → n ≡ n - 0
none_off n = omega arith

one_off : (x : ℕ) (xs : List ℕ) (n : ℕ) → n - length xs ≡ suc n - length (x ∷ xs)
one_off x xs n = omega arith

beyond : (xs ys : List ℕ) (n : ℕ) → length xs ≤ n → slice_get (xs ++ ys) n ≡ slice_get ys (n - length xs)
beyond [] ys n l = ap (λ (k : ℕ). slice_get ys k) (none_off n)
beyond (x ∷ xs) ys zero l = absurd (omega arith)
beyond (x ∷ xs) ys (suc n) l = beyond xs ys n (omega arith) ∙ ap (λ (k : ℕ). slice_get ys k) (one_off x xs n)

long : (n m : ℕ) → n ≡ offset_of m → 5 < n → 5 < m
long n m e l = omega arith

short : (n m : ℕ) → n ≡ offset_of m → n ≤ 5 → n ≡ m
short n m e l = omega arith

-- the code has passed
pub code_stays : (o : Opening) (left more : List ℕ) → Opens o left → 5 < o.passed → o.code ≡ first_code (left ++ more)
code_stays o left more h l = h.code ∙ sym (within left more 5 (long o.passed (length left) h.passed l))

-- or it may be among what passes now
pub code_comes : (o : Opening) (left more : List ℕ) → Opens o left → o.passed ≤ 5
    → slice_get more (5 - o.passed) ≡ first_code (left ++ more)
code_comes o left more h l =
    let same = short o.passed (length left) h.passed l in
    ap (λ (n : ℕ). slice_get more (5 - n)) same ∙ sym (beyond left more 5 (subst (λ (n : ℕ). n ≤ 5) same l))

longer : (left more : List ℕ) → offset_of (offset_of (length left) + length more) ≡ offset_of (length (left ++ more))
longer left more = let h = length-append left more in omega (arith, h)

pub opens_more : (o n : Opening) (left more : List ℕ) → Opens o left → n.code ≡ first_code (left ++ more)
    → n.passed ≡ offset_of (o.passed + length more) → Opens n (left ++ more)
opens_more o n left more h code passed = record {
  passed = passed ∙ ap (λ (x : ℕ). offset_of (x + length more)) h.passed ∙ longer left more;
  code = code;
}

-- ---- of a capture

pub left_more : (o n : Opening) (c : Capture) (octets : List ℕ) → Opens n (stream side.Left c ++ octets)
    → Opens n (stream side.Left (c ++ piece side.Left octets))
left_more o n c octets h = subst (Opens n) (sym (stream_fed side.Left c octets)) h

pub right_more : (o : Opening) (c : Capture) (octets : List ℕ) → Opens o (stream side.Left c)
    → Opens o (stream side.Left (c ++ piece side.Right octets))
right_more o c octets h = subst (Opens o) (sym (stream_beside side.Right c octets)) h
