-- A counter that takes one octet of a line after the other comes to the number of digits on it, blanks and a comment left out.
-- For `digits_on` and `counted`.
use Rattle.osi_report.proofs.Vocabulary.{◌≡◌, ◌∙◌, ap, ℕ, Bool, true, false, cond, not, List, ◌∷◌, length, arith, ◌+◌, ◌==◌, filter, inl}
use Rattle.osi_report.proofs.Vocabulary.{inr, before_first, eqb_tells, is_comment_sign, is_blank, digits_on, digits_left}

kept : (c : ℕ) (line : List ℕ) → is_comment_sign c ≡ false → before_first is_comment_sign (c ∷ line) ≡ c ∷ before_first is_comment_sign line
kept c line h = grind arith

other : (a b : ℕ) → (a ≡ b → ⊥) → (a == b) ≡ false
other a b h = elim (eqb_tells a b) [ inl same ↦ absurd (h same.1) | inr differ ↦ differ.0 ]

abbrev digits_in : List ℕ → List ℕ
digits_in line = filter (λ c. not (is_blank c)) (before_first is_comment_sign line)

-- how many digits are on a line, by whether its first octet is one
abbrev with_octet : (is_digit : Bool) → ℕ → List ℕ → ℕ
with_octet is_digit c line = length (cond is_digit (c ∷ digits_in line) (digits_in line))

pub digits_blank : (c : ℕ) (line : List ℕ) → (c ≡ 35 → ⊥) → is_blank c ≡ true → digits_on (c ∷ line) ≡ digits_on line
digits_blank c line e b = (grind (arith, kept, other)) ∙ ap (λ (x : Bool). with_octet (not x) c line) b

pub digits_more : (c : ℕ) (line : List ℕ) → (c ≡ 35 → ⊥) → is_blank c ≡ false → digits_on (c ∷ line) ≡ digits_on line + 1
digits_more c line e b = grind arith

-- ---- by a counter

pub in_comment : (b : Bool) (n c : ℕ) (rest : List ℕ) → b ≡ true → n + digits_left b rest ≡ n + digits_left b (c ∷ rest)
in_comment b n c rest e = grind arith

pub begins_comment : (b : Bool) (n c : ℕ) (rest : List ℕ) → b ≡ false → c ≡ 35 → n + 0 ≡ n + digits_left b (c ∷ rest)
begins_comment b n c rest e s = grind arith

pub at_blank : (b : Bool) (n c : ℕ) (rest : List ℕ) → b ≡ false → (c ≡ 35 → ⊥) → is_blank c ≡ true
    → n + digits_left b rest ≡ n + digits_left b (c ∷ rest)
at_blank b n c rest e s k = grind (arith, digits_blank)

pub at_digit : (b : Bool) (n c : ℕ) (rest : List ℕ) → b ≡ false → (c ≡ 35 → ⊥) → is_blank c ≡ false
    → (n + 1) + digits_on rest ≡ n + digits_left b (c ∷ rest)
at_digit b n c rest e s k = grind (arith, digits_more)
