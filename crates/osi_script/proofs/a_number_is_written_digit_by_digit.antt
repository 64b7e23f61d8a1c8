-- A number in decimal, digit by digit.
use Rattle.std.proofs.Common.{◌≡◌, ◌∙◌, ℕ, ◌/◌, ◌%◌, ◌<◌, ◌≤◌, List, ◌++◌, ap, arith}
use Rattle.std.specs.Fmt.{decimal}
use Rattle.std.proofs.lemmas.Fmt.{decimal_digit, decimal_step}
use Rattle.std.proofs.lemmas.List.{append_assoc}

last_digit : (n : ℕ) → 10 ≤ n → n < 10000 → decimal n ≡ decimal (n / 10) ++ decimal (n % 10)
last_digit n low high = grind (arith, decimal_step, decimal_digit)

pub digits_joined : (out mid after : List ℕ) (n : ℕ) → 10 ≤ n → n < 10000 → mid ≡ out ++ decimal (n / 10)
    → after ≡ mid ++ decimal (n % 10) →
    after ≡ out ++ decimal n
digits_joined out mid after n low high first last = grind (arith, append_assoc, last_digit)

pub hundreds_joined : (out hundreds tens after : List ℕ) (n : ℕ) → 100 ≤ n → n < 10000 → hundreds ≡ out ++ decimal (n / 100) →
    tens ≡ hundreds ++ decimal (n / 10 % 10) → after ≡ tens ++ decimal (n % 10) → after ≡ out ++ decimal n
hundreds_joined out hundreds tens after n low high first second last =
    let hundred : n / 100 ≡ n / 10 / 10 = omega arith in
    digits_joined out tens after n (omega arith) high
    (digits_joined out hundreds tens (n / 10) (omega arith) (omega arith) (first ∙ ap (λ (m : ℕ). out ++ decimal m) hundred) second) last
