-- Two digits side by side pass as an octet of the side of their line, and a blank passes nothing: for the reading of octets in `steps`.
use Rattle.std.proofs.Common.{◌+◌, ◌*◌}
use Rattle.hex.specs.Hex.{hex_digit_value}
use Rattle.osi_listing.proofs.digits_give_octets.{digit_no_blank}
use Rattle.osi_report.proofs.Vocabulary.{◌≡◌, ◌∙◌, refl, ap, ℕ, ◌==◌, false, List, [], ◌∷◌, ◌++◌, Option, Some}
use Rattle.osi_report.proofs.Vocabulary.{None, inl, inr, arith, eqb_tells, append_assoc, Direction, Capture, piece}
use Rattle.osi_report.specs.declared.places.Place.{Place}
use Rattle.osi_report.specs.declared.places.Step.{Step}
use Rattle.osi_report.specs.Passing.{after_passed, digit_read, if_step, passed_from, plain, side_at, step_of}

pub after_none : (o : Option Capture) → after_passed [] o ≡ o
after_none None = refl
after_none (Some x) = refl

no_feed : (c v : ℕ) → hex_digit_value c ≡ Some v → (c == 10) ≡ false
no_feed c v h = elim (eqb_tells c 10) [
  | inl e ↦ absurd (search (arith, h, e.1))
  | inr n ↦ n.0
]

no_sign : (c v : ℕ) → hex_digit_value c ≡ Some v → (c == 35) ≡ false
no_sign c v h = elim (eqb_tells c 35) [
  | inl e ↦ absurd (search (arith, h, e.1))
  | inr n ↦ n.0
]

-- a digit of a line outside comments
digit_steps : (p : Place) (c v : ℕ) → hex_digit_value c ≡ Some v → p.in_comment ≡ false
    → step_of p c ≡ Some (digit_read p.half v (record p { begins = false; direction = side_at c p }))
digit_steps p c v h e = rw (no_feed c v h, e, no_sign c v h, digit_no_blank c v h, h) refl

pub two_pass : (d : Direction) (a b high low : ℕ) (rest : List ℕ) → hex_digit_value a ≡ Some high → hex_digit_value b ≡ Some low
    → passed_from (plain d) (a ∷ b ∷ rest) ≡ after_passed (piece d ((high * 16 + low) ∷ [])) (passed_from (plain d) rest)
two_pass d a b high low rest h k =
    let q : Place = record { direction = d; begins = false; in_comment = false; half = Some (record { direction = d; digit = high }) } in
    ap (λ (s : Option Step). if_step s (λ (p : Place). passed_from p (b ∷ rest))) (digit_steps (plain d) a high h refl)
    ∙ after_none (passed_from q (b ∷ rest))
    ∙ ap (λ (s : Option Step). if_step s (λ (p : Place). passed_from p rest)) (digit_steps q b low k refl)

-- ---- octets after octets

pub after_both : (a b : Capture) (o : Option Capture) → after_passed (a ++ b) o ≡ after_passed a (after_passed b o)
after_both a b None = refl
after_both a b (Some x) = ap Some (append_assoc a b x)
