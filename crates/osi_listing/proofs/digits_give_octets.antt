-- Digits that are read one after the other give the octets that hex.decode gives, and nothing where it gives an error: for the
-- reading of a capture's text.
use Rattle.osi_listing.proofs.Vocabulary.{◌≡◌, ◌≢◌, ◌∙◌, ℕ, ◌+◌, ◌*◌, ◌%◌, ◌≤◌, Bool, true, false, List, [], ◌∷◌, ◌++◌, length}
use Rattle.osi_listing.proofs.Vocabulary.{Option, Some, None, Result, Ok, Err, refl, inl, inr, sym, ap, arith}
use Rattle.osi_listing.proofs.Vocabulary.{IsErr, append_assoc, append-nil, length-append, nil_from_length, eqb_tells, decode_of}
use Rattle.osi_listing.proofs.Vocabulary.{digit_or_error}
use Rattle.osi_listing.proofs.Vocabulary.{hex_digit_value, ◌>>=◌, FromHexError, OddLength, decode_of-even, decode_pairs-ok, after_octets}
use Rattle.osi_listing.proofs.Vocabulary.{digits_of, digits_left, if_digit, is_blank, octets_from, with_digit}
use Rattle.hex.specs.Hex.{decode_pairs}
use Rattle.osi_listing.specs.Digits.{octet_by}
use Rattle.osi_listing.specs.Runs.{ReadsRun}
use Rattle.osi_listing.proofs.two_digits_make_an_octet.{pair_read, with_octet}
use Rattle.osi_listing.proofs.octets_side_by_side.{half_an_octet}
use Rattle.osi_listing.proofs.digits_from_octet_to_octet.{left_digit_of}

-- the octets of a result, if it has some
abbrev octets_in : Result (List ℕ) FromHexError → Option (List ℕ)
octets_in (Ok octets) = Some octets
octets_in (Err e) = None

-- two digits, and the octets after them
two_digits : (a b i : ℕ) (high low : Option ℕ) (rest : Result (List ℕ) FromHexError) →
    octets_in ((digit_or_error a i high >>= (λ h. digit_or_error b (i + 1) low >>= (λ l. Ok (h * 16 + l))))
    >>= (λ byte. rest >>= (λ bytes. Ok (byte ∷ bytes))))
    ≡ if_digit high (λ h. if_digit low (λ l. after_octets ((h * 16 + l) ∷ []) (octets_in rest)))
two_digits a b i high low rest = grind arith

pairs_give : (i : ℕ) (s : List ℕ) → octets_in (decode_pairs i s) ≡ octets_from s None
unfolding decode_pairs
pairs_give i [] = refl
pairs_give i (a ∷ []) = sym (grind arith)
pairs_give i (a ∷ b ∷ rest) =
    two_digits a b i (hex_digit_value a) (hex_digit_value b) (decode_pairs (i + 2) rest)
    ∙ ap (λ o. if_digit (hex_digit_value a) (λ h. if_digit (hex_digit_value b) (λ l. after_octets ((h * 16 + l) ∷ []) o)))
    (pairs_give (i + 2) rest)

-- an odd number of digits gives nothing
odd_gives : (s : List ℕ) (r : Result (List ℕ) FromHexError) → decode_pairs 0 s ≡ r → length s % 2 ≡ 1 → octets_in r ≡ None
odd_gives s (Ok bytes) e odd = let sized = (decode_pairs-ok 0 s bytes e).1 in absurd (omega arith)
odd_gives s (Err x) e odd = refl

decode_of-odd : (s : List ℕ) → length s % 2 ≡ 1 → decode_of s ≡ Err OddLength
decode_of-odd s odd = grind (arith)

digits_give : (s : List ℕ) → octets_in (decode_of s) ≡ octets_from s None
digits_give s = elim (eqb_tells (length s % 2) 1) [
  | inl odd ↦ ap octets_in (decode_of-odd s odd.1) ∙ sym (odd_gives s (decode_pairs 0 s) refl odd.1) ∙ pairs_give 0 s
  | inr even ↦ grind (arith, decode_of-even, pairs_give)
]

is_ok_of : (r : Result (List ℕ) FromHexError) (octets : List ℕ) → octets_in r ≡ Some octets → r ≡ Ok octets
is_ok_of r octets e = grind arith

is_err_of : (r : Result (List ℕ) FromHexError) → octets_in r ≡ None → IsErr r
is_err_of r e = grind arith

-- the digits that were read are a capture
pub all_are_digits : (s octets : List ℕ) → octets_from s None ≡ Some octets → decode_of s ≡ Ok octets
all_are_digits s octets e = is_ok_of (decode_of s) octets (digits_give s ∙ e)

-- ---- one digit

-- and no blank
pub digit_no_blank : (c v : ℕ) → hex_digit_value c ≡ Some v → is_blank c ≡ false
digit_no_blank c v h = search arith

-- ---- a character of a text

-- a digit outside comments
pub digit_read : (b : Bool) (c v : ℕ) (high : Option ℕ) (rest : List ℕ) → hex_digit_value c ≡ Some v → b ≡ false →
    octets_from (digits_left b (c ∷ rest)) high ≡ with_digit high v (octets_from (digits_left false rest))
digit_read b c v high rest h e = search (arith, left_digit_of, digit_no_blank c v h)

-- a digit in a comment
pub digit_skipped : (b : Bool) (c v : ℕ) (rest : List ℕ) → hex_digit_value c ≡ Some v → b ≡ true →
    digits_left b (c ∷ rest) ≡ digits_left b rest
digit_skipped b c v rest h e = grind arith

-- another character outside comments
pub no_digit : (b : Bool) (c : ℕ) (high : Option ℕ) (rest : List ℕ) → hex_digit_value c ≡ None → b ≡ false → c ≢ 10 → c ≢ 35 →
    is_blank c ≡ false → octets_from (digits_left b (c ∷ rest)) high ≡ None
no_digit b c high rest h e feed sign blank = grind (arith, left_digit_of)

-- two digits side by side
pub two_read : (a b high low : ℕ) (rest : List ℕ) → hex_digit_value a ≡ Some high → hex_digit_value b ≡ Some low →
    octets_from (digits_of (a ∷ b ∷ rest)) None ≡ after_octets ((high * 16 + low) ∷ []) (octets_from (digits_of rest) None)
two_read a b high low rest h k = digit_read false a high None (b ∷ rest) h refl ∙ digit_read false b low (Some high) rest k refl

-- ---- the end of a text

pub captures_at_end : (b : Bool) (high : Option ℕ) (rest text octets : List ℕ) → length rest ≡ 0 → high ≡ None →
    after_octets octets (octets_from (digits_left b rest) high) ≡ octets_from (digits_of text) None → decode_of (digits_of text) ≡ Ok octets
captures_at_end b high rest text octets e h so_far = grind (arith, all_are_digits, nil_from_length, append-nil)

-- half an octet at the end
pub no_capture_at_end : (b : Bool) (high : Option ℕ) (first : ℕ) (rest text octets : List ℕ) → length rest ≡ 0 → high ≡ Some first →
    after_octets octets (octets_from (digits_left b rest) high) ≡ octets_from (digits_of text) None → IsErr (decode_of (digits_of text))
no_capture_at_end b high first rest text octets e h so_far = grind (arith, is_err_of, digits_give, nil_from_length)

-- a character that can't be read
pub no_capture_here : (b : Bool) (high : Option ℕ) (c : ℕ) (rest behind text octets : List ℕ) → rest ≡ c ∷ behind →
    octets_from (digits_left b (c ∷ behind)) high ≡ None →
    after_octets octets (octets_from (digits_left b rest) high) ≡ octets_from (digits_of text) None → IsErr (decode_of (digits_of text))
no_capture_here b high c rest behind text octets e none so_far = grind (arith, is_err_of, digits_give)

-- ---- octets after octets

pub after_both : (a b : List ℕ) (more : Option (List ℕ)) → after_octets (a ++ b) more ≡ after_octets a (after_octets b more)
after_both a b more = grind (arith, append_assoc)

pub after_none : (more : Option (List ℕ)) → after_octets [] more ≡ more
after_none more = grind arith

-- ---- octets whose digits stand side by side

-- one of them, and those after it
one_more : (x y : Option ℕ) (a b : ℕ) (digits rest octets : List ℕ) (tail : Option (List ℕ)) → hex_digit_value a ≡ x →
    hex_digit_value b ≡ y → with_octet (octet_by x y) tail ≡ Some octets →
    ((more : List ℕ) → tail ≡ Some more →
    octets_from (digits_of (digits ++ rest)) None ≡ after_octets more (octets_from (digits_of rest) None)) →
    octets_from (digits_of (a ∷ b ∷ (digits ++ rest))) None ≡ after_octets octets (octets_from (digits_of rest) None)
one_more None y a b digits rest octets tail u v e so_far = absurd (search (arith, e))
one_more (Some h) None a b digits rest octets tail u v e so_far = absurd (search (arith, e))
one_more (Some h) (Some l) a b digits rest octets None u v e so_far = absurd (search (arith, e))
one_more (Some h) (Some l) a b digits rest octets (Some more) u v e so_far =
    grind (
      arith,
      two_read a b h l (digits ++ rest) u v,
      so_far more refl,
      after_both ((h * 16 + l) ∷ []) more (octets_from (digits_of rest) None),
      e,
    )

digits_read : (digits rest octets : List ℕ) → octets_from digits None ≡ Some octets →
    octets_from (digits_of (digits ++ rest)) None ≡ after_octets octets (octets_from (digits_of rest) None)
digits_read [] rest octets e = grind (arith, after_none, e)
digits_read (a ∷ []) rest octets e = absurd (half_an_octet a octets e)
digits_read (a ∷ b ∷ digits) rest octets e =
    one_more (hex_digit_value a) (hex_digit_value b) a b digits rest octets (octets_from digits None) refl refl
    (sym (pair_read a b digits) ∙ e) (digits_read digits rest)

-- what a run of octets gives, and after them the rest of the text
pub run_read : (text old new rest : List ℕ) → ReadsRun text old new rest →
    after_octets new (octets_from (digits_of rest) None) ≡ after_octets old (octets_from (digits_of text) None)
run_read text old new rest (octets, gained, (digits, parts, read)) =
    grind (arith, digits_read digits rest octets read, after_both old octets (octets_from (digits_of rest) None), gained, parts)

pub run_shorter : (text old new rest : List ℕ) → ReadsRun text old new rest → length rest ≤ length text
run_shorter text old new rest (octets, gained, (digits, parts, read)) = grind (arith, length-append, parts)
