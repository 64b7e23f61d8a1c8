-- A run of octets whose digits stand side by side passes as octets of the side of its line: for `read_octets`, `read_runs` and
-- `after_blank` of `steps`.
use Rattle.std.proofs.Common.{◌+◌, ◌*◌, ◌-◌, ◌≤◌, slice_index, true}
use Rattle.std.proofs.Math.Seq.{drop-append_seam}
use Rattle.std.proofs.lemmas.List.{take_all}
use Rattle.hex.specs.Hex.{hex_digit_value}
use Rattle.osi_listing.specs.Capture.{is_blank, octets_from}
use Rattle.osi_listing.specs.Digits.{octet_by}
use Rattle.osi_listing.specs.Runs.{ReadsRun}
use Rattle.osi_listing.proofs.octets_side_by_side.{half_an_octet}
use Rattle.osi_listing.proofs.two_digits_make_an_octet.{pair_read, with_octet}
use Rattle.osi_report.proofs.Vocabulary.{◌≡◌, ◌∙◌, refl, sym, ap, ℕ, List, [], ◌∷◌, ◌++◌, length, take, drop, Option, Some, None, arith}
use Rattle.osi_report.proofs.Vocabulary.{append_assoc, length-append, map-append, take-append-drop, Direction, Capture, piece}
use Rattle.osi_report.specs.Passing.{EndsWith, PassesTo, after_passed, passed_from, plain}
use Rattle.osi_report.proofs.what_is_read_octet_by_octet.{after_both, after_none, two_pass}

-- ---- a run

-- one octet, and those after it
one_passes : (d : Direction) (x y : Option ℕ) (a b : ℕ) (digits rest octets : List ℕ) (tail : Option (List ℕ)) → hex_digit_value a ≡ x →
    hex_digit_value b ≡ y → with_octet (octet_by x y) tail ≡ Some octets →
    ((more : List ℕ) → tail ≡ Some more →
    passed_from (plain d) (digits ++ rest) ≡ after_passed (piece d more) (passed_from (plain d) rest)) →
    passed_from (plain d) (a ∷ b ∷ (digits ++ rest)) ≡ after_passed (piece d octets) (passed_from (plain d) rest)
one_passes d None y a b digits rest octets tail u v e so_far = absurd (search (arith, e))
one_passes d (Some h) None a b digits rest octets tail u v e so_far = absurd (search (arith, e))
one_passes d (Some h) (Some l) a b digits rest octets None u v e so_far = absurd (search (arith, e))
one_passes d (Some h) (Some l) a b digits rest octets (Some more) u v e so_far =
    let is : (h * 16 + l) ∷ more ≡ octets = search (arith, e) in
    two_pass d a b h l (digits ++ rest) u v
    ∙ ap (after_passed (piece d ((h * 16 + l) ∷ []))) (so_far more refl)
    ∙ sym (after_both (piece d ((h * 16 + l) ∷ [])) (piece d more) (passed_from (plain d) rest))
    ∙ ap (λ (os : List ℕ). after_passed (piece d os) (passed_from (plain d) rest)) is

digits_pass : (d : Direction) (digits rest octets : List ℕ) → octets_from digits None ≡ Some octets →
    passed_from (plain d) (digits ++ rest) ≡ after_passed (piece d octets) (passed_from (plain d) rest)
digits_pass d [] rest octets e =
    let is : [] ≡ octets = search (arith, e) in
    sym (after_none (passed_from (plain d) rest)) ∙ ap (λ (os : List ℕ). after_passed (piece d os) (passed_from (plain d) rest)) is
digits_pass d (a ∷ []) rest octets e = absurd (half_an_octet a octets e)
digits_pass d (a ∷ b ∷ digits) rest octets e =
    one_passes d (hex_digit_value a) (hex_digit_value b) a b digits rest octets (octets_from digits None) refl refl
    (sym (pair_read a b digits) ∙ e) (digits_pass d digits rest)

pub run_passes : (text old new rest : List ℕ) → ReadsRun text old new rest → PassesTo text old new rest
run_passes text old new rest (octets, gained, (digits, parts, read)) d more =
    ap (λ (os : List ℕ). after_passed (piece d os) (passed_from (plain d) (rest ++ more))) gained
    ∙ ap (λ (passed : Capture). after_passed passed (passed_from (plain d) (rest ++ more))) (map-append _ old octets)
    ∙ after_both (piece d old) (piece d octets) (passed_from (plain d) (rest ++ more))
    ∙ ap (after_passed (piece d old))
    (sym (digits_pass d digits (rest ++ more) octets read)
    ∙ ap (passed_from (plain d)) (sym (append_assoc digits rest more) ∙ ap (λ (t : List ℕ). t ++ more) (sym parts)))

pub run_ends : (text old new rest : List ℕ) → ReadsRun text old new rest → EndsWith text rest
run_ends text old new rest (octets, gained, (digits, parts, read)) = (digits, parts)

-- ---- one run after the other

pub passes_next : (text old mid new rest behind last : List ℕ) → PassesTo text old mid rest →
    ((d : Direction) (more : List ℕ) → passed_from (plain d) (behind ++ more) ≡ passed_from (plain d) (rest ++ more)) →
    PassesTo behind mid new last → PassesTo text old new last
passes_next text old mid new rest behind last so_far same next d more =
    next d more ∙ ap (after_passed (piece d mid)) (same d more) ∙ so_far d more

pub ends_next : (text rest last : List ℕ) → EndsWith text rest → EndsWith rest last → EndsWith text last
ends_next text rest last (used, parts) (more, others) =
    (used ++ more, parts ∙ ap (λ (t : List ℕ). used ++ t) others ∙ sym (append_assoc used more last))

pub ends_shorter : (text rest : List ℕ) → EndsWith text rest → length rest ≤ length text
ends_shorter text rest (used, parts) = grind (arith, length-append, parts)

-- ---- a blank

blank_same : (d : Direction) (c : ℕ) (rest : List ℕ) → is_blank c ≡ true → passed_from (plain d) rest ≡ passed_from (plain d) (c ∷ rest)
blank_same d c rest e = search (arith, after_none)

all_behind : (c : ℕ) (rest : List ℕ) → take (length (c ∷ rest) - 1) (drop 1 (c ∷ rest)) ≡ rest
all_behind c rest = grind (arith, take_all)

pub blank_passes : (text : List ℕ) → 1 ≤ length text → is_blank (slice_index text 0) ≡ true → (d : Direction) (more : List ℕ) →
    passed_from (plain d) (take (length text - 1) (drop 1 text) ++ more) ≡ passed_from (plain d) (text ++ more)
blank_passes [] some e d more = absurd (omega arith)
blank_passes (c ∷ rest) some e d more =
    ap (λ (t : List ℕ). passed_from (plain d) (t ++ more)) (all_behind c rest) ∙ blank_same d c (rest ++ more) e

pub blank_ends : (text : List ℕ) → 1 ≤ length text → EndsWith text (take (length text - 1) (drop 1 text))
blank_ends [] some = absurd (omega arith)
blank_ends (c ∷ rest) some = (c ∷ [], ap (λ (t : List ℕ). c ∷ t) (sym (all_behind c rest)))

-- ---- the first characters of a text

rest_is : (front behind left : List ℕ) → EndsWith front left → drop (length front - length left) (front ++ behind) ≡ left ++ behind
rest_is front behind left (used, parts) =
    let whole : length front ≡ length used + length left = ap (λ (t : List ℕ). length t) parts ∙ length-append used left in
    let size : length front - length left ≡ length used = omega arith in
    ap (λ (n : ℕ). drop n (front ++ behind)) size
    ∙ ap (λ (t : List ℕ). drop (length used) (t ++ behind)) parts
    ∙ ap (drop (length used)) (append_assoc used left behind)
    ∙ drop-append_seam used (left ++ behind)

pub first_is_read : (text front left rest new : List ℕ) (n : ℕ) → front ≡ take n text → PassesTo front [] new left → EndsWith front left →
    rest ≡ drop (length front - length left) text → (d : Direction) (more : List ℕ) →
    passed_from (plain d) (text ++ more) ≡ after_passed (piece d new) (passed_from (plain d) (rest ++ more))
first_is_read text front left rest new n is passes ends after d more =
    let behind : List ℕ = drop n text in
    let whole : text ≡ front ++ behind = sym (take-append-drop n text) ∙ ap (λ (t : List ℕ). t ++ behind) (sym is) in
    let left_over : rest ≡ left ++ behind =
    after ∙ ap (drop (length front - length left)) whole ∙ rest_is front behind left ends in
    ap (λ (t : List ℕ). passed_from (plain d) (t ++ more)) whole
    ∙ ap (passed_from (plain d)) (append_assoc front behind more)
    ∙ sym (after_none (passed_from (plain d) (front ++ (behind ++ more))))
    ∙ sym (passes d (behind ++ more))
    ∙ ap (λ (t : List ℕ). after_passed (piece d new) (passed_from (plain d) t)) (sym (append_assoc left behind more))
    ∙ ap (λ (t : List ℕ). after_passed (piece d new) (passed_from (plain d) (t ++ more))) (sym left_over)
