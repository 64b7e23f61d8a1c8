-- Octets whose digits stand side by side, one run after the other: for the functions of `runs`.
use Rattle.osi_listing.proofs.Vocabulary.{◌≡◌, ◌∙◌, ℕ, ◌-◌, ◌<◌, ◌≤◌, List, [], ◌∷◌, ◌++◌, length, take, drop, slice_index}
use Rattle.osi_listing.proofs.Vocabulary.{Option, Some, None, Result, Ok, Err, IfOk, refl, sym, ap, arith, append_assoc, append-nil}
use Rattle.osi_listing.proofs.Vocabulary.{take-append-drop, take_all, hex_digit_value, octets_from, if_digit, with_digit}
use Rattle.osi_listing.specs.Digits.{octet_of}
use Rattle.osi_listing.specs.Runs.{BeginsNoOctet, BeginsWith, ReadsRun}
use Rattle.osi_listing.proofs.two_digits_make_an_octet.{pair_read, with_octet}

-- half an octet gives nothing
half_by : (o : Option ℕ) (octets : List ℕ) → if_digit o (λ digit. with_digit None digit (octets_from [])) ≡ Some octets → ⊥
half_by None octets e = search (arith, e)
half_by (Some d) octets e = search (arith, e)

pub half_an_octet : (a : ℕ) (octets : List ℕ) → octets_from (a ∷ []) None ≡ Some octets → ⊥
half_an_octet a octets e = half_by (hex_digit_value a) octets e

joins : (o : Option ℕ) (tail whole : Option (List ℕ)) (octets more : List ℕ) → with_octet o tail ≡ Some octets →
    ((some : List ℕ) → tail ≡ Some some → whole ≡ Some (some ++ more)) → with_octet o whole ≡ Some (octets ++ more)
joins None tail whole octets more e so_far = absurd (search (arith, e))
joins (Some w) None whole octets more e so_far = absurd (search (arith, e))
joins (Some w) (Some some) whole octets more e so_far = grind (arith, so_far some refl, e)

both_read : (digits others octets more : List ℕ) → octets_from digits None ≡ Some octets → octets_from others None ≡ Some more →
    octets_from (digits ++ others) None ≡ Some (octets ++ more)
both_read [] others octets more e h = grind (arith, e, h)
both_read (a ∷ []) others octets more e h = absurd (half_an_octet a octets e)
both_read (a ∷ b ∷ digits) others octets more e h =
    pair_read a b (digits ++ others)
    ∙ joins (octet_of a b) (octets_from digits None) (octets_from (digits ++ others) None) octets more (sym (pair_read a b digits) ∙ e)
    (λ some f. both_read digits others some more f h)

-- ---- runs

pub run_none : (text old : List ℕ) → ReadsRun text old old text
run_none text old = ([], sym (append-nil old), ([], refl, refl))

pub run_both : (text old mid new rest last : List ℕ) → ReadsRun text old mid rest → ReadsRun rest mid new last → ReadsRun text old new last
run_both text old mid new rest last (a, gained, (digits, parts, read)) (b, more, (others, left, then)) = (
  a ++ b,
  grind (arith, append_assoc, gained, more),
  (digits ++ others, grind (arith, append_assoc, parts, left), both_read digits others a b read then),
)

pub run_more : (text old mid new rest octets behind : List ℕ) → ReadsRun text old mid rest → BeginsWith rest octets behind →
    new ≡ mid ++ octets → ReadsRun text old new behind
run_more text old mid new rest octets behind so_far begins gained = run_both text old mid new rest behind so_far (octets, gained, begins)

-- the rest of a text is read by a call
pub then_run : {A E : Type 0} (view : A → List ℕ) (r : Result A E) (text old mid new rest : List ℕ) → ReadsRun text old mid rest →
    IfOk r (λ last. ReadsRun rest mid new (view last)) → IfOk r (λ last. ReadsRun text old new (view last))
then_run view (Ok last) text old mid new rest so_far reads = run_both text old mid new rest (view last) so_far reads
then_run view (Err e) text old mid new rest so_far reads = tt

-- ---- at the front of a text

pub run_split : (text old mid new rest octets : List ℕ) (n : ℕ) → ReadsRun text old mid rest →
    octets_from (take n rest) None ≡ Some octets → new ≡ mid ++ octets → ReadsRun text old new (drop n rest)
run_split text old mid new rest octets n so_far e gained =
    run_more text old mid new rest octets (drop n rest) so_far (take n rest, sym (take-append-drop n rest), e) gained

pub octet_begins : (text : List ℕ) (octet : ℕ) → 2 ≤ length text → octet_of (slice_index text 0) (slice_index text 1) ≡ Some octet →
    BeginsWith text (octet ∷ []) (take (length text - 2) (drop 2 text))
octet_begins [] octet two e = absurd (omega arith)
octet_begins (a ∷ []) octet two e = absurd (omega arith)
octet_begins (a ∷ b ∷ rest) octet two e =
    (a ∷ b ∷ [], grind (arith, take_all), pair_read a b [] ∙ ap (λ o. with_octet o (Some [])) e)

pub begins_short : (text : List ℕ) → length text < 2 → BeginsNoOctet text
begins_short [] short = tt
begins_short (a ∷ []) short = tt
begins_short (a ∷ b ∷ rest) short = absurd (omega arith)

pub begins_other : (text : List ℕ) → 2 ≤ length text → octet_of (slice_index text 0) (slice_index text 1) ≡ None → BeginsNoOctet text
begins_other [] two e = tt
begins_other (a ∷ []) two e = tt
begins_other (a ∷ b ∷ rest) two e = e
