-- The octets of each side are counted as they pass, so a side that sent none is known: for the law that one direction is not judged.
use Rattle.std.proofs.Common.{arith}
use Rattle.osi_report.proofs.Vocabulary.{◌≡◌, ◌∙◌, ap, refl, subst, ℕ, ◌+◌, ◌==◌, Bool, true, false, if◌then◌else◌, List, []}
use Rattle.osi_report.proofs.Vocabulary.{◌∷◌, ◌++◌, length, length-append, offset_of, Capture, Direction, of, other, stream}
use Rattle.osi_report.proofs.Vocabulary.{Front, Streamed, counted, gathered, faulty, partial, whole, State, after, begin, begun, comes_to}
use Rattle.osi_report.proofs.Vocabulary.{looked_at, looks, octet_passes, stream_of, with_stream, Last, Pair, Transport}
use Rattle.osi_report.proofs.Vocabulary.{flat_map, last_line, read_lines, IsJudgement, Judges}
use Rattle.osi_side.specs.Captures.{own}
use Rattle.osi_side.specs.declared.directions.Direction.TheVariants as side
use Rattle.osi_report.specs.Blaming.{BlameNowhere}
use Rattle.osi_report.specs.Blaming.BlameNowhere.{not_judged}
use Rattle.osi_report.specs.Quiet.{lines_if, unjudged_text}
use Rattle.osi_report.specs.Openings.{has_no_octets, lacks_a_side, begins_late, unjudged_by}
use Rattle.osi_report.specs.declared.reports.Last.TheVariants.{NoOctets, OneDirection}

abbrev octets_of : Direction → State → ℕ
octets_of d s = (stream_of d s).octets

-- ---- what an octet counts, for its own side and for the other

looked_own : (d : Direction) (t : Streamed) (f : Front) (s : State) → octets_of d (looked_at d t f s) ≡ t.octets
looked_own side.Left t partial s = refl
looked_own side.Left t (faulty fault) s = refl
looked_own side.Left t (whole unit) s = refl
looked_own side.Right t partial s = refl
looked_own side.Right t (faulty fault) s = refl
looked_own side.Right t (whole unit) s = refl

looked_beside : (d : Direction) (t : Streamed) (f : Front) (s : State) → octets_of (other d) (looked_at d t f s) ≡ octets_of (other d) s
looked_beside side.Left t partial s = refl
looked_beside side.Left t (faulty fault) s = refl
looked_beside side.Left t (whole unit) s = refl
looked_beside side.Right t partial s = refl
looked_beside side.Right t (faulty fault) s = refl
looked_beside side.Right t (whole unit) s = refl

begun_beside : (d : Direction) (held : List ℕ) (s : State) → octets_of (other d) (begun d held s) ≡ octets_of (other d) s
begun_beside side.Left [] s = refl
begun_beside side.Left (o ∷ held) s = refl
begun_beside side.Right [] s = refl
begun_beside side.Right (o ∷ held) s = refl

abbrev passed_by : Bool → Direction → List ℕ → State → State
passed_by b d os s =
    if b then with_stream d (counted (length os) (stream_of d s)) s
    else looks d (gathered os (stream_of d s)) (begun d (stream_of d s).held s)

own_by : (b : Bool) (d : Direction) (os : List ℕ) (s : State) → octets_of d (passed_by b d os s) ≡ offset_of (octets_of d s + length os)
own_by true side.Left os s = refl
own_by true side.Right os s = refl
own_by false d os s = looked_own d (gathered os (stream_of d s)) _ (begun d (stream_of d s).held s)

beside_by : (b : Bool) (d : Direction) (os : List ℕ) (s : State) → octets_of (other d) (passed_by b d os s) ≡ octets_of (other d) s
beside_by true side.Left os s = refl
beside_by true side.Right os s = refl
beside_by false d os s =
    looked_beside d (gathered os (stream_of d s)) _ (begun d (stream_of d s).held s) ∙ begun_beside d (stream_of d s).held s

-- ---- octet by octet

one_more : (was now n : ℕ) → now ≡ offset_of (was + 1) → was ≡ offset_of n → now ≡ offset_of (n + 1)
one_more was now n e h = omega (arith, e, h)

none_more : (was now n : ℕ) → now ≡ was → was ≡ offset_of n → now ≡ offset_of (n + 0)
none_more was now n e h = omega (arith, e, h)

octet_counts : (d e : Direction) (o n : ℕ) (s : State) → octets_of e s ≡ offset_of n
    → octets_of e (octet_passes (of d o) s) ≡ offset_of (n + length (own e (of d o)))
octet_counts side.Left side.Left o n s h = one_more _ _ n (own_by s.left.spent side.Left (o ∷ []) s) h
octet_counts side.Right side.Right o n s h = one_more _ _ n (own_by s.right.spent side.Right (o ∷ []) s) h
octet_counts side.Left side.Right o n s h = none_more _ _ n (beside_by s.left.spent side.Left (o ∷ []) s) h
octet_counts side.Right side.Left o n s h = none_more _ _ n (beside_by s.right.spent side.Right (o ∷ []) s) h

parts_count : (n : ℕ) (some rest : List ℕ) → n + length some + length rest ≡ n + length (some ++ rest)
parts_count n some rest = let h = length-append some rest in omega (arith, h)

counts_after : (e : Direction) (capture : Capture) (s : State) (n : ℕ) → octets_of e s ≡ offset_of n
    → octets_of e (after capture s) ≡ offset_of (n + length (stream e capture))
counts_after e [] s n h = none_more _ _ n refl h
counts_after e (of d o ∷ capture) s n h =
    counts_after e capture (octet_passes (of d o) s) (n + length (own e (of d o))) (octet_counts d e o n s h)
    ∙ ap offset_of (parts_count n (own e (of d o)) (stream e capture))

begin_counts : (e : Direction) → octets_of e begin ≡ offset_of 0
begin_counts side.Left = omega arith
begin_counts side.Right = omega arith

none_before : (n : ℕ) → 0 + n ≡ n
none_before n = omega arith

counted_of : (e : Direction) (capture : Capture) → octets_of e (comes_to capture) ≡ offset_of (length (stream e capture))
counted_of e capture = counts_after e capture begin 0 (begin_counts e) ∙ ap offset_of (none_before (length (stream e capture)))

-- ---- a side that sent nothing

no_length : (n : ℕ) (os : List ℕ) → n ≡ offset_of (length os) → os ≡ [] → n ≡ 0
no_length n [] h e = omega (arith, h)
no_length n (o ∷ os) h e = absurd (cc)

some_length : (n : ℕ) (os : List ℕ) → n ≡ offset_of (length os) → (os ≡ [] → ⊥) → (n == 0) ≡ false
some_length n [] h e = absurd (e refl)
some_length n (o ∷ os) h e = grind arith

lacks_by : (e : Direction) (s : State) → octets_of e s ≡ 0 → lacks_a_side s ≡ true
lacks_by side.Left s h = grind arith
lacks_by side.Right s h = grind arith

pub lacks_of : (e : Direction) (capture : Capture) → stream e capture ≡ [] → lacks_a_side (comes_to capture) ≡ true
lacks_of e capture none = lacks_by e (comes_to capture) (no_length _ (stream e capture) (counted_of e capture) none)

counted_by : (e : Direction) (s : State) → (octets_of (other e) s == 0) ≡ false → has_no_octets s ≡ false
counted_by side.Left s h = grind arith
counted_by side.Right s h = grind arith

-- nothing is judged then, and nobody is blamed
quiet_by : (d : Direction) (empty late : Bool) (s : State) (lines : List ℕ) (status : ℕ) →
    Judges (unjudged_by empty true late) s lines status
    → BlameNowhere d lines × (status ≡ 1)
quiet_by d true late s lines status h = (not_judged _ _ h.pairs NoOctets h.told refl, h.answered)
quiet_by d false late s lines status h = (not_judged _ _ h.pairs OneDirection h.told refl, h.answered)

text_of : (left right : Transport) (ps : List Pair) (why : Last) → unjudged_text left right ps why
    ≡ (read_lines left right ++ flat_map (lines_if false) ps) ++ last_line why
unfolding unjudged_text
text_of left right ps why = refl

ends_by : (empty late : Bool) (s : State) (lines : List ℕ) (status : ℕ) → empty ≡ false →
    Judges (unjudged_by empty true late) s lines status
    → (front : List ℕ) × (lines ≡ front ++ last_line OneDirection)
ends_by true late s lines status e h = absurd (cc)
ends_by false late s lines status e h = (_, h.told ∙ text_of _ _ h.pairs OneDirection)

module _ (e : Direction) (text lines : List ℕ) (status : ℕ) (j : IsJudgement text lines status) (none : stream e j.capture ≡ []) where
  lacking : Judges (unjudged_by (has_no_octets (comes_to j.capture)) true (begins_late (comes_to j.capture) (stream side.Left j.capture)))
      (comes_to j.capture) lines status
  lacking =
      subst
      (λ (b : Bool).
      Judges (unjudged_by (has_no_octets (comes_to j.capture)) b (begins_late (comes_to j.capture) (stream side.Left j.capture)))
      (comes_to j.capture) lines status)
      (lacks_of e j.capture none) j.judged

  pub one_blames : (d : Direction) → BlameNowhere d lines × (status ≡ 1)
  one_blames d = quiet_by d _ _ (comes_to j.capture) lines status lacking

  pub one_ends : (stream (other e) j.capture ≡ [] → ⊥) → (front : List ℕ) × (lines ≡ front ++ last_line OneDirection)
  one_ends some =
      ends_by _ _ (comes_to j.capture) lines status
      (counted_by e (comes_to j.capture) (some_length _ (stream (other e) j.capture) (counted_of (other e) j.capture) some)) lacking
