-- A hearing that has heard more of a text holds what passed: for the methods of `Hearing`.
use Rattle.std.proofs.Common.{is_some, OnOk, Result, Ok, Err}
use Rattle.osi_report.proofs.Vocabulary.{◌≡◌, ◌∙◌, refl, sym, ap, subst, ℕ, true, false, List, [], ◌∷◌, ◌++◌}
use Rattle.osi_report.proofs.Vocabulary.{Option, Some, None, arith, append-nil}
use Rattle.osi_report.proofs.Vocabulary.{Capture, stream, Judge, HoldsState, comes_to, Opening, Opens, IsCaptureOf, Judges}
use Rattle.osi_report.proofs.Vocabulary.{IsJudgement, unjudged}
use Rattle.osi_side.specs.declared.directions.Direction.TheVariants as side
use Rattle.osi_listing.specs.Capture.{IsNoCapture}
use Rattle.osi_report.specs.declared.hearing.Hearing.{Hearing}
use Rattle.osi_report.specs.declared.places.Half.{Half}
use Rattle.osi_report.specs.declared.places.Passing.{Passing}
use Rattle.osi_report.specs.declared.places.Place.{Place}
use Rattle.osi_report.specs.declared.places.Step.{Step}
use Rattle.osi_report.specs.Hearing.{IsHeard}
use Rattle.osi_report.specs.Passing.{after_passed, at_end, if_step, passed_by, passed_from, step_of}
use Rattle.osi_report.proofs.what_is_read_octet_by_octet.{after_both}
use Rattle.osi_report.proofs.what_passes_is_the_capture_of_the_text.{is_capture, is_none}

-- octets of a side pass, by what is known of a judge and of how left begins
pub record Pass (old new : Hearing) (passed : Capture) : Type 0 where
  pub judge : (capture : Capture) → HoldsState old.judge (comes_to capture) → HoldsState new.judge (comes_to (capture ++ passed))
  pub opening : (capture : Capture) → Opens old.opening (stream side.Left capture)
      → Opens new.opening (stream side.Left (capture ++ passed))

-- octets passed
pub heard_more : (old new : Hearing) (passed : Capture) (whole rest more : List ℕ) → Pass old new passed → new.fault ≡ old.fault
    → passed_from old.place rest ≡ after_passed passed (passed_from new.place more) → IsHeard old whole rest → IsHeard new whole more
heard_more old new passed whole rest more p f e h = record {
  capture = h.capture ++ passed;
  passed = h.passed ∙ ap (after_passed h.capture) e ∙ sym (after_both h.capture passed (passed_from new.place more));
  holds = p.judge h.capture h.holds;
  opens = p.opening h.capture h.opens;
  sound = f ∙ h.sound;
}

-- a character, by what it does
pub steps_by : (p : Place) (c : ℕ) (s : Step) (more : List ℕ) → step_of p c ≡ Some s
    → passed_from p (c ∷ more) ≡ after_passed (passed_by s.passing) (passed_from s.place more)
steps_by p c s more e = ap (λ (x : Option Step). if_step x (λ (q : Place). passed_from q more)) e

none_after : (passed : Capture) (o : Option Capture) → o ≡ None → after_passed passed o ≡ None
none_after passed o e = ap (after_passed passed) e

-- a character that can't be read
pub not_heard : (h : Hearing) (c : ℕ) (whole more : List ℕ) → step_of h.place c ≡ None → IsHeard h whole (c ∷ more) → IsNoCapture whole
not_heard h c whole more e k =
    is_none whole (k.passed ∙ none_after k.capture (passed_from h.place (c ∷ more))
    (ap (λ (x : Option Step). if_step x (λ (q : Place). passed_from q more)) e))

-- a character that is heard
pub heard_step : {E : Type 0} (r : Result (Unit {0}) E) (old new : Hearing) (c : ℕ) (s : Step) → step_of old.place c ≡ Some s
    → new.place ≡ s.place → new.fault ≡ old.fault
    → OnOk r ((capture : Capture) → HoldsState old.judge (comes_to capture) →
    HoldsState new.judge (comes_to (capture ++ passed_by s.passing)))
    → ((capture : Capture) → Opens old.opening (stream side.Left capture)
    → Opens new.opening (stream side.Left (capture ++ passed_by s.passing)))
    → OnOk r ((whole more : List ℕ) → IsHeard old whole (c ∷ more) → IsHeard new whole more)
heard_step (Ok done) old new c s e p f t o = λ whole more k.
    heard_more old new (passed_by s.passing) whole (c ∷ more) more (record { judge = t; opening = o }) f
    (steps_by old.place c s more e ∙ ap (λ (q : Place). after_passed (passed_by s.passing) (passed_from q more)) (sym p)) k
heard_step (Err x) old new c s e p f t o = t

-- nothing passes
pub none_held : (t : Judge) (o : Option Passing) (capture : Capture) → o ≡ None → HoldsState t (comes_to capture)
    → HoldsState t (comes_to (capture ++ passed_by o))
none_held t o capture e h =
    subst (λ (x : Capture). HoldsState t (comes_to x)) (sym (ap (λ (p : Option Passing). capture ++ passed_by p) e ∙ append-nil capture)) h

pub none_opens : (b : Opening) (o : Option Passing) (capture : Capture) → o ≡ None → Opens b (stream side.Left capture)
    → Opens b (stream side.Left (capture ++ passed_by o))
none_opens b o capture e h =
    subst (λ (x : Capture). Opens b (stream side.Left x))
    (sym (ap (λ (p : Option Passing). capture ++ passed_by p) e ∙ append-nil capture)) h

-- a text that is fed at once
pub heard_at_once : (h : Hearing) (text : List ℕ) → ((t : List ℕ) → IsHeard h t t) → IsHeard h text (text ++ [])
heard_at_once h text f = subst (IsHeard h text) (sym (append-nil text)) (f text)

-- half an octet at the end
no_end : (o : Option Half) → is_some o ≡ true → at_end o ≡ None
no_end None e = absurd (grind (arith, e))
no_end (Some half) e = refl

pub half_heard : (h : Hearing) (text : List ℕ) → is_some h.place.half ≡ true → IsHeard h text [] → IsNoCapture text
half_heard h text e k = is_none text (k.passed ∙ none_after k.capture (at_end h.place.half) (no_end h.place.half e))

pub no_half : (o : Option Half) → is_some o ≡ false → o ≡ None
no_half None e = refl
no_half (Some half) e = absurd (grind (arith, e))

-- all of a text
pub all_heard : (h : Hearing) (text : List ℕ) → h.place.half ≡ None → (k : IsHeard h text []) → IsCaptureOf text k.capture
all_heard h text e k =
    is_capture text k.capture
    (k.passed ∙ ap (λ (x : Option Half). after_passed k.capture (at_end x)) e ∙ ap Some (append-nil k.capture))

-- and its judgement
pub judged_all : (h : Hearing) (text lines : List ℕ) (status : ℕ) → h.place.half ≡ None
    → ((c : Capture) → HoldsState h.judge (comes_to c) → Opens h.opening (stream side.Left c) →
    Judges (unjudged c) (comes_to c) lines status)
    → IsHeard h text [] → IsJudgement text lines status
judged_all h text lines status e f k = record { capture = k.capture; reads = all_heard h text e k; judged = f k.capture k.holds k.opens }
