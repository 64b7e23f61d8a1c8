-- A judge with a bound that was fed a capture holds what the capture comes to within the bound, and tells the first break of that.
-- For the laws on such a judge.
use Rattle.osi_blameless.proofs.Vocabulary.{arith, ℕ, ◌≡◌, Some, Capture, First, Judge, IsFirstOf, HoldsState, IsJudged, first_in}
use Rattle.osi_blameless.proofs.Vocabulary.{first_held, after_more, IsFedWithin, comes_within, fed, unfed}

pub holds_within : (most : ℕ) (capture : Capture) (t : Judge) → IsFedWithin most capture t → HoldsState t (comes_within most capture)
holds_within most _ _ (unfed t h) = h
holds_within most _ _ (fed capture d octets old new was f) = grind (arith, after_more, holds_within most capture old was)

pub first_told : (most : ℕ) (capture : Capture) (t : Judge) → IsFedWithin most capture t → IsJudged t →
    IsFirstOf (first_in t) (comes_within most capture).course.past
first_told most capture t was judged = first_held t (comes_within most capture) (holds_within most capture t was) judged

-- if it tells one
pub some_told : (most : ℕ) (capture : Capture) (t : Judge) (f : First) → IsFedWithin most capture t → IsJudged t → first_in t ≡ Some f →
    IsFirstOf (Some f) (comes_within most capture).course.past
some_told most capture t f was judged told = grind (arith, first_told)
