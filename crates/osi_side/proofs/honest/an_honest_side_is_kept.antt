-- What was found of an honest side is no break, nor that it left the profile.
-- For the law that an honest side is not blamed.
use Rattle.std.proofs.Common.{arith}
use Rattle.osi_side.proofs.Vocabulary.{◌≡◌, ℕ, ◌+◌, true, false, List, take, None, take-append-drop, Opening, awaits, opens}
use Rattle.osi_side.proofs.Vocabulary.{refusal_of, Seen, seen_called, seen_calling, Direction, Finding, Told, IsExplained, IsSentFrom}
use Rattle.osi_side.proofs.Vocabulary.{IsHonest, IsFound, selects_outside, broke_session, begin_of}
use Rattle.osi_side.specs.declared.directions.Direction.TheVariants.{Left as left, Right as right}
use Rattle.osi_side.proofs.honest.a_call_is_explained.{AsSent}
use Rattle.osi_side.proofs.honest.a_caller_is_explained.{front_told}
use Rattle.osi_side.proofs.honest.a_cn_is_answered_within_its_units.{first_asked}
use Rattle.osi_side.proofs.honest.an_honest_run_stays_in_the_profile.{AllInside, AsParts, honest_inside}

abbrev pub CallerLaw : Type 0
CallerLaw = (o : Opening) (us : List (List ℕ)) (told : List Told) → refusal_of o ≡ None → IsSentFrom (opens o) us told →
    IsExplained seen_calling us told

abbrev pub CalledLaw : Type 0
CalledLaw = (us : List (List ℕ)) (told : List Told) → IsSentFrom awaits us told → IsExplained seen_called us told

honest_explained : CallerLaw → CalledLaw → (d : Direction) (us : List (List ℕ)) (told : List Told) → IsHonest d us told →
    IsExplained (begin_of d) us told
honest_explained caller called left us told h = caller h.0 us told h.1 h.2
honest_explained caller called right us told h = called us told h

front_outside : (us : List (List ℕ)) (told : List Told) (i : ℕ) → AllInside (first_asked us) told
    → selects_outside us (take i told) ≡ true → ⊥
front_outside us told i a s = grind arith

-- a prefix of a side that is explained is explained
not_broken : (begin : Seen) (us : List (List ℕ)) (told : List Told) (i : ℕ) → IsExplained begin us told →
    (IsExplained begin us (take (i + 1) told) → ⊥) → ⊥
not_broken begin us told i e n = grind (arith, front_told, take-append-drop (i + 1) told)

pub not_blamed : AsSent → AsParts → CallerLaw → CalledLaw → (d : Direction) (us : List (List ℕ)) (told : List Told) (finding : Finding)
    → IsHonest d us told → IsFound (begin_of d) us told finding → broke_session finding ≡ false
not_blamed known parts caller called d us told finding h f = grind (arith, honest_explained, honest_inside, not_broken, front_outside)
