-- The TSDUs of a connection have one order in which they passed: what had passed by some octet of the capture stands in front.
-- For the law that two kept sides are a pair.
use Rattle.osi_blameless.proofs.accord.Vocabulary.{[], ap, append-nil, append_assoc, arith, false, inl, inr, leb, leb_tells, length}
use Rattle.osi_blameless.proofs.accord.Vocabulary.{length-append}
use Rattle.osi_blameless.proofs.accord.Vocabulary.{List, refl, Some, subst, suc, sym, take, take-append-le, true, zero, ℕ, ◌++◌, ◌-◌, ◌<◌}
use Rattle.osi_blameless.proofs.accord.Vocabulary.{◌^◌, ◌∙◌}
use Rattle.osi_blameless.proofs.accord.Vocabulary.{◌∷◌, ◌≡◌, ◌≤◌, ◌⊎◌, Capture, Passed, after_kept, after_more, begin_within, Joined, Room}
use Rattle.osi_blameless.proofs.accord.Vocabulary.{AreTold}
use Rattle.osi_blameless.proofs.accord.Vocabulary.{BeginWith, connection_in, Turn}
use Rattle.osi_judge.specs.States.{State, after}
use Rattle.osi_blameless.proofs.accord.one_connection_has_a_number.{Later, Tells, later_claim, nothing_told, same_later, told_of_one}

take_all : (k : ℕ) (capture : Capture) → length capture ≤ k → take k capture ≡ capture
take_all zero [] l = refl
take_all (suc k) [] l = refl
take_all zero (o ∷ capture) l = absurd (omega arith)
take_all (suc k) (o ∷ capture) l = ap (λ (x : Capture). o ∷ x) (take_all k capture (omega arith))

more_begin : (turns more : List Turn) (j : Joined) → BeginWith turns j → BeginWith (turns ++ more) j
more_begin turns more j b = record {
  front = b.front;
  back = b.back ++ more;
  parts = ap (λ (x : List Turn). x ++ more) b.parts ∙ append_assoc b.front b.back more;
  are = b.are;
}

begin_with_all : (turns : List Turn) (j : Joined) → AreTold turns j → BeginWith turns j
begin_with_all turns j a = record { front = turns; back = []; parts = sym (append-nil turns); are = a }

module _ (room : Room) (n : ℕ) (below : n < 2 ^ 64 - 1) where
  abbrev passed : Capture → State
  passed capture = after capture (begin_within room)

  -- these TSDUs passed on the connection, and of each part of the capture, from its beginning on, the first of them
  pub record HasPassed (capture : Capture) (turns : List Turn) : Type 0 where
    pub parts : (k : ℕ) (j : Joined) → connection_in room n (take k capture) ≡ Some j → BeginWith turns j
    pub all : Tells n turns (passed capture).course.sessions

  pub record Passes (capture : Capture) : Type 0 where
    pub turns : List Turn
    pub has : HasPassed capture turns

  none_yet : (k : ℕ) (j : Joined) → connection_in room n (take k []) ≡ Some j → BeginWith [] j
  none_yet k j e =
      let is : connection_in room n [] ≡ Some j =
      subst (λ (x : Capture). connection_in room n x ≡ Some j) (take_all k [] (omega arith)) e in
      absurd (cc)

  nothing_passed : HasPassed [] []
  nothing_passed = record { parts = none_yet; all = nothing_told n room }

  one_octet : (capture : Capture) (o : Passed) (turns : List Turn) → HasPassed capture turns → Passes (capture ++ o ∷ [])
  one_octet capture o turns h =
      let before = same_later n turns (passed capture).course.sessions h.all in
      let on = after_kept (Later n turns) (later_claim n turns below) (o ∷ []) (passed capture) before in
      let all = subst (λ (s : State). Tells n (turns ++ on.more) s.course.sessions) (sym (after_more capture (o ∷ []) (begin_within room)))
      on.tells in
      record {
        turns = turns ++ on.more;
        has = record {
          parts = λ k j. by k j (leb_tells k (length capture)) on.more all;
          all = all;
        };
      }
    where
      by : (k : ℕ) (j : Joined) →
          ((leb k (length capture) ≡ true) × (k ≤ length capture)) ⊎ ((leb k (length capture) ≡ false) × (length capture < k)) →
          (more : List Turn) → Tells n (turns ++ more) (passed (capture ++ o ∷ [])).course.sessions →
          connection_in room n (take k (capture ++ o ∷ [])) ≡ Some j → BeginWith (turns ++ more) j
      by k j (inl (is, l)) more t e = more_begin turns more j (h.parts k j (rw (← take-append-le k capture (o ∷ []) l) e))
      by k j (inr (is, l)) more t e =
          begin_with_all (turns ++ more) j
          (told_of_one n (turns ++ more) (passed (capture ++ o ∷ [])).course.sessions j t
          (rw (← take_all k (capture ++ o ∷ []) (grind (arith, length-append))) e)).are

  passes_on : (capture more : Capture) (turns : List Turn) → HasPassed capture turns → Passes (capture ++ more)
  passes_on capture [] turns h = record { turns = turns; has = rw (append-nil capture) h }
  passes_on capture (o ∷ more) turns h =
      let one = one_octet capture o turns h in
      subst Passes (append_assoc capture (o ∷ []) more) (passes_on (capture ++ o ∷ []) more one.turns one.has)

  pub passes : (capture : Capture) → Passes capture
  passes capture = passes_on [] capture [] nothing_passed
