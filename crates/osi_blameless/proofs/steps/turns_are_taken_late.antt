-- An end takes each of its turns as late as what the capture shows allows: just before the first octet passes that the turn put. By
-- then all that it used has passed.
-- For the law that a capture of an end is steps.
use Rattle.osi_blameless.proofs.Vocabulary.{[], ap, append_assoc, arith, inl, inr, length, List, refl, suc, sym, ℕ, ◌++◌, ◌+◌, ◌<◌, ◌∙◌}
use Rattle.osi_blameless.proofs.Vocabulary.{◌∷◌, ◌≡◌, ◌≤◌, leb_tells, append_cancel_left, length-append, Capture, of, other, Passed}
use Rattle.osi_blameless.proofs.Vocabulary.{passed_before, stream, Direction, Left, Right, part_of, IsPrefix, IsSeen, PassAfter, put_along}
use Rattle.osi_blameless.proofs.Vocabulary.{used_along, Turn}

-- ---- in which order octets pass and turns are taken

-- Of octets that an end put so many are still to pass, and so many of the other side have passed that it has not used.
pub data Follows (d : Direction) : List ℕ → List ℕ → Capture → List Turn → Type 0 where
  all_passed : (put ahead : List ℕ) (turns : List Turn) → Follows d put ahead [] turns
  own_passes : (octet : ℕ) (o : Passed) (all put ahead : List ℕ) (capture : Capture) (turns : List Turn) → o ≡ of d octet →
      all ≡ octet ∷ put → Follows d put ahead capture turns → Follows d all ahead (o ∷ capture) turns
  other_passes : (octet : ℕ) (o : Passed) (put ahead : List ℕ) (capture : Capture) (turns : List Turn) → o ≡ of (other d) octet →
      Follows d put (ahead ++ octet ∷ []) capture turns → Follows d put ahead (o ∷ capture) turns
  turn_taken : (turn : Turn) (put all ahead : List ℕ) (capture : Capture) (turns : List Turn) → all ≡ turn.used ++ ahead →
      Follows d (put ++ turn.put) ahead capture turns → Follows d put all capture (turn ∷ turns)

-- ---- what is known of the octets and turns that are left

-- Of n octets that are left to pass, octet k passes after this many of the other side.
abbrev PassLate : (n : ℕ) → (ℕ → ℕ) → (ahead used put : ℕ) → List Turn → Type 0
PassLate n before ahead used put [] = Unit {0}
PassLate n before ahead used put (turn ∷ turns) =
    ((k : ℕ) → put ≤ k → k < put + length turn.put → k < n → used + length turn.used ≤ ahead + before k)
    × PassLate n before ahead (used + length turn.used) (put + length turn.put) turns

record Sees (own theirs : List ℕ) (before : ℕ → ℕ) (turns : List Turn) (put ahead : List ℕ) : Type 0 where
  all : IsPrefix own (put ++ put_along turns)
  coming : List ℕ
  shown : IsPrefix (ahead ++ theirs) coming
  used : IsPrefix (used_along turns) coming
  late : PassLate (length own) before (length ahead) 0 (length put) turns

-- ---- counts

late_as : (n : ℕ) (before : ℕ → ℕ) (ahead used put less left begun : ℕ) (turns : List Turn) → used + less ≡ left + ahead → put ≡ begun →
    PassLate n before ahead used put turns → PassLate n before less left begun turns
late_as n before ahead used put less left begun [] same start late = tt
late_as n before ahead used put less left begun (turn ∷ turns) same start late = (
  λ k low high shown. let all = late.0 k (omega arith) (omega arith) shown in omega arith,
  late_as n before ahead (used + length turn.used) (put + length turn.put) less (left + length turn.used) (begun + length turn.put) turns
      (omega arith) (omega arith) late.1,
)

late_next : (n m : ℕ) (before : ℕ → ℕ) (ahead used put begun : ℕ) (turns : List Turn) → n ≡ suc m → put ≡ suc begun →
    PassLate n before ahead used put turns → PassLate m (λ k. before (suc k)) ahead used begun turns
late_next n m before ahead used put begun [] size start late = tt
late_next n m before ahead used put begun (turn ∷ turns) size start late = (
  λ k low high shown. late.0 (suc k) (omega arith) (omega arith) (omega arith),
  late_next n m before ahead (used + length turn.used) (put + length turn.put) (begun + length turn.put) turns size (omega arith) late.1,
)

late_more : (n : ℕ) (before now : ℕ → ℕ) (ahead more used put : ℕ) (turns : List Turn) → ((k : ℕ) → before k ≡ now k + 1) →
    more ≡ ahead + 1 → PassLate n before ahead used put turns → PassLate n now more used put turns
late_more n before now ahead more used put [] one same late = tt
late_more n before now ahead more used put (turn ∷ turns) one same late =
    grind (arith, late_more n before now ahead more (used + length turn.used) (put + length turn.put) turns one same late.1)

-- what is put from some turn on passes after all that was used by the end of this turn
late_first : (n : ℕ) (before : ℕ → ℕ) (ahead used put : ℕ) (turn : Turn) (turns : List Turn) →
    PassLate n before ahead used put (turn ∷ turns) → (k : ℕ) → put ≤ k → k < put + length (put_along (turn ∷ turns)) → k < n →
    used + length turn.used ≤ ahead + before k
late_first n before ahead used put turn [] late k low high shown = grind (arith, length-append)
late_first n before ahead used put turn (next ∷ turns) late k low high shown =
    let size = length-append turn.put (put_along (next ∷ turns)) in
    elim (leb_tells (put + length turn.put) k) [
      | inl (is, later) ↦ let all = late_first n before ahead (used + length turn.used) (put + length turn.put) next turns late.1 k later
          (omega arith) shown in omega arith
      | inr (is, sooner) ↦ late.0 k low sooner shown
    ]

-- ---- what an octet or a turn leaves of it

own_left : (x y : ℕ) (own theirs put ahead : List ℕ) (before : ℕ → ℕ) (turns : List Turn) →
    Sees (x ∷ own) theirs before turns (y ∷ put) ahead → (y ≡ x) × Sees own theirs (λ k. before (suc k)) turns put ahead
own_left x y own theirs put ahead before turns s = grind (arith, late_next)

turn_left : (x : ℕ) (own theirs ahead : List ℕ) (before : ℕ → ℕ) (turn : Turn) (turns : List Turn) → before 0 ≡ 0 →
    Sees (x ∷ own) theirs before (turn ∷ turns) [] ahead →
    (rest : List ℕ) × (ahead ≡ turn.used ++ rest) × Sees (x ∷ own) theirs before turns turn.put rest
turn_left x own theirs ahead before turn turns none s =
    let put : suc (length (own ++ s.all.0)) ≡ length (put_along (turn ∷ turns)) = ap length s.all.1 in
    let passed = late_first (length (x ∷ own)) before (length ahead) 0 0 turn turns s.late 0 (omega arith) (omega arith) (omega arith) in
    let later = s.used.0 in
    let by_turn : turn.used ++ (used_along turns ++ later) ≡ s.coming = sym (append_assoc turn.used (used_along turns) later) ∙ s.used.1 in
    let by_judge : ahead ++ (theirs ++ s.shown.0) ≡ s.coming = sym (append_assoc ahead theirs s.shown.0) ∙ s.shown.1 in
    let front = part_of turn.used ahead s.coming (used_along turns ++ later) (theirs ++ s.shown.0) by_turn by_judge (omega arith) in
    let rest = front.0 in
    let size = length-append turn.used rest in
    let whole = ap length front.1 in
    let left : (rest ++ theirs) ++ s.shown.0 ≡ used_along turns ++ later = grind (arith, append_cancel_left, append_assoc) in (
      rest,
      sym front.1,
      record {
        all = s.all;
        coming = used_along turns ++ later;
        shown = (s.shown.0, left);
        used = (later, refl);
        late = grind (arith, late_as);
      },
    )

-- ---- the order

own_next : (d : Direction) (x : ℕ) (capture : Capture) (own theirs : List ℕ) (before : ℕ → ℕ) → before 0 ≡ 0 →
    ((turns : List Turn) (put ahead : List ℕ) → Sees own theirs (λ k. before (suc k)) turns put ahead → Follows d put ahead capture turns) →
    (turns : List Turn) (put ahead : List ℕ) → Sees (x ∷ own) theirs before turns put ahead →
    Follows d put ahead (of d x ∷ capture) turns
own_next d x capture own theirs before none on turns (y ∷ put) ahead s =
    let k = own_left x y own theirs put ahead before turns s in
    own_passes x (of d x) (y ∷ put) put ahead capture turns refl (λ i. k.0 i ∷ put) (on turns put ahead k.1)
own_next d x capture own theirs before none on [] [] ahead s = let both : x ∷ (own ++ s.all.0) ≡ [] = s.all.1 in absurd (cc)
own_next d x capture own theirs before none on (turn ∷ turns) [] ahead s =
    let k = turn_left x own theirs ahead before turn turns none s in
    turn_taken turn [] ahead k.0 (of d x ∷ capture) turns k.1 (own_next d x capture own theirs before none on turns turn.put k.0 k.2)

order : (d : Direction) (capture : Capture) (turns : List Turn) (put ahead : List ℕ) →
    Sees (stream d capture) (stream (other d) capture) (passed_before d capture) turns put ahead → Follows d put ahead capture turns
order d [] turns put ahead s = all_passed put ahead turns
order Left (of Left x ∷ capture) turns put ahead s =
    own_next Left x capture (stream Left capture) (stream Right capture) (passed_before Left (of Left x ∷ capture)) refl
    (λ turns put ahead s. order Left capture turns put ahead s) turns put ahead s
order Right (of Right x ∷ capture) turns put ahead s =
    own_next Right x capture (stream Right capture) (stream Left capture) (passed_before Right (of Right x ∷ capture)) refl
    (λ turns put ahead s. order Right capture turns put ahead s) turns put ahead s
order Left (of Right x ∷ capture) turns put ahead s =
    other_passes x (of Right x) put ahead capture turns refl (order Left capture turns put (ahead ++ x ∷ [])
    (grind (arith, append_assoc, late_more, length-append)))
order Right (of Left x ∷ capture) turns put ahead s =
    other_passes x (of Left x) put ahead capture turns refl (order Right capture turns put (ahead ++ x ∷ [])
    (grind (arith, append_assoc, late_more, length-append)))

late_all : (d : Direction) (capture : Capture) (used put : ℕ) (turns : List Turn) → PassAfter d capture used put turns →
    PassLate (length (stream d capture)) (passed_before d capture) 0 used put turns
late_all d capture used put [] after = tt
late_all d capture used put (turn ∷ turns) after =
    grind (arith, late_all d capture (used + length turn.used) (put + length turn.put) turns after.1)

pub seen_follows : (d : Direction) (turns : List Turn) (capture : Capture) → IsSeen d turns capture → Follows d [] [] capture turns
seen_follows d turns capture seen = grind (arith, order, late_all)
