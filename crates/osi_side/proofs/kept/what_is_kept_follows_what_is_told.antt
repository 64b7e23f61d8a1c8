-- The sessions that are kept of a side follow what it tells, and how many they are: for what is known of a side.
use Rattle.osi_side.proofs.Vocabulary.{◌≡◌, ◌∙◌, refl, ap, ℕ, suc, zero, ◌<◌, ◌≤◌, List, [], ◌∷◌, ◌++◌, length, take, arith}
use Rattle.osi_side.proofs.Vocabulary.{length-append, fold-append, Seen, Member, Told, AreKept, IsFew, IsCrowd, member, after_tsdu}
use Rattle.osi_side.specs.Kept.{kept}
use Rattle.osi_side.proofs.kept.what_is_kept_is_of_what_had_passed.{tsdu_alike}

-- ---- the first of some TSDUs

pub take_front : (xs ys : List Told) (n : ℕ) → n ≤ length xs → take n (xs ++ ys) ≡ take n xs
take_front xs ys zero l = refl
take_front [] ys (suc n) l = absurd (omega arith)
take_front (x ∷ xs) ys (suc n) l = ap (λ (z : List Told). x ∷ z) (take_front xs ys n (omega arith))

pub take_whole : (xs : List Told) (n : ℕ) → length xs ≤ n → take n xs ≡ xs
take_whole [] zero l = refl
take_whole [] (suc n) l = refl
take_whole (x ∷ xs) zero l = absurd (omega arith)
take_whole (x ∷ xs) (suc n) l = ap (λ (z : List Told). x ∷ z) (take_whole xs n (omega arith))

-- ---- the sessions

kept_of_more : (begin : Seen) (us : List (List ℕ)) (told : List Told) (x : Told)
    → kept begin us (told ++ x ∷ []) ≡ after_tsdu us (kept begin us told) x
unfolding kept
kept_of_more begin us told x = fold-append (after_tsdu us) (member 0 begin ∷ []) told (x ∷ [])

pub kept_more : (begin : Seen) (heard : List (List ℕ)) (told : List Told) (x : Told) (members new : List Member)
    → AreKept begin heard told members → x.before ≤ length heard → new ≡ after_tsdu heard members x
    → AreKept begin heard (told ++ x ∷ []) new
kept_more begin heard told x members new k l e = grind (arith, tsdu_alike, kept_of_more)

pub kept_begins : (begin : Seen) (us : List (List ℕ)) (members : List Member) (m : Member) → members ≡ m ∷ [] → m.taken ≡ 0
    → m.standing ≡ begin → members ≡ kept begin us []
unfolding kept
kept_begins begin us members m e t s = e ∙ (λ i. let one : Member = record { taken = t i; standing = s i } in one ∷ [])

-- ---- how many they are

pub few_begins : (begin : Seen) (us : List (List ℕ)) → IsFew begin us []
unfolding kept
few_begins begin us = grind arith

pub few_more : (begin : Seen) (us : List (List ℕ)) (told : List Told) (x : Told) → IsFew begin us told
    → length (kept begin us (told ++ x ∷ [])) ≤ 4096 → IsFew begin us (told ++ x ∷ [])
few_more begin us told x f l = grind (arith, take_front, length-append, take_whole)

pub crowd_more : (begin : Seen) (us : List (List ℕ)) (told : List Told) (x : Told) (i : ℕ) → i ≡ length told → IsFew begin us told
    → 4096 < length (kept begin us (told ++ x ∷ [])) → IsCrowd begin us (told ++ x ∷ []) i
crowd_more begin us told x i e f l = grind (arith, length-append, take_front, take_whole)

-- the kept list itself
pub few_members : (begin : Seen) (us : List (List ℕ)) (told : List Told) (members : List Member) → members ≡ kept begin us told
    → IsFew begin us told → length members ≤ 4096
few_members begin us told members e f = grind (arith, take_whole told (length told) (omega arith))
