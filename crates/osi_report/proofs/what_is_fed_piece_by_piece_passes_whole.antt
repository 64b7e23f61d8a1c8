-- What is fed the octets of a piece one part after the other knows the capture of
-- all of them: for `feed_all`.
use Rattle.osi_report.proofs.Vocabulary.{◌≡◌, ◌∙◌, refl, sym, ap, ℕ, ◌==◌, Bool, true, false, not, arith, length, List, [], ◌∷◌, ◌++◌}
use Rattle.osi_report.proofs.Vocabulary.{take, drop, append-nil, append_assoc, map-append, take-append-drop, Direction}
use Rattle.osi_report.proofs.Vocabulary.{Capture, piece, of, Judge, HoldsState, State, after, comes_to, after_more}

-- whatever had passed, this passed after it, by what is known
abbrev pub Passes : {T : Type 0} → (T → Capture → Type 0) → T → T → Capture → Type 0
Passes k old new more = (capture : Capture) → k old capture → k new (capture ++ more)

passes_more : {T : Type 0} (k : T → Capture → Type 0) (old now new : T) (a b c : Capture) → c ≡ a ++ b → Passes k old now a
    → Passes k now new b → Passes k old new c
passes_more k old now new a b c e p q = grind (arith, append_assoc)

-- what is known of a judge
abbrev pub Comes : Judge → Capture → Type 0
Comes t capture = HoldsState t (comes_to capture)

pub comes_as : (old new : Judge) (more : Capture) → ((s : State) → HoldsState old s → HoldsState new (after more s))
    → Passes Comes old new more
comes_as old new more t = grind (arith, after_more)

-- ---- octets of a piece

abbrev pub IsFed : {T : Type 0} → (T → Capture → Type 0) → Direction → T → T → List ℕ → List ℕ → Type 0
IsFed k d old now octets rest = (fed : List ℕ) × (octets ≡ fed ++ rest) × Passes k old now (piece d fed)

pub fed_none : {T : Type 0} (k : T → Capture → Type 0) (d : Direction) (j : T) (octets : List ℕ) → IsFed k d j j octets octets
fed_none k d j octets = ([], refl, grind (arith, append-nil))

pub fed_more : {T : Type 0} (k : T → Capture → Type 0) (d : Direction) (old now new : T) (octets rest : List ℕ) (n : ℕ)
    → IsFed k d old now octets rest
    → Passes k now new (piece d (take n rest)) → IsFed k d old new octets (drop n rest)
fed_more k d old now new octets rest n (fed, e, p) q = (
  fed ++ take n rest,
  e ∙ ap (λ (z : List ℕ). fed ++ z) (sym (take-append-drop n rest)) ∙ sym (append_assoc fed (take n rest) (drop n rest)),
  passes_more k old now new (piece d fed) (piece d (take n rest)) (piece d (fed ++ take n rest)) (map-append (of d) fed (take n rest)) p q,
)

pub fed_all : {T : Type 0} (k : T → Capture → Type 0) (d : Direction) (old now : T) (octets rest : List ℕ) → rest ≡ []
    → IsFed k d old now octets rest
    → Passes k old now (piece d octets)
fed_all k d old now octets rest n (fed, e, p) = grind (arith, append-nil)

pub empty_yes : (xs : List ℕ) (b : Bool) → b ≡ (length xs == 0) → b ≡ true → xs ≡ []
empty_yes [] b e t = refl
empty_yes (x ∷ xs) b e t = absurd (grind (arith, e, t))

pub empty_not : (xs : List ℕ) (b : Bool) → b ≡ (length xs == 0) → not b ≡ false → xs ≡ []
empty_not xs b e t = grind (arith, empty_yes)
