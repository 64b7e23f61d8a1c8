-- Splitting a list at the last element that passes a test.
use Rattle.std.proofs.Common.{◌≡◌, ◌∙◌, ℕ, zero, suc, ◌+◌, ◌-◌, ◌<◌, ◌≤◌, Bool, true, false, List, [], ◌∷◌, ◌++◌, Option, None, Some}
use Rattle.std.proofs.Common.{length, get_or, take, drop, refl, ap, arith}
use Rattle.std.specs.List.{slice_split, onto_first, slice_get, All}
use Rattle.std.proofs.lemmas.List.{get_or-drop, length-drop, length-append}
use Rattle.std.proofs.lemmas.List.Elements.{All-from_get_or}
use Rattle.std.proofs.lemmas.List.Splits.{slice_split-cons_yes, slice_split-cons_no, slice_split_none, length-slice_split}
use Rattle.memchr.specs.Find.{IsLastByte}
use Rattle.osi_script.proofs.a_text_is_split_at_what_passes.{fails, one_part, cut_here}

none_behind : (p : ℕ → Bool) (text : List ℕ) (n : ℕ) → n ≤ length text
    → ((k : ℕ) → n ≤ k → k < length text → p (get_or text k 0) ≡ true → ⊥) →
    All (λ x. p x ≡ false) (drop n text)
none_behind p text n within h =
    All-from_get_or (λ x. p x ≡ false) (drop n text) 0
    (grind (arith, length-drop, get_or-drop, fails))

onto_front : (x : ℕ) (parts more : List (List ℕ)) → 1 ≤ length parts → onto_first x (parts ++ more) ≡ onto_first x parts ++ more
onto_front x parts more some = grind arith

some_part : (p : ℕ → Bool) (text : List ℕ) → 1 ≤ length (slice_split p text)
some_part p text = omega (arith, length-slice_split p text)

parted_by : (p : ℕ → Bool) (y : ℕ) (a : List ℕ) (x : ℕ) (b : List ℕ) → slice_split p (a ++ x ∷ b) ≡ slice_split p a ++ slice_split p b →
    (t : Bool) → p y ≡ t → slice_split p (y ∷ (a ++ x ∷ b)) ≡ slice_split p (y ∷ a) ++ slice_split p b
parted_by p y a x b h t e = grind (arith, slice_split-cons_yes, slice_split-cons_no, onto_front, some_part)

-- an element that passes separates the text before it from the text after it
parted : (p : ℕ → Bool) (a : List ℕ) (x : ℕ) (b : List ℕ) → p x ≡ true → slice_split p (a ++ x ∷ b) ≡ slice_split p a ++ slice_split p b
parted p [] x b h = slice_split-cons_yes p x b h
parted p (y ∷ a) x b h = parted_by p y a x b (parted p a x b h) (p y) refl

last_at : {A : Type 0} (l : List A) (x : A) (n : ℕ) → n ≡ length l → slice_get (l ++ x ∷ []) n ≡ Some x
last_at [] x zero e = refl
last_at [] x (suc n) e = absurd (omega arith)
last_at (y ∷ l) x zero e = absurd (omega arith)
last_at (y ∷ l) x (suc n) e = last_at l x n (omega arith)

last_added : {A : Type 0} (l : List A) (x : A) → slice_get (l ++ x ∷ []) (length (l ++ x ∷ []) - 1) ≡ Some x
last_added l x = last_at l x (length (l ++ x ∷ []) - 1) (omega (arith, length-append l (x ∷ [])))

abbrev pub last_of : List (List ℕ) → Option (List ℕ)
last_of parts = slice_get parts (length parts - 1)

pub all_is_last : (p : ℕ → Bool) (text : List ℕ) → IsLastByte p text None → last_of (slice_split p text) ≡ Some text
all_is_last p text h = ap last_of (one_part p text h)

-- the last part comes after the last element that passes
pub last_part : (p : ℕ → Bool) (text : List ℕ) (i : ℕ) → IsLastByte p text (Some i)
    → last_of (slice_split p text) ≡ Some (drop (i + 1) text)
last_part p text i h =
    let high : i < length text = h.0.high in
    let parts : slice_split p text ≡ slice_split p (take i text) ++ drop (i + 1) text ∷ [] =
    ap (slice_split p) (cut_here text i high) ∙ parted p (take i text) (get_or text i 0) (drop (i + 1) text) h.1
    ∙ ap (λ (l : List (List ℕ)). slice_split p (take i text) ++ l)
    (slice_split_none p (drop (i + 1) text) (none_behind p text (i + 1) (omega arith) (λ k above below. h.0.after k above below))) in
    ap last_of parts ∙ last_added (slice_split p (take i text)) (drop (i + 1) text)

pub stands_within : (p : ℕ → Bool) (text : List ℕ) (i : ℕ) → IsLastByte p text (Some i) → i + 1 ≤ length text
stands_within p text i h = let high : i < length text = h.0.high in omega arith
