-- Parts in order: cutting and joining preserve the TSDUs.
use Rattle.osi_class.proofs.Vocabulary.{Joining, Part, tsdus, tsdus_after, uncut, MakeTheSame, arith, ◌≡◌, ℕ, ◌+◌, Bool, true, false, List}
use Rattle.osi_class.proofs.Vocabulary.{[], ◌∷◌, ◌++◌, Option, Some, Result, Ok, refl, ap, subst, if◌then◌else◌, IfSome, IfOk}

pub append_nil : {A : Type 0} (xs : List A) → xs ++ [] ≡ xs
append_nil [] = refl
append_nil (x ∷ xs) = ap (λ l. x ∷ l) (append_nil xs)

-- a fact of a value that is chosen, from each choice
pub choose_some : {A : Type 0} (P : A → Type 0) (b : Bool) (o p : Option A) →
    (b ≡ true → IfSome o P) → (b ≡ false → IfSome p P) → IfSome (if b then o else p) P
choose_some h h2 o p first second = grind arith

pub choose_ok : {A E : Type 0} (P : A → Type 0) (b : Bool) (r q : Result A E) →
    (b ≡ true → IfOk r P) → (b ≡ false → IfOk q P) → IfOk (if b then r else q) P
choose_ok h h2 r q first second = grind arith

-- a fact of a value that is known
pub at_some : {A : Type 0} (P : A → Type 0) (o : Option A) (x : A) → IfSome o P → o ≡ Some x → P x
at_some {A} P o x h e = let Q = λ (o : Option A). IfSome o P in subst Q e h

pub at_ok : {A E : Type 0} (P : A → Type 0) (r : Result A E) (x : A) → IfOk r P → r ≡ Ok x → P x
at_ok {A} {E} P r x h e = let Q = λ (r : Result A E). IfOk r P in subst Q e h

-- parts that make the same TSDUs do so after a part, and so after any
pub same_behind : (p : Part) (xs ys : List Part) → MakeTheSame xs ys → MakeTheSame (p ∷ xs) (p ∷ ys)
same_behind p xs ys same begun = grind arith

pub same_behind_all : (ps xs ys : List Part) → MakeTheSame xs ys → MakeTheSame (ps ++ xs) (ps ++ ys)
same_behind_all [] xs ys same = same
same_behind_all (p ∷ ps) xs ys same = same_behind p (ps ++ xs) (ps ++ ys) (same_behind_all ps xs ys same)

pub uncut_tsdus : (ts : List (List ℕ)) → tsdus (uncut ts) ≡ ts
uncut_tsdus [] = refl
uncut_tsdus (t ∷ ts) = ap (λ l. t ∷ l) (uncut_tsdus ts)

-- what is queued, then what the parts make
abbrev pub made : Joining → List Part → List (List ℕ)
made j parts = j.whole ++ tsdus_after j.begun parts
