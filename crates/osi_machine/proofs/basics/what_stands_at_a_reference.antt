-- The connection at a reference after one is replaced, one is added, a side ends, or a break.
-- For the law of the same name, and for all that is said of each connection of a run.
use Rattle.osi_machine.proofs.Vocabulary.{slice_get, Side, connection_at, replaced, with_connection, Line, ends_there, ended_lines}
use Rattle.osi_machine.proofs.Vocabulary.{cut_line, ◌≡◌, refl, ap, ℕ, zero, suc, ◌+◌, ◌<◌, ◌≤◌, true, List, [], ◌∷◌, ◌++◌, length, Some}
use Rattle.osi_machine.proofs.Vocabulary.{None, is_some, arith}
use Rattle.osi_machine.specs.Tables.{seen_from, cut_channels}

-- ---- one is another

pub replaced_other : {C : Type 0} → (k r : ℕ) (ws : List C) (v : C) → (k ≡ r → ⊥) → slice_get (replaced r v ws) k ≡ slice_get ws k
replaced_other k r [] v n = refl
replaced_other zero zero (w ∷ ws) v n = absurd (n refl)
replaced_other (suc k) zero (w ∷ ws) v n = refl
replaced_other zero (suc r) (w ∷ ws) v n = refl
replaced_other (suc k) (suc r) (w ∷ ws) v n = replaced_other k r ws v (λ e. n (ap suc e))

pub with_other : {C : Type 0} → (k r : ℕ) (ws : List C) (v : C) → (k ≡ r → ⊥)
    → connection_at k (with_connection r v ws) ≡ connection_at k ws
with_other k r ws v n = grind (arith, replaced_other)

replaced_same : {C : Type 0} → (r : ℕ) (ls : List C) (l x : C) → slice_get ls r ≡ Some l → slice_get (replaced r x ls) r ≡ Some x
replaced_same r [] l x e = absurd (cc)
replaced_same zero (y ∷ ls) l x e = refl
replaced_same (suc r) (y ∷ ls) l x e = replaced_same r ls l x e

pub with_same : {C : Type 0} → (r : ℕ) (ls : List C) (l x : C) → connection_at r ls ≡ Some l
    → connection_at r (with_connection r x ls) ≡ Some x
with_same r ls l x e = grind (arith, replaced_same)

pub replaced_count : {C : Type 0} → (r : ℕ) (ls : List C) (x : C) → length (replaced r x ls) ≡ length ls
replaced_count r [] x = refl
replaced_count zero (y ∷ ls) x = refl
replaced_count (suc r) (y ∷ ls) x = ap suc (replaced_count r ls x)

pub with_count : {C : Type 0} → (r : ℕ) (ls : List C) (x : C) → length (with_connection r x ls) ≡ length ls
with_count r ls x = grind (arith, replaced_count)

-- ---- one more

pub there_still : {C : Type 0} → (k : ℕ) (ws vs : List C) (w : C) → slice_get ws k ≡ Some w → slice_get (ws ++ vs) k ≡ Some w
there_still k [] vs w e = absurd (cc)
there_still zero (x ∷ ws) vs w e = e
there_still (suc k) (x ∷ ws) vs w e = there_still k ws vs w e

pub more_still : (q : ℕ) (ls : List Line) (l x : Line) → connection_at q ls ≡ Some l → connection_at q (ls ++ x ∷ []) ≡ Some l
more_still q ls l x e = grind (arith, there_still)

last_got : (ls : List Line) (x : Line) → slice_get (ls ++ x ∷ []) (length ls) ≡ Some x
last_got [] x = refl
last_got (y ∷ ls) x = last_got ls x

pub more_last : (ls : List Line) (x : Line) → connection_at (suc (length ls)) (ls ++ x ∷ []) ≡ Some x
more_last ls x = last_got ls x

-- ---- how many

none_got : (q : ℕ) (ls : List Line) → length ls ≤ q → slice_get ls q ≡ None
none_got q [] h = refl
none_got zero (l ∷ ls) h = absurd (omega arith)
none_got (suc q) (l ∷ ls) h = none_got q ls (omega arith)

pub none_there : (q : ℕ) (ls : List Line) → length ls < q → connection_at q ls ≡ None
none_there q ls h = grind (arith, none_got)

some_got : (q : ℕ) (ls : List Line) → q < length ls → is_some (slice_get ls q) ≡ true
some_got q [] h = absurd (omega arith)
some_got zero (l ∷ ls) h = refl
some_got (suc q) (l ∷ ls) h = some_got q ls (omega arith)

pub some_there : (q : ℕ) (ls : List Line) → 0 < q → q ≤ length ls → is_some (connection_at q ls) ≡ true
some_there q ls h k = grind (arith, some_got)

-- ---- an end, and a break

ended_got : (side : Side) (keep : ℕ → ℕ) (k r : ℕ) (ls : List Line) (l : Line) → slice_get ls r ≡ Some l
    → slice_get (ended_lines side keep k ls) r ≡ Some (seen_from side (ends_there (keep (k + r)) (seen_from side l)))
ended_got side keep k r [] l e = absurd (cc)
ended_got side keep k zero (x ∷ ls) l e = grind arith
ended_got side keep k (suc r) (x ∷ ls) l e = grind (arith, ended_got side keep (k + 1) r ls l e)

pub ended_there : (side : Side) (keep : ℕ → ℕ) (q : ℕ) (ls : List Line) (l : Line) → connection_at q ls ≡ Some l
    → connection_at q (ended_lines side keep 1 ls) ≡ Some (seen_from side (ends_there (keep q) (seen_from side l)))
ended_there side keep zero ls l e = absurd (cc)
ended_there side keep (suc q) ls l e = grind (arith, ended_got side keep 1 q ls l e)

cut_got : (left right : ℕ → ℕ) (k r : ℕ) (ls : List Line) (l : Line) → slice_get ls r ≡ Some l
    → slice_get (cut_channels left right k ls) r ≡ Some (cut_line (left (k + r)) (right (k + r)) l)
cut_got left right k r [] l e = absurd (cc)
cut_got left right k zero (x ∷ ls) l e = grind arith
cut_got left right k (suc r) (x ∷ ls) l e = grind (arith, cut_got left right (k + 1) r ls l e)

pub cut_there : (left right : ℕ → ℕ) (q : ℕ) (ls : List Line) (l : Line) → connection_at q ls ≡ Some l
    → connection_at q (cut_channels left right 1 ls) ≡ Some (cut_line (left q) (right q) l)
cut_there left right zero ls l e = absurd (cc)
cut_there left right (suc q) ls l e = grind (arith, cut_got left right 1 q ls l e)

pub ended_count : (side : Side) (keep : ℕ → ℕ) (k : ℕ) (ls : List Line) → length (ended_lines side keep k ls) ≡ length ls
ended_count side keep k [] = refl
ended_count side keep k (l ∷ ls) = ap suc (ended_count side keep (k + 1) ls)

pub cut_count : (left right : ℕ → ℕ) (k : ℕ) (ls : List Line) → length (cut_channels left right k ls) ≡ length ls
cut_count left right k [] = refl
cut_count left right k (l ∷ ls) = ap suc (cut_count left right (k + 1) ls)

-- ---- what is true of each

pub some_same : {C : Type 0} → (x w : C) → Some x ≡ Some w → x ≡ w
some_same x w e = cc
