-- The lines of an end when all indications were fetched.
-- For breaks and ends, packets, carries and pairs in the same state.
use Rattle.osi_session.specs.Listening.{Move}
use Rattle.osi_pair.proofs.Vocabulary.{◌≡◌, ℕ, ◌==◌, Bool, List, [], ◌∷◌, ◌++◌, map, Some, refl, arith, eqb-true, append-nil, RiseFrom}
use Rattle.osi_pair.proofs.Vocabulary.{Rows, value_at, Shown, AllCameAbout, line_after, End, IsInOrder, waiting_in, quieted, put_row as put}
use Rattle.osi_pair.proofs.Vocabulary.{EndLine as Line, quieted_at, quieted_apart, quieted_up}

pub quiet_waits : (lines : Rows Line) → waiting_in (quieted lines) ≡ []
quiet_waits [] = refl
quiet_waits ((r, line) ∷ lines) = quiet_waits lines

pub none_first : {A B : Type 0} (f : A → B) (xs : List A) (ys : List B) → map f xs ++ ys ≡ [] → xs ≡ []
none_first f [] ys e = refl
none_first f (x ∷ xs) ys e = cc

pub none_second : {A B : Type 0} (f : A → B) (xs : List A) (ys : List B) → map f xs ++ ys ≡ [] → ys ≡ []
none_second f [] ys e = e
none_second f (x ∷ xs) ys e = cc

pub quiet_same : (lines : Rows Line) → waiting_in lines ≡ [] → quieted lines ≡ lines
quiet_same [] e = refl
quiet_same ((r, line) ∷ lines) e =
    grind (arith, none_first, none_second, quiet_same lines (none_second (λ shown. (r, shown)) line.waiting (waiting_in lines) e))

-- ---- an end stays in order

quiet_rise : (n : ℕ) (lines : Rows Line) → RiseFrom n lines → RiseFrom n (quieted lines)
quiet_rise n [] h = tt
quiet_rise n ((r, line) ∷ lines) h = (h.0, quiet_rise r lines h.1)

quiet_came : (lines : Rows Line) → AllCameAbout lines → AllCameAbout (quieted lines)
quiet_came [] h = tt
quiet_came ((r, line) ∷ lines) h = (h.0, quiet_came lines h.1)

pub quiet_order : (e : End) → IsInOrder e → IsInOrder (record e { lines = quieted e.lines })
quiet_order e o = grind (arith, quieted_apart, quieted_up, quieted_at, quiet_rise, quiet_came)

-- ---- what one session indicates

abbrev pub of_one : ℕ → List Shown → List (ℕ × Shown)
of_one n shown = map (λ x. (n, x)) shown

put_by : (n r : ℕ) (line was there : Line) (move : Move) (lines : Rows Line) (b : Bool) → (r == n) ≡ b → was.waiting ≡ line.waiting →
    waiting_in ((r, there) ∷ lines) ≡ [] → value_at n ((r, there) ∷ lines) ≡ Some was →
    (value_at n lines ≡ Some was → waiting_in (put n (line_after line move) lines) ≡ of_one n move.shown) →
    waiting_in (put n (line_after line move) ((r, there) ∷ lines)) ≡ of_one n move.shown
put_by n r line was there move lines b e waits none is more = grind (arith, eqb-true, none_first, none_second, append-nil)

-- the line that is put there has what was pending in the line before it
pub put_waits : (n : ℕ) (line was : Line) (move : Move) (lines : Rows Line) → was.waiting ≡ line.waiting → waiting_in lines ≡ [] →
    value_at n lines ≡ Some was → waiting_in (put n (line_after line move) lines) ≡ of_one n move.shown
put_waits n line was move [] waits none is = cc
put_waits n line was move ((r, there) ∷ lines) waits none is =
    put_by n r line was there move lines (r == n) refl waits none is
    (λ f. put_waits n line was move lines waits (none_second (λ shown. (r, shown)) there.waiting (waiting_in lines) none) f)
