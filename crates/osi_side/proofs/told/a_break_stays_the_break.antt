-- What passes later changes nothing in a break that was found: it speaks of the TSDUs that had passed. For what is known of a
-- side.
use Rattle.osi_side.proofs.Vocabulary.{◌≡◌, ◌∙◌, refl, sym, ap, ℕ, zero, suc, ◌-◌, ◌<◌, ◌≤◌, List, [], ◌∷◌, ◌++◌, length, get_or, Some}
use Rattle.osi_side.proofs.Vocabulary.{Result, arith, length-append, fold, flat_map, SpduFault, Units, tsdu_at, Member, Break, BreaksIn}
use Rattle.osi_side.proofs.Vocabulary.{here, last, later, BreaksAs, BreaksAt, Extends, Unsaid, tried, count_at, reached, far}
use Rattle.osi_side.specs.Nearest.{nearest}
use Rattle.osi_side.proofs.kept.what_is_kept_is_of_what_had_passed.{ActAlike, becomes_alike, word_alike}

-- ---- the TSDUs of the other side become more

get_front : (xs ys : List (List ℕ)) (i : ℕ) → i < length xs → get_or (xs ++ ys) i [] ≡ get_or xs i []
get_front [] ys i l = absurd (omega arith)
get_front (x ∷ xs) ys zero l = refl
get_front (x ∷ xs) ys (suc i) l = get_front xs ys i (omega arith)

pub extends_front : (us heard : List (List ℕ)) (x : List ℕ) → Extends us (heard ++ x ∷ []) → Extends us heard
extends_front us heard x h = λ i l. let n = length-append heard (x ∷ []) in h i (omega arith) ∙ get_front heard (x ∷ []) i l

-- ---- a session takes the same

front_alike : (heard : List (List ℕ)) (x : List ℕ) (n : ℕ) → n ≤ length heard → ActAlike heard (heard ++ x ∷ []) n
front_alike heard x n l = λ i b s. ap (count_at s) (sym (get_front heard (x ∷ []) i (omega (arith, b, l))))

same_all : (heard : List (List ℕ)) (x : List ℕ) (before : ℕ) (members : List Member) → before ≤ length heard
    → flat_map (reached heard before) members ≡ flat_map (reached (heard ++ x ∷ []) before) members
same_all heard x before [] l = refl
same_all heard x before (m ∷ members) l =
    let one = becomes_alike heard (heard ++ x ∷ []) before (front_alike heard x before l) (before - m.taken) (Some m) (λ p. omega arith) in
    grind (arith, same_all heard x before members l)

same_nearest : (u : Unsaid) (heard : List (List ℕ)) (x : List ℕ) (before : ℕ) (members : List Member) → before ≤ length heard
    → nearest u heard before members ≡ nearest u (heard ++ x ∷ []) before members
unfolding nearest
same_nearest u heard x before members l = ap (fold (tried u) (far members)) (same_all heard x before members l)

-- ---- the break stays

in_heard : (heard : List (List ℕ)) (x : List ℕ) (octets before : ℕ) (members : List Member) (units : Units) (at : List Member) (by : Break)
    → before ≤ length heard → BreaksIn heard octets before members units at by
    → BreaksIn (heard ++ x ∷ []) octets before members units at by
in_heard heard x octets before members units at by l (here m u us b h e) =
    here m u us b (grind (arith, word_alike, front_alike)) (e ∙ (grind (arith, same_nearest)))
in_heard heard x octets before members units at by l (last m u b e) = last m u b (e ∙ (grind (arith, same_nearest)))
in_heard heard x octets before members units at by l (later m n u us o b h s k) =
    later m n u us o b (grind (arith, word_alike, front_alike)) s (in_heard heard x octets before n us o b l k)

read_heard : (heard : List (List ℕ)) (x : List ℕ) (octets before : ℕ) (members : List Member) (read : Result Units SpduFault)
    (at : List Member)
    (by : Break) → before ≤ length heard → BreaksAs heard octets before members read at by → BreaksAs (heard ++ x ∷ []) octets before
    members read at by
read_heard heard x octets before members read at by l h = grind (arith, in_heard, same_nearest)

pub breaks_heard : (heard : List (List ℕ)) (x tsdu : List ℕ) (before : ℕ) (members : List Member) (by : Break) → before ≤ length heard
    → BreaksAt heard tsdu before members by → BreaksAt (heard ++ x ∷ []) tsdu before members by
breaks_heard heard x tsdu before members by l h = (h.0, read_heard heard x (length tsdu) before members (tsdu_at tsdu) h.0 by l h.1)
