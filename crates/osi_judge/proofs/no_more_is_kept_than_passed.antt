-- What is kept of a connection, and of the packets of a direction, is no more than passed of it: for the law that says so.
use Rattle.osi_judge.proofs.Vocabulary.{◌≡◌, ℕ, ◌+◌, ◌≤◌, Bool, if◌then◌else◌, List, [], ◌∷◌, length, arith, other, is_same, kept_in, once}
use Rattle.osi_judge.proofs.Vocabulary.{once_behind, outlines, Direction, Left, Right, Kept, outline_no_longer, few_by, Connection, Judge}
use Rattle.osi_judge.proofs.Vocabulary.{Joined, spoken, line_in, streamed, HoldsJoined, IsHeard, heard, begun_octets, pick, HoldsState}
use Rattle.osi_judge.proofs.Vocabulary.{IsJudged, IsPart, State}
use Rattle.osi_judge.proofs.what_is_kept_of_a_side_is_what_passed.{heard_at}

-- ---- a direction

pub part_held : (d : Direction) (t : Judge) (s : State) → HoldsState t s → IsJudged t → IsPart (pick d (streamed t.left) (streamed t.right))
part_held d t s h judged = grind arith

-- ---- the sessions that explain a side

pub few_sessions : (d : Direction) (c : Connection) (j : Joined) → HoldsJoined c j → (line_in d c).side.finding ≡ Kept
    → length (line_in d c).side.members ≤ 4096
few_sessions d c j h e = grind (arith, few_by)

-- ---- the octets of a side

behind_by : (b : Bool) (x : List ℕ) (xs : List (List ℕ)) (n : ℕ) → kept_in xs ≤ n → kept_in (if b then xs else x ∷ xs) ≤ length x + 7 + n
behind_by b x xs n l = grind arith

behind_less : (before : List ℕ) (xs : List (List ℕ)) → kept_in (once_behind before xs) ≤ kept_in xs
behind_less before [] = omega arith
behind_less before (x ∷ xs) = behind_by (is_same before x) x (once_behind x xs) (kept_in xs) (behind_less x xs)

once_less : (xs : List (List ℕ)) → kept_in (once xs) ≤ kept_in xs
once_less xs = grind (arith, behind_less)

outlines_less : (xs : List (List ℕ)) → kept_in (outlines xs) ≤ kept_in xs
outlines_less [] = omega arith
outlines_less (x ∷ xs) = let l = outlines_less xs in let m = outline_no_longer x in omega (arith, l, m)

heard_less : (xs ys : List (List ℕ)) → xs ≡ outlines ys → kept_in (once xs) ≤ kept_in ys
heard_less xs ys e = grind (arith, once_less, outlines_less)

other_heard : (d : Direction) (c : Connection) (j : Joined) → HoldsJoined c j → IsHeard c
    → (line_in (other d) c).side.heard ≡ outlines (heard (spoken d j))
other_heard Left c j h k = heard_at Right c j h k
other_heard Right c j h k = heard_at Left c j h k

pub no_more_kept : (d : Direction) (c : Connection) (j : Joined) → HoldsJoined c j → IsHeard c
    → kept_in (once (line_in (other d) c).side.heard) + length (line_in d c).begun
    ≤ kept_in (heard (spoken d j)) + length (begun_octets (spoken d j).begun)
no_more_kept d c j h k = grind (arith, heard_less, other_heard)
