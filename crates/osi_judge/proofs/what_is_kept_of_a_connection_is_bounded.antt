-- What is kept of a connection is no more than its bound, and a TSDU takes no room with the outline of the one before it: for the law
-- that says so.
use Rattle.osi_judge.proofs.Vocabulary.{◌≡◌, subst, ℕ, zero, suc, ◌+◌, ◌≤◌, Bool, if◌then◌else◌, cond, arith, List, [], ◌∷◌, ◌++◌}
use Rattle.osi_judge.proofs.Vocabulary.{length, map, set, Option, Some, leb-true, length-append, map-append, find, slice_get, Meaning}
use Rattle.osi_judge.proofs.Vocabulary.{Value, Capture, Direction, Room, All, Octets, Over, kept_of, kept_on, IsWithin, Joined, Sessions}
use Rattle.osi_judge.proofs.Vocabulary.{packet_begins, adds, adds_all, has_number, numbered, taken, taken_at, after, begin_within, heard}
use Rattle.osi_judge.proofs.Vocabulary.{true, false, ap, append_assoc, is_same, once, once_behind, room_in, outline, outlines}
use Rattle.osi_judge.proofs.Vocabulary.{outline_no_longer, added, Spoken, begun_octets, asked, changed, meant, placed, source_of, refl}
use Rattle.osi_judge.proofs.Vocabulary.{None, offset_of}
use Rattle.osi_rules.specs.declared.findings.Meaning.TheVariants as meaning
use Rattle.osi_judge.specs.Connections.{count, user_of}
use Rattle.osi_judge.specs.Lines.{kept_by}
use Rattle.osi_judge.specs.Rooms.{counted}
use Rattle.osi_side.proofs.outlined.equal_tsdus_in_a_row_are_kept_once.{same_as_itself}
use Rattle.osi_judge.proofs.a_claim_on_connections_holds_of_captures.{IsClaim, after_kept}
use Rattle.osi_judge.proofs.what_is_kept_of_a_side_is_what_passed.{heard_more}

-- ---- one TSDU more

behind_more : (before : List ℕ) (xs : List (List ℕ)) (y : List ℕ)
    → room_in (once_behind before (xs ++ y ∷ [])) ≤ room_in (once_behind before xs) + (length y + 48)
behind_more before [] y = grind arith
behind_more before (x ∷ xs) y = grind (arith, behind_more x xs y)

once_more : (xs : List (List ℕ)) (y : List ℕ) → room_in (once (xs ++ y ∷ [])) ≤ room_in (once xs) + (length y + 48)
once_more [] y = omega arith
once_more (x ∷ xs) y = grind (arith, behind_more x xs y)

-- ---- one more with the outline of the last

behind_again : (before : List ℕ) (front : List (List ℕ)) (y : List ℕ)
    → once_behind before (front ++ y ∷ y ∷ []) ≡ once_behind before (front ++ y ∷ [])
behind_again before [] y = grind (arith, same_as_itself)
behind_again before (x ∷ front) y =
    ap (λ (r : List (List ℕ)). if is_same before x then r else x ∷ r) (behind_again x front y)

once_again : (front : List (List ℕ)) (y : List ℕ) → once (front ++ y ∷ y ∷ []) ≡ once (front ++ y ∷ [])
once_again [] y = grind (arith, same_as_itself)
once_again (x ∷ front) y = ap (λ (r : List (List ℕ)). x ∷ r) (behind_again x front y)

pub kept_again : (at : ℕ) (octets last : List ℕ) (front : List (List ℕ)) (s : Spoken) → heard s ≡ front ++ last ∷ []
    → outline (begun_octets s.begun ++ octets) ≡ outline last → kept_of (added at true octets s) ≤ kept_of s
unfolding kept_by
kept_again at octets last front s e same =
    let more = heard_more s at octets in
    let parts = ap outlines e in
    let split = map-append outline front (last ∷ []) in
    let again = once_again (outlines front) (outline last) in
    grind (arith, append_assoc)

-- ---- a DT

side_keeps : (at : ℕ) (end : Bool) (octets : List ℕ) (s : Spoken) → kept_of (added at end octets s) ≤ kept_of s + counted (length octets)
unfolding kept_by
side_keeps at true octets s =
    let t = begun_octets s.begun ++ octets in
    let more = heard_more s at octets in
    let room = once_more (outlines (heard s)) (outline t) in
    let less = outline_no_longer t in
    let sum = length-append (begun_octets s.begun) octets in
    grind arith
side_keeps at false octets s = grind (arith, length-append)

-- ---- a connection

-- what is kept is within the bound
abbrev Fits : (most kept : ℕ) → Room → Type 0
Fits most kept All = ⊥
Fits most kept (Octets n) = (n ≡ most) × (kept ≤ most)
Fits most kept Over = kept ≤ most

abbrev IsFit : (most : ℕ) → Joined → Type 0
IsFit most j = Fits most (kept_on j) j.room

adds_all_keeps : (d : Direction) (at : ℕ) (end : Bool) (octets : List ℕ) (j : Joined)
    → kept_on (adds_all d at end octets j) ≤ kept_on j + counted (length octets)
adds_all_keeps d at end octets j = grind (arith, side_keeps)

fit_added : (most : ℕ) (d : Direction) (at : ℕ) (end : Bool) (octets : List ℕ) (j : Joined) → IsFit most j
    → IsFit most (adds d at end octets j)
fit_added most d at end octets j h = grind (arith, adds_all_keeps, leb-true)

-- ---- of all connections

abbrev AreFit : (most : ℕ) → List Joined → Type 0
AreFit most [] = Unit {0}
AreFit most (j ∷ js) = IsFit most j × AreFit most js

record AllFit (most : ℕ) (s : Sessions) : Type 0 where
  live : AreFit most s.live
  done : AreFit most s.done
  room : s.room ≡ Octets most

all_begun : (most : ℕ) (d : Direction) (js : List Joined) → AreFit most js → AreFit most (map (packet_begins d) js)
all_begun most d [] h = tt
all_begun most d (j ∷ js) h = (grind arith, all_begun most d js h.1)

one_more : (most : ℕ) (js : List Joined) (j : Joined) → AreFit most js → IsFit most j → AreFit most (js ++ j ∷ [])
one_more most [] j h k = (k, tt)
one_more most (i ∷ js) j h k = (h.0, one_more most js j h.1 k)

nothing_kept : kept_by [] None ≡ 0
unfolding kept_by
nothing_kept = refl

-- nothing is kept of a connection that is requested
asked_fit : (most number calling : ℕ) (room : Room) → room ≡ Octets most → IsFit most (asked number calling room)
asked_fit most number calling room e = grind (arith, nothing_kept)

same_joined : (j k : Joined) → Some j ≡ Some k → j ≡ k
same_joined j k e = cc

one_at : (most : ℕ) (js : List Joined) (i : ℕ) (j : Joined) → slice_get js i ≡ Some j → AreFit most js → IsFit most j
one_at most [] i j e h = absurd (cc)
one_at most (x ∷ js) zero j e h = subst (IsFit most) (same_joined x j e) h.0
one_at most (x ∷ js) (suc i) j e h = one_at most js i j e h.1

one_set : (most : ℕ) (js : List Joined) (i : ℕ) (j : Joined) → AreFit most js → IsFit most j → AreFit most (set js i j)
one_set most [] i j h k = tt
one_set most (x ∷ js) zero j h k = (k, h.1)
one_set most (x ∷ js) (suc i) j h k = (h.0, one_set most js i j h.1 k)

changed_fit : (most i : ℕ) (f : Joined → Joined) (s : Sessions) (o : Option Joined) → slice_get s.live i ≡ o
    → ((j : Joined) → IsFit most j → IsFit most (f j)) → AllFit most s → AllFit most (changed i f s o)
changed_fit most i f s None e step h = h
changed_fit most i f s (Some j) e step h = record {
  live = one_set most s.live i (f j) h.live (step j (one_at most s.live i j e h.live));
  done = h.done;
  room = h.room;
}

placed_fit : (most i : ℕ) (j : Joined) (s : Sessions) (o : Option Joined) → slice_get s.live i ≡ o → IsFit most j → AllFit most s
    → AllFit most (placed i j s o)
placed_fit most i j s None e k h = record { live = one_more most s.live j h.live k; done = h.done; room = h.room }
placed_fit most i j s (Some over) e k h = record {
  live = one_set most s.live i j h.live k;
  done = one_more most s.done over h.done (one_at most s.live i over e h.live);
  room = h.room;
}

place_fit : (most : ℕ) (d : Direction) (at : ℕ) (v : Value) (m : Meaning) (i : ℕ) (s : Sessions) → AllFit most s
    → AllFit most (taken_at d at v m i s)
place_fit most d at v meaning.Asks i s h =
    placed_fit most i (asked (offset_of (count s)) (source_of v) s.room) s (slice_get s.live i) refl
    (asked_fit most (offset_of (count s)) (source_of v) s.room h.room) h
place_fit most d at v meaning.Opens i s h = changed_fit most i (meant d at v meaning.Opens) s (slice_get s.live i) refl (λ j k. k) h
place_fit most d at v meaning.Closes i s h = changed_fit most i (meant d at v meaning.Closes) s (slice_get s.live i) refl (λ j k. k) h
place_fit most d at v (meaning.Adds end) i s h =
    changed_fit most i (meant d at v (meaning.Adds end)) s (slice_get s.live i) refl (fit_added most d at end (user_of v)) h
place_fit most d at v meaning.Nothing i s h = changed_fit most i (meant d at v meaning.Nothing) s (slice_get s.live i) refl (λ j k. k) h

taken_fit : (most : ℕ) (d : Direction) (at : ℕ) (v : Value) (m : Meaning) (place : Option ℕ) (s : Sessions) → AllFit most s
    → AllFit most (taken d at v m place s)
taken_fit most d at v m place s h = grind (arith, place_fit)

claim : (most : ℕ) → IsClaim (AllFit most)
claim most = record {
  begins = λ d s h. record { live = all_begun most d s.live h.live; done = h.done; room = h.room };
  takes = λ d at v m place s h. taken_fit most d at v m place s h;
}

-- ---- the one with a number

join_fit : (most : ℕ) (js ks : List Joined) → AreFit most js → AreFit most ks → AreFit most (js ++ ks)
join_fit most [] ks h k = k
join_fit most (j ∷ js) ks h k = (h.0, join_fit most js ks h.1 k)

found_by : (b : Bool) (most : ℕ) (x j : Joined) (o : Option Joined) → cond b (Some x) o ≡ Some j → IsFit most x
    → (o ≡ Some j → IsFit most j) → IsFit most j
found_by b most x j o e h k = grind (arith, same_joined)

found_fit : (most number : ℕ) (js : List Joined) (j : Joined) → find (has_number number) js ≡ Some j → AreFit most js → IsFit most j
found_fit most number [] j e h = absurd (cc)
found_fit most number (x ∷ js) j e h =
    found_by (has_number number x) most x j (find (has_number number) js) e h.0 (λ k. found_fit most number js j k h.1)

pub bounded : (capture : Capture) (most number : ℕ) (j : Joined)
    → numbered number (after capture (begin_within (Octets most))).course.sessions ≡ Some j → IsWithin most j
bounded capture most number j e = grind (arith, after_kept, found_fit, join_fit, claim most)
