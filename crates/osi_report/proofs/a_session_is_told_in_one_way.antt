-- Of a session one thing is found, and by one rule, from what it said and heard: for the law on reports.
use Rattle.osi_report.proofs.Vocabulary.{◌≡◌, ◌∙◌, inl, inr, refl, sym, ap, subst, ℕ, zero, suc, ◌+◌, ◌<◌, ◌≤◌, true, false, List}
use Rattle.osi_report.proofs.Vocabulary.{[], ◌∷◌, length, take, get_or, arith}
use Rattle.osi_report.proofs.Vocabulary.{Seen, Direction, Finding, Kept, Broke, Left, TooMany, Member, Break, BreaksAt, IsExplained}
use Rattle.osi_report.proofs.Vocabulary.{Observed, Observes, ObservesBy, IsKept, IsFew, HasRoom, IsFound, kept, leaves, broke_session}
use Rattle.osi_report.proofs.Vocabulary.{begin_of, Strays, never_strays, no_crowd, room_as, found_as, one_break}
use Rattle.osi_side.specs.Explaining.{Told}
use Rattle.osi_report.proofs.a_rule_tells_a_break_from_leaving.{one_element, Leaves, left_same, left_broken}

take_less : (xs : List Told) (n m : ℕ) → n ≤ m → take n (take m xs) ≡ take n xs
take_less xs zero m l = refl
take_less [] (suc n) zero l = refl
take_less [] (suc n) (suc m) l = refl
take_less (x ∷ xs) (suc n) zero l = absurd (omega arith)
take_less (x ∷ xs) (suc n) (suc m) l = ap (λ (z : List Told). x ∷ z) (take_less xs n m (omega arith))

-- ---- what is known of a session

abbrev Unexplained : Seen → List (List ℕ) → List Told → ℕ → Type 0
Unexplained begin us said i = IsExplained begin us (take (i + 1) said) → ⊥

-- the TSDU at which it strayed, and the sessions that explain what it said before
pub record StraysAt (begin : Seen) (us : List (List ℕ)) (said : List Told) (i : ℕ) (members : List Member) (x : Told) : Type 0 where
  pub strays : Strays begin us said i
  pub there : i < length said
  pub few : IsFew begin us (take i said)
  pub is : x ≡ get_or said i x
  pub kept_so : members ≡ kept begin us (take i said)

-- and how it strayed
abbrev Breaks : Seen → List (List ℕ) → List Told → ℕ → List Member → Break → Told → Type 0
Breaks begin us said i members by x =
    BreaksAt us x.octets x.before members by × (leaves us x.octets x.before by ≡ false) × Unexplained begin us said i

abbrev KnownBy : Finding → Direction → List (List ℕ) → List Told → List Member → Break → Type 0
KnownBy Kept d us said members by = IsKept (begin_of d) us said × IsFew (begin_of d) us said × (members ≡ kept (begin_of d) us said)
KnownBy (Broke i) d us said members by =
    (x : Told) × StraysAt (begin_of d) us said i members x × Breaks (begin_of d) us said i members by x
KnownBy (Left i) d us said members by =
    (x : Told) × StraysAt (begin_of d) us said i members x × ((at : List Member) × Leaves d us said i x members at by)
KnownBy TooMany d us said members by = HasRoom (begin_of d) us said TooMany

known_by : (f : Finding) (d : Direction) (w : Observed) (said : List Told) → w.begin ≡ begin_of d → ObservesBy f w said
    → IsFound (begin_of d) w.heard said f → HasRoom (begin_of d) w.heard said f → KnownBy f d w.heard said w.members w.by
known_by Kept d w said e k f r = grind arith
known_by (Broke i) d w said e (b, (x, s, h, l)) f r = grind arith
known_by (Left i) d w said e (b, (x, s, inl (h, l, u))) f r = grind arith
known_by (Left i) d w said e (b, (x, s, inr (h, u))) f r = grind arith
known_by TooMany d w said e k f r = r

known : (d : Direction) (w : Observed) (said : List Told) → w.begin ≡ begin_of d → Observes w said
    → KnownBy w.finding d w.heard said w.members w.by
known d w said e k = grind (arith, known_by, found_as, room_as)

-- ---- one place

not_later : (begin : Seen) (us : List (List ℕ)) (said : List Told) (i j : ℕ) → Strays begin us said i → Strays begin us said j → i < j → ⊥
not_later begin us said i j b c l =
    grind (arith, never_strays, take_less said i j (omega (arith, l)), take_less said (i + 1) j (omega (arith, l)))

one_place : (begin : Seen) (us : List (List ℕ)) (said : List Told) (i j : ℕ) → Strays begin us said i → Strays begin us said j → i ≡ j
one_place begin us said i j b c = grind (arith, not_later)

-- ---- one finding

pub record IsOne (f g : Finding) (m n : List Member) (b e : Break) : Type 0 where
  pub found : f ≡ g
  pub rule : broke_session f ≡ true → b ≡ e
  pub sessions : f ≡ Kept → m ≡ n

both_broke : (d : Direction) (us : List (List ℕ)) (said : List Told) (i : ℕ) (m n : List Member) (b e : Break)
    → KnownBy (Broke i) d us said m b → KnownBy (Broke i) d us said n e → b ≡ e
both_broke d us said i m n b e (x, s, (h, l, u)) (y, t, (k, m2, v)) = grind (arith, one_break, one_element)

both_left : (d : Direction) (us : List (List ℕ)) (said : List Told) (i : ℕ) (m n : List Member) (b e : Break)
    → KnownBy (Left i) d us said m b → KnownBy (Left i) d us said n e → b ≡ e
both_left d us said i m n b e (x, s, h) (y, t, k) = grind (arith, left_same, one_element)

left_at : (d : Direction) (us : List (List ℕ)) (said : List Told) (i j : ℕ) (m : List Member) (b : Break) → j ≡ i
    → KnownBy (Left j) d us said m b → KnownBy (Left i) d us said m b
left_at d us said i j m b e h = subst (λ (z : ℕ). KnownBy (Left z) d us said m b) e h

one_known : (d : Direction) (us : List (List ℕ)) (said : List Told) (f g : Finding) (m n : List Member) (b e : Break)
    → KnownBy f d us said m b → KnownBy g d us said n e → IsOne f g m n b e
one_known d us said Kept Kept m n b e h k = record { found = refl; rule = λ t. cc; sessions = λ t. h.2 ∙ sym k.2 }
one_known d us said Kept (Broke j) m n b e h k = absurd (never_strays (begin_of d) us said j h.0 k.1.strays)
one_known d us said Kept (Left j) m n b e h k = absurd (never_strays (begin_of d) us said j h.0 k.1.strays)
one_known d us said Kept TooMany m n b e h (i, l, y, c) = grind arith
one_known d us said (Broke i) Kept m n b e h k = absurd (never_strays (begin_of d) us said i k.0 h.1.strays)
one_known d us said (Broke i) (Broke j) m n b e h k =
    let same = one_place (begin_of d) us said i j h.1.strays k.1.strays in
    record {
      found = ap Broke same;
      rule = λ t. both_broke d us said i m n b e h (grind arith);
      sessions = λ t. cc;
    }
one_known d us said (Broke i) (Left j) m n b e h k = search (arith, one_place, left_broken, one_element)
one_known d us said (Broke i) TooMany m n b e h k = absurd (no_crowd (begin_of d) us said i h.1.strays h.1.few k)
one_known d us said (Left i) Kept m n b e h k = absurd (never_strays (begin_of d) us said i k.0 h.1.strays)
one_known d us said (Left i) (Broke j) m n b e h k = search (arith, one_place, left_broken, one_element)
one_known d us said (Left i) (Left j) m n b e h k =
    let same = one_place (begin_of d) us said i j h.1.strays k.1.strays in
    record {
      found = ap Left same;
      rule = λ t. both_left d us said i m n b e h (left_at d us said i j n e (sym same) k);
      sessions = λ t. cc;
    }
one_known d us said (Left i) TooMany m n b e h k = absurd (no_crowd (begin_of d) us said i h.1.strays h.1.few k)
one_known d us said TooMany Kept m n b e (i, l, y, c) k = grind arith
one_known d us said TooMany (Broke j) m n b e h k = absurd (no_crowd (begin_of d) us said j k.1.strays k.1.few h)
one_known d us said TooMany (Left j) m n b e h k = absurd (no_crowd (begin_of d) us said j k.1.strays k.1.few h)
one_known d us said TooMany TooMany m n b e h k = record { found = refl; rule = λ t. cc; sessions = λ t. cc }

-- two sessions that said and heard the same
pub one_session : (d : Direction) (w v : Observed) (said : List Told) → w.begin ≡ begin_of d → v.begin ≡ begin_of d → w.heard ≡ v.heard
    → Observes w said → Observes v said → IsOne w.finding v.finding w.members v.members w.by v.by
one_session d w v said a b e h k =
    one_known d v.heard said w.finding v.finding w.members v.members w.by v.by
    (subst (λ (us : List (List ℕ)). KnownBy w.finding d us said w.members w.by) e (known d w said a h)) (known d v said b k)
