-- No session of a list comes before the foremost, and none is nearer than the nearest: for the law that one session is told.
use Rattle.osi_side.proofs.Vocabulary.{◌≡◌, ◌∙◌, refl, sym, subst, ℕ, ◌==◌, ◌&&◌, ◌||◌, ◌⊎◌, inl, inr, Bool, true, false, if◌then◌else◌}
use Rattle.osi_side.proofs.Vocabulary.{nat_lt, List, [], ◌∷◌, ◌++◌, Option, Some, None, arith, nat_tests, append-nil, append_assoc, fold}
use Rattle.osi_side.proofs.Vocabulary.{flat_map, Member, Near, Rule, is_before, before_of, PrecedesAll, FollowsNone, IsForemost, is_nearer}
use Rattle.osi_side.proofs.Vocabulary.{Unsaid, rule_for, tried_by, tried, reached, far, IsAmong, IsNearest}
use Rattle.osi_side.specs.Foremost.{foremost}
use Rattle.osi_side.specs.Members.{is_empty}
use Rattle.osi_side.specs.Nearest.{nearest}

-- ---- the order of sessions

before_trans : (m n o : Member) → is_before m n ≡ true → is_before n o ≡ true → is_before m o ≡ true
before_trans m n o h k = search (arith, nat_tests)

before_past : (m n o : Member) → is_before m n ≡ true → is_before o n ≡ false → is_before m o ≡ true
before_past m n o h k = search (arith, nat_tests)

-- ---- the foremost

precedes_back : (x best : Member) (back : List Member) → is_before x best ≡ true → FollowsNone best back → PrecedesAll x back
precedes_back x best [] h f = tt
precedes_back x best (n ∷ back) h f = (before_past x best n h f.0, precedes_back x best back h f.1)

precedes_all : (x best : Member) (front back : List Member) → is_before x best ≡ true → PrecedesAll best front → FollowsNone best back
    → PrecedesAll x (front ++ best ∷ back)
precedes_all x best [] back h p f = (h, precedes_back x best back h f)
precedes_all x best (n ∷ front) back h p f = (before_trans x best n h p.0, precedes_all x best front back h p.1 f)

follows_more : (x best : Member) (back : List Member) → is_before x best ≡ false → FollowsNone best back → FollowsNone best (back ++ x ∷ [])
follows_more x best [] h f = (h, tt)
follows_more x best (n ∷ back) h f = (f.0, follows_more x best back h f.1)

-- what is left of a list is looked at, after the front part
abbrev Looks : List Member → Type 0
Looks xs = (best : Member) (front back seen : List Member) → seen ≡ front ++ best ∷ back → PrecedesAll best front → FollowsNone best back
    → IsForemost (fold before_of best xs) (seen ++ xs)

by_test : (b : Bool) (x best : Member) (front back seen xs : List Member) → is_before x best ≡ b → seen ≡ front ++ best ∷ back
    → PrecedesAll best front → FollowsNone best back → Looks xs
    → IsForemost (fold before_of (if b then x else best) xs) ((seen ++ x ∷ []) ++ xs)
by_test true x best front back seen xs h e p f look = grind (arith, precedes_all)
by_test false x best front back seen xs h e p f look = grind (arith, append_assoc, follows_more)

looks : (xs : List Member) → Looks xs
looks [] best front back seen e p f = record { front = front; back = back; parts = append-nil seen ∙ e; precedes = p; follows = f }
looks (x ∷ xs) best front back seen e p f = grind (arith, by_test, append_assoc seen (x ∷ []) xs, looks xs)

either_way : (b : Bool) (m : Member) → (if b then m else m) ≡ m
either_way b m = grind arith

pub foremost_is : (members : List Member) → is_empty members ≡ false → IsForemost (foremost members) members
unfolding foremost
foremost_is [] h = absurd (cc)
foremost_is (m ∷ members) h = grind (arith, either_way (is_before m m) m, looks members m [] [] (m ∷ []) refl tt tt)

-- ---- the order of those that came near

nearer_by : (a b c : ℕ) (x y z : Bool) → (x ≡ true → y ≡ true → z ≡ true) → (nat_lt b a || ((a == b) && x)) ≡ true
    → (nat_lt c b || ((b == c) && y)) ≡ true → (nat_lt c a || ((a == c) && z)) ≡ true
nearer_by a b c x y z f h k = grind (arith, nat_tests)

nearer_itself : (n : Near) → is_nearer n n ≡ false
nearer_itself n = grind (arith, nat_tests)

not_so : (b : Bool) → (b ≡ true → ⊥) → b ≡ false
not_so b h = grind arith

not_both : (b : Bool) → b ≡ true → b ≡ false → ⊥
not_both b h k = cc

nearer_still : (p n best : Near) → is_nearer p best ≡ false → is_nearer n best ≡ true → is_nearer p n ≡ false
nearer_still p n best h k = not_so (is_nearer p n) (λ e. not_both (is_nearer p best) (search (arith, nearer_by, before_trans)) h)

-- ---- the nearest

abbrev near : Member → Rule → Near
near m rule = record { at = m; rule = rule }

-- none of these is nearer, and it is one of these or the first
abbrev NoneNearer : Unsaid → List Member → Near → Type 0
NoneNearer u seen best =
    (m : Member) (rule : Rule) → IsAmong m seen → rule_for u m.standing ≡ Some rule → is_nearer (near m rule) best ≡ false

abbrev IsOne : Unsaid → List Member → Near → Near → Type 0
IsOne u seen first best = (best ≡ first) ⊎ (IsAmong best.at seen × (rule_for u best.at.standing ≡ Some best.rule))

among_front : (m x : Member) (seen : List Member) → IsAmong m seen → IsAmong m (seen ++ x ∷ [])
among_front m x [] h = absurd h
among_front m x (n ∷ seen) (inl e) = inl e
among_front m x (n ∷ seen) (inr h) = inr (among_front m x seen h)

among_last : (x : Member) (seen : List Member) → IsAmong x (seen ++ x ∷ [])
among_last x [] = inl refl
among_last x (n ∷ seen) = inr (among_last x seen)

among_more : (m x : Member) (seen : List Member) → IsAmong m (seen ++ x ∷ []) → IsAmong m seen ⊎ (m ≡ x)
among_more m x [] (inl e) = inr e
among_more m x [] (inr h) = absurd h
among_more m x (n ∷ seen) (inl e) = inl (inl e)
among_more m x (n ∷ seen) (inr h) = elim (among_more m x seen h) [ inl k ↦ inl (inr k) | inr e ↦ inr e ]

abbrev Tries : Unsaid → Near → List Member → Type 0
Tries u first xs = (best : Near) (seen : List Member) → NoneNearer u seen best → IsOne u seen first best
    → NoneNearer u (seen ++ xs) (fold (tried u) best xs) × IsOne u (seen ++ xs) first (fold (tried u) best xs)

some_rule : (r q : Rule) → Some r ≡ Some q → r ≡ q
some_rule r q e = cc

same_near : (x m : Member) (rule q : Rule) (o : Option Rule) → m ≡ x → o ≡ Some q → o ≡ Some rule → near m rule ≡ near x q
same_near x m rule q o e h k = let r = some_rule q rule (sym h ∙ k) in λ i. near (e i) (sym r i)

-- the new one is not nearer, or it is
stays_nearest : (u : Unsaid) (x : Member) (q : Rule) (seen : List Member) (best : Near) → rule_for u x.standing ≡ Some q
    → is_nearer (near x q) best ≡ false → NoneNearer u seen best → NoneNearer u (seen ++ x ∷ []) best
stays_nearest u x q seen best r h n = grind (arith, among_more, same_near)

becomes_nearest : (u : Unsaid) (x : Member) (q : Rule) (seen : List Member) (best : Near) → rule_for u x.standing ≡ Some q
    → is_nearer (near x q) best ≡ true → NoneNearer u seen best → NoneNearer u (seen ++ x ∷ []) (near x q)
becomes_nearest u x q seen best r h n = λ m rule a k. elim (among_more m x seen a) [
  | inl b ↦ nearer_still (near m rule) (near x q) best (n m rule b k) h
  | inr e ↦ grind (arith, same_near, nearer_itself (near x q))
]

by_nearer : (b : Bool) (u : Unsaid) (x : Member) (q : Rule) (first best : Near) (seen xs : List Member) → rule_for u x.standing ≡ Some q
    → is_nearer (near x q) best ≡ b → NoneNearer u seen best → IsOne u seen first best → Tries u first xs
    → NoneNearer u ((seen ++ x ∷ []) ++ xs) (fold (tried u) (if b then near x q else best) xs)
    × IsOne u ((seen ++ x ∷ []) ++ xs) first (fold (tried u) (if b then near x q else best) xs)
by_nearer true u x q first best seen xs r h n o go =
    go (near x q) (seen ++ x ∷ []) (becomes_nearest u x q seen best r h n) (inr (among_last x seen, r))
by_nearer false u x q first best seen xs r h n o go =
    go best (seen ++ x ∷ []) (stays_nearest u x q seen best r h n) (grind (arith, among_front))

by_rule : (o : Option Rule) (u : Unsaid) (x : Member) (first best : Near) (seen xs : List Member) → rule_for u x.standing ≡ o
    → NoneNearer u seen best → IsOne u seen first best → Tries u first xs
    → NoneNearer u ((seen ++ x ∷ []) ++ xs) (fold (tried u) (tried_by best x o) xs)
    × IsOne u ((seen ++ x ∷ []) ++ xs) first (fold (tried u) (tried_by best x o) xs)
by_rule None u x first best seen xs r n o go = go best (seen ++ x ∷ []) (grind (arith, among_more)) (grind (arith, among_front))
by_rule (Some q) u x first best seen xs r n o go = by_nearer (is_nearer (near x q) best) u x q first best seen xs r refl n o go

tries : (u : Unsaid) (first : Near) (xs : List Member) → Tries u first xs
tries u first [] best seen n o = grind (arith, append-nil)
tries u first (x ∷ xs) best seen n o =
    subst (λ (z : List Member). NoneNearer u z (fold (tried u) (tried u best x) xs) × IsOne u z first (fold (tried u) (tried u best x) xs))
    (append_assoc seen (x ∷ []) xs) (by_rule (rule_for u x.standing) u x first best seen xs refl n o (tries u first xs))

pub nearest_is : (u : Unsaid) (us : List (List ℕ)) (before : ℕ) (members : List Member)
    → IsNearest u (flat_map (reached us before) members) (far members) (nearest u us before members)
unfolding nearest
nearest_is u us before members =
    let all = tries u (far members) (flat_map (reached us before) members) (far members) [] (λ m rule a k. absurd a) (inl refl) in
    record { none_nearer = all.0; is_one = all.1 }
