-- A judge tells the first break of all, and a capture has one: for the law of the first break, and for the call that tells it.
use Rattle.std.proofs.Common.{arith}
use Rattle.osi_judge.proofs.Vocabulary.{◌≡◌, ◌∙◌, ◌⊎◌, inl, inr, refl, sym, ap, subst, ℕ, zero, suc, List, [], ◌∷◌, ◌++◌, Option, Some}
use Rattle.osi_judge.proofs.Vocabulary.{None, slice_get, Direction, First, Judge, Proceedings, IsToBlame, IsBlameless, AreBlameless}
use Rattle.osi_judge.proofs.Vocabulary.{AreBlamelessBut, NobodyIs, IsToBlameAt, IsSpotless, AreSpotless, IsBreakOf, BreaksFirst, IsFirstOf}
use Rattle.osi_judge.proofs.Vocabulary.{IsEarliest, IsStill, of_transport, of_session, Joined, Sessions, Moment, HoldsBy, HoldsState}
use Rattle.osi_judge.proofs.Vocabulary.{IsJudged, first_in, Streamed, State}
use Rattle.osi_judge.proofs.who_is_to_blame.{not_both}

-- ---- what a judge tells

held_by : (due : Option Direction) (w : Proceedings) (l r : Streamed) (s : State) → due ≡ None → HoldsBy due w l r s
    → IsEarliest w.first s.course.past s.course.sessions
held_by due w l r s e h = grind arith

pub first_held : (t : Judge) (s : State) → HoldsState t s → IsJudged t → IsFirstOf (first_in t) s.course.past
first_held t s h judged = grind arith

pub nobody_held : (t : Judge) (s : State) → HoldsState t s → IsJudged t → first_in t ≡ None → NobodyIs s.course.sessions
nobody_held t s h judged none = grind (arith, held_by)

pub still_held : (t : Judge) (s : State) (f : First) → HoldsState t s → IsJudged t → first_in t ≡ Some f → IsStill f s.course.sessions
still_held t s f h judged some = grind (arith, held_by)

-- ---- a moment with a break is not spotless

abbrev SomeBlameless : Direction → Option Joined → Type 0
SomeBlameless d None = Unit {0}
SomeBlameless d (Some j) = IsBlameless d j

at_place : (d : Direction) (i : ℕ) (js : List Joined) → AreBlameless js → SomeBlameless d (slice_get js i)
at_place d i [] h = tt
at_place d zero (j ∷ js) h = grind arith
at_place d (suc i) (j ∷ js) h = at_place d i js h.1

-- but for this side of the one at another place
elsewhere : (d : Direction) (i k : ℕ) (js : List Joined) → (i ≡ k → ⊥) → AreBlamelessBut d i js → SomeBlameless d (slice_get js k)
elsewhere d i k [] f h = tt
elsewhere d zero zero (j ∷ js) f h = absurd (f refl)
elsewhere d zero (suc k) (j ∷ js) f h = at_place d k js h.1
elsewhere d (suc i) zero (j ∷ js) f h = grind arith
elsewhere d (suc i) (suc k) (j ∷ js) f h = elsewhere d i k js (λ x. f (ap suc x)) h.1

blamed_or_not : (d : Direction) (o : Option Joined) (j : Joined) → o ≡ Some j → IsToBlame d j → SomeBlameless d o → ⊥
blamed_or_not d o j e b h = not_both d j b (subst (SomeBlameless d) e h)

never_spotless : (f : First) (m : Moment) → IsBreakOf f m → IsSpotless m → ⊥
never_spotless f m (of_transport k e b is) h = grind arith
never_spotless f m (of_session i q l d b) h = search (arith, blamed_or_not, at_place)

-- ---- a moment has one break

same_first : (f g : First) → f.direction ≡ g.direction → f.layer ≡ g.layer → f.connection ≡ g.connection → f ≡ g
same_first f g d l c = λ i. record { direction = d i; layer = l i; connection = c i }

same_or_not : (i k : ℕ) → (i ≡ k) ⊎ (i ≡ k → ⊥)
same_or_not zero zero = inl refl
same_or_not zero (suc k) = inr (λ e. absurd (cc))
same_or_not (suc i) zero = inr (λ e. absurd (cc))
same_or_not (suc i) (suc k) = elim (same_or_not i k) [ inl e ↦ inl (ap suc e) | inr n ↦ inr (λ e. let f : i ≡ k = cc in n f) ]

one_number : (d : Direction) (i k : ℕ) (n o : Option ℕ) (s : Sessions) → IsToBlameAt d i n s → IsToBlameAt d k o s → n ≡ o
one_number d i k n o s a b = elim (same_or_not i k) [
  | inl e ↦ a.number_is ∙ ap Some (grind arith) ∙ sym b.number_is
  | inr f ↦ absurd (blamed_or_not d (slice_get s.live k) b.connection b.there b.broke (elsewhere d i k s.live f a.others.live))
]

one_break : (f g : First) (m : Moment) → IsBreakOf f m → IsBreakOf g m → f ≡ g
one_break f g m (of_transport k e b is) (of_transport l e2 b2 is2) = grind arith
one_break f g m (of_transport k e b is) (of_session i q l d h) = absurd (grind arith)
one_break f g m (of_session i q l d h) (of_transport k e b is) = absurd (grind arith)
one_break f g m (of_session i q l d h) (of_session i2 q2 l2 d2 h2) =
    let sides : g.direction ≡ f.direction = d2 ∙ sym d in
    same_first f g (sym sides) (l ∙ sym l2)
    (one_number f.direction i i2 f.connection g.connection m.sessions h
    (subst (λ (x : Direction). IsToBlameAt x i2 g.connection m.sessions) sides h2))

-- ---- a capture has one first break

spotless_at : (front : List Moment) (m : Moment) (back : List Moment) → AreSpotless (front ++ m ∷ back) → IsSpotless m
spotless_at [] m back h = h.0
spotless_at (x ∷ front) m back h = spotless_at front m back h.1

same_moment : (f g : First) (a b : List Moment) (m n : Moment) (p q : List Moment) → AreSpotless a → AreSpotless b
    → a ++ m ∷ p ≡ b ++ n ∷ q → IsBreakOf f m → IsBreakOf g n → f ≡ g
same_moment f g [] [] m n p q h k e x y =
    one_break f g n (subst (λ (z : Moment). IsBreakOf f z) (grind arith) x) y
same_moment f g [] (o ∷ b) m n p q h k e x y =
    absurd (never_spotless f o (subst (λ (z : Moment). IsBreakOf f z) (grind arith) x) k.0)
same_moment f g (o ∷ a) [] m n p q h k e x y =
    absurd (never_spotless g o (subst (λ (z : Moment). IsBreakOf g z) (sym (grind arith)) y) h.0)
same_moment f g (o ∷ a) (r ∷ b) m n p q h k e x y =
    same_moment f g a b m n p q h.1 k.1 (grind arith) x y

one_or_none : (f : First) (past : List Moment) → AreSpotless past → BreaksFirst f past → ⊥
one_or_none f past h k = search (arith, never_spotless, spotless_at k.front k.moment k.back (subst AreSpotless k.parts h))

pub one_first : (past : List Moment) (f g : Option First) → IsFirstOf f past → IsFirstOf g past → f ≡ g
one_first past None None h k = refl
one_first past None (Some g) h k = absurd (one_or_none g past h k)
one_first past (Some f) None h k = absurd (one_or_none f past k h)
one_first past (Some f) (Some g) h k =
    ap Some (same_moment f g h.front k.front h.moment k.moment h.back k.back h.before k.before (sym h.parts ∙ k.parts) h.breaks k.breaks)
