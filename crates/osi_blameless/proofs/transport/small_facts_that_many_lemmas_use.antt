-- Small facts that lemmas of several files use: of truth values, lists and numbers, and of one step of a connection.
-- For all proofs of this crate.
use Rattle.osi_blameless.proofs.transport.Vocabulary.{[], AllByRecursion, ap, arith, begins, Bool, closing_phase, confirm, Connect}
use Rattle.osi_blameless.proofs.transport.Vocabulary.{Connection, Direction}
use Rattle.osi_blameless.proofs.transport.Vocabulary.{EndReason, eqb-true, false, Finding, Half, half_after, if◌then◌else◌, is_closing}
use Rattle.osi_blameless.proofs.transport.Vocabulary.{is_open, is_silent}
use Rattle.osi_blameless.proofs.transport.Vocabulary.{is_some, List, list_any, None, not, NotJudged, Option, packet_begins, Phase, refl}
use Rattle.osi_blameless.proofs.transport.Vocabulary.{set, sized}
use Rattle.osi_blameless.proofs.transport.Vocabulary.{slice_get, Some, suc, Traffic, true, Value, zero, ℕ, ◌&&◌, ◌++◌, ◌==◌, ◌||◌, ◌∙◌, ◌∷◌}
use Rattle.osi_blameless.proofs.transport.Vocabulary.{◌≡◌}
use Rattle.osi_blameless.proofs.transport.Vocabulary.{eq-eqb, flat_map-append, units_by, units_in, units_of}
use Rattle.osi_blameless.proofs.transport.Vocabulary.{Reach, judged_on}

pub all_add : {X : Type 0} (P : X → Type 0) (vs : List X) (v : X) → AllByRecursion P vs → P v → AllByRecursion P (vs ++ v ∷ [])
all_add P [] v a p = (p, tt)
all_add P (u ∷ vs) v (one, more) p = (one, all_add P vs v more p)

pub and_false : (b : Bool) → (b && false) ≡ false
and_false b = grind arith

pub and_first : (a b : Bool) → (a && b) ≡ true → a ≡ true
and_first a b h = grind arith

pub and_not : (a b : Bool) → b ≡ false → (a && b) ≡ false
and_not a b h = grind arith

pub and_second : (a b : Bool) → (a && b) ≡ true → b ≡ true
and_second a b h = grind arith

pub any_none : (f : Connection → Bool) (cs : List Connection) → ((i : ℕ) (c : Connection) → slice_get cs i ≡ Some c → f c ≡ false) →
    list_any f cs ≡ false
any_none f [] h = refl
any_none f (c ∷ cs) h =
    ap (λ (b : Bool). b || list_any f cs) (h 0 c refl) ∙ any_none f cs (λ i e at. h (suc i) e at)

pub begins_judged : (d : Direction) (c : Connection) → (begins d c).is_judged ≡ c.is_judged
begins_judged d c = grind arith

pub begun_left : (d : Direction) (c : Connection) → (begins d c).left ≡ c.left
begun_left d c = grind arith

pub begun_right : (d : Direction) (c : Connection) → (begins d c).right ≡ c.right
begun_right d c = grind arith

pub both : (a b : Bool) → a ≡ true → b ≡ true → (a && b) ≡ true
both a b h k = grind arith

pub closing_same : (was : Bool) (half : Half) → (closing_phase was half).reference ≡ half.reference
closing_same was half = grind arith

pub closing_shuts : (was : Bool) (half : Half) → is_open (closing_phase was half).phase ≡ false
closing_shuts was half = grind arith

pub course_class : (d : Direction) (s : Traffic) → (packet_begins d s).course.class ≡ s.course.class
course_class d s = grind arith

pub differ : {A : Type 0} (b : Bool) → b ≡ true → b ≡ false → A
differ b h k = absurd (cc)

pub first_is : (u v : Value) (xs ys : List Value) → u ∷ xs ≡ v ∷ ys → u ≡ v
first_is u v xs ys e = cc

pub is_false : (b : Bool) → (b ≡ true → ⊥) → b ≡ false
is_false b h = grind arith

pub item_is : {X : Type 0} (x y : X) (o : Option X) → o ≡ Some x → o ≡ Some y → x ≡ y
item_is x y o h k = cc

pub judged_same : (j : Bool) (g : Finding) → j ≡ true → (if j then g else NotJudged) ≡ g
judged_same j g h = grind arith

pub judged_so : (j : Bool) (g h : Finding) → j ≡ true → g ≡ h → (if j then g else NotJudged) ≡ h
judged_so j g h k e = grind arith

pub live_not_over : (b : Bool) → not b ≡ true → b ≡ true → ⊥
live_not_over b h k = grind arith

pub name_so : (a b c : Bool) → a ≡ false → b ≡ false → c ≡ true → (not a && (not b && c)) ≡ true
name_so a b c h k m = grind arith

pub no_list : (v : Value) (vs : List Value) → v ∷ vs ≡ [] → ⊥
no_list v vs e = cc

pub no_number : {A : Type 0} (o : Option ℕ) (n : ℕ) → o ≡ None → o ≡ Some n → A
no_number o n e h = absurd (cc)

pub no_two : (b two : Bool) → b ≡ false → (b && two) ≡ false
no_two b two h = grind arith

pub none_of : (o : Option EndReason) → is_some o ≡ false → o ≡ None
none_of o e = grind arith

pub not_not : (b : Bool) → not b ≡ false → b ≡ true
not_not b h = grind arith

pub number_is : (m n : ℕ) → Some m ≡ Some n → m ≡ n
number_is m n e = cc

pub open_or_closing : (p : Phase) → is_open p ≡ true → is_closing p ≡ true → ⊥
open_or_closing p h k = grind arith

pub or_first : (a b : Bool) → a ≡ true → (a || b) ≡ true
or_first a b h = grind arith

pub or_last : (a b : Bool) → b ≡ true → (a || b) ≡ true
or_last a b h = grind arith

pub or_left : (a b : Bool) → (a || b) ≡ false → a ≡ false
or_left a b h = grind arith

pub or_right : (a b : Bool) → (a || b) ≡ false → b ≡ false
or_right a b h = grind arith

pub rest_is : (u v : Value) (xs ys : List Value) → u ∷ xs ≡ v ∷ ys → xs ≡ ys
rest_is u v xs ys e = cc

pub set_none : {X : Type 0} (xs : List X) (p i : ℕ) (x : X) → slice_get (set xs p x) i ≡ None → slice_get xs i ≡ None
set_none [] p i x h = h
set_none (y ∷ ys) zero zero x h = absurd (cc)
set_none (y ∷ ys) zero (suc i) x h = h
set_none (y ∷ ys) (suc p) zero x h = absurd (cc)
set_none (y ∷ ys) (suc p) (suc i) x h = set_none ys p i x h

pub set_other : {X : Type 0} (xs : List X) (p i : ℕ) (x y : X) → (i ≡ p → ⊥) → slice_get xs i ≡ Some y → slice_get (set xs p x) i ≡ Some y
set_other [] p i x y other h = absurd (cc)
set_other (z ∷ xs) zero zero x y other h = absurd (other refl)
set_other (z ∷ xs) zero (suc i) x y other h = h
set_other (z ∷ xs) (suc p) zero x y other h = h
set_other (z ∷ xs) (suc p) (suc i) x y other h = set_other xs p i x y (λ e. other (ap suc e)) h

pub sized_judged : (v : Value) (c : Connection) → (sized v c).is_judged ≡ c.is_judged
sized_judged v c = grind arith

pub some_same : {X : Type 0} (x y : X) → Some x ≡ Some y → y ≡ x
some_same x y e = cc

pub unequal : (m n : ℕ) (b : Bool) → (m == n) ≡ b → (m ≡ n → ⊥) → b ≡ false
unequal m n b e h = grind (arith, eqb-true)

pub all_join : (P : Value → Type 0) (xs ys : List Value) → AllByRecursion P xs → AllByRecursion P ys → AllByRecursion P (xs ++ ys)
all_join P [] ys a b = b
all_join P (x ∷ xs) ys (one, more) b = (one, all_join P xs ys more b)

pub half_keeps : (u : Value) (half : Half) → ((m : ℕ) (x : Connect) → u ≡ confirm m x → ⊥) → (half_after u half).reference ≡ half.reference
half_keeps u half none = grind (arith, closing_same)

pub half_started : (u : Value) (half : Half) → is_silent half.phase ≡ false → is_silent (half_after u half).phase ≡ false
half_started u half h = grind arith

pub units_join : (us vs : List (List ℕ)) → units_in (us ++ vs) ≡ units_in us ++ units_in vs
units_join us vs = flat_map-append (λ packet. units_by (units_of packet)) us vs

pub set_there : {X : Type 0} (xs : List X) (p : ℕ) (x y : X) → slice_get xs p ≡ Some y → slice_get (set xs p x) p ≡ Some x
set_there [] p x y h = absurd (cc)
set_there (z ∷ xs) zero x y h = refl
set_there (z ∷ xs) (suc p) x y h = set_there xs p x y h

pub unlike : (q p : ℕ) → (q == p) ≡ false → q ≡ p → ⊥
unlike q p h e = differ (q == p) (ap (λ (x : ℕ). x == p) e ∙ eq-eqb p p refl) h

pub left_judged : (r : Reach) (c : Connection) → (judged_on r c).left ≡ c.left
left_judged r c = grind arith

pub right_judged : (r : Reach) (c : Connection) → (judged_on r c).right ≡ c.right
right_judged r c = grind arith
