-- Which units of a list are for a connection, by their references; and those that the line of a connection has put.
-- For the law on a whole end.
use Rattle.osi_blameless.proofs.transport.Vocabulary.{[], AllByRecursion, ap, append-nil, arith, Bool, destination_of, disconnected, eq-eqb}
use Rattle.osi_blameless.proofs.transport.Vocabulary.{false, Half}
use Rattle.osi_blameless.proofs.transport.Vocabulary.{is_open, Line, List, None, Option, refl, Some, Standing, theirs, true, Value, ℕ, ◌&&◌}
use Rattle.osi_blameless.proofs.transport.Vocabulary.{◌++◌}
use Rattle.osi_blameless.proofs.transport.Vocabulary.{◌==◌, ◌∙◌, ◌∷◌, ◌≡◌}
use Rattle.osi_blameless.proofs.transport.small_facts_that_many_lemmas_use.{and_not, both, no_two, unequal}
use Rattle.osi_blameless.proofs.transport.lines.what_holds_of_a_line.{Holds, PutsAt, Tally}
use Rattle.osi_blameless.proofs.transport.names.what_keeps_names_apart.{differ}

abbrev pub names_in : ℕ → Option ℕ → Bool
names_in n None = false
names_in n (Some m) = m == n

abbrev pub names : ℕ → Value → Bool
names n v = names_in n (destination_of v)

abbrev pub keep : Bool → Value → List Value → List Value
keep true v vs = v ∷ vs
keep false v vs = vs

-- the units of which this holds, in order
abbrev pub picked : (Value → Bool) → List Value → List Value
picked f [] = []
picked f (v ∷ vs) = keep (f v) v (picked f vs)

-- it holds of the first
abbrev pub leads : (Value → Bool) → List Value → Bool
leads f [] = false
leads f (v ∷ vs) = f v

-- the units that name it
abbrev pub those : ℕ → List Value → List Value
those n vs = picked (names n) vs

pub picked_join : (f : Value → Bool) (xs ys : List Value) → picked f (xs ++ ys) ≡ picked f xs ++ picked f ys
picked_join f [] ys = refl
picked_join f (x ∷ xs) ys = grind (arith, picked_join f xs ys)

pub picked_first : (f : Value → Bool) (v : Value) (vs : List Value) → f v ≡ true → picked f (v ∷ vs) ≡ v ∷ picked f vs
picked_first f v vs e = ap (λ (b : Bool). keep b v (picked f vs)) e

pub picked_rest : (f : Value → Bool) (v : Value) (vs : List Value) → f v ≡ false → picked f (v ∷ vs) ≡ picked f vs
picked_rest f v vs e = ap (λ (b : Bool). keep b v (picked f vs)) e

pub picked_none : (f : Value → Bool) (units : List Value) → AllByRecursion (λ (v : Value). f v ≡ false) units → picked f units ≡ []
picked_none f [] h = refl
picked_none f (v ∷ vs) (one, more) = picked_rest f v vs one ∙ picked_none f vs more

pub leads_none : (f : Value → Bool) (units : List Value) → AllByRecursion (λ (v : Value). f v ≡ false) units → leads f units ≡ false
leads_none f units h = grind arith

-- one more
pub picked_more : (f : Value → Bool) (units : List Value) (v : Value) → f v ≡ true → picked f (units ++ v ∷ []) ≡ picked f units ++ v ∷ []
picked_more f units v e = picked_join f units (v ∷ []) ∙ ap (λ (l : List Value). picked f units ++ l) (picked_first f v [] e)

pub picked_other : (f : Value → Bool) (units : List Value) (v : Value) → f v ≡ false → picked f (units ++ v ∷ []) ≡ picked f units
picked_other f units v e = grind (arith, picked_join, picked_rest, append-nil)

-- what holds of all that are picked
each_by : (P : Value → Type 0) (f : Value → Bool) (v : Value) (vs : List Value) (b : Bool) → f v ≡ b →
    (AllByRecursion P (picked f vs) → AllByRecursion (λ (u : Value). f u ≡ true → P u) vs) → AllByRecursion P (keep b v (picked f vs)) →
    AllByRecursion (λ (u : Value). f u ≡ true → P u) (v ∷ vs)
each_by P f v vs b e rest h = grind (arith, differ)

pub picked_each : (P : Value → Type 0) (f : Value → Bool) (vs : List Value) → AllByRecursion P (picked f vs) →
    AllByRecursion (λ (u : Value). f u ≡ true → P u) vs
picked_each P f [] h = tt
picked_each P f (v ∷ vs) h = each_by P f v vs (f v) refl (picked_each P f vs) h

kept_each : (P : Value → Type 0) (b : Bool) (v : Value) (vs : List Value) → (b ≡ true → P v) → AllByRecursion P vs →
    AllByRecursion P (keep b v vs)
kept_each P b v vs one more = grind arith

pub each_picked : (P : Value → Type 0) (f : Value → Bool) (vs : List Value) → AllByRecursion (λ (u : Value). f u ≡ true → P u) vs →
    AllByRecursion P (picked f vs)
each_picked P f [] h = tt
each_picked P f (v ∷ vs) (one, more) = kept_each P (f v) v (picked f vs) one (each_picked P f vs more)

-- ---- the units that name a reference

pub those_join : (n : ℕ) (xs ys : List Value) → those n (xs ++ ys) ≡ those n xs ++ those n ys
those_join n xs ys = picked_join (names n) xs ys

pub first_kept : (n : ℕ) (v : Value) (vs : List Value) → names n v ≡ true → those n (v ∷ vs) ≡ v ∷ those n vs
first_kept n v vs e = picked_first (names n) v vs e

pub first_left : (n : ℕ) (v : Value) (vs : List Value) → names n v ≡ false → those n (v ∷ vs) ≡ those n vs
first_left n v vs e = picked_rest (names n) v vs e

-- ---- the units of a connection of the end

-- a DC
abbrev pub is_dc : Value → Bool
is_dc (disconnected destination source) = true
is_dc _ = false

abbrev pub IsDc : Value → Type 0
IsDc v = is_dc v ≡ true

-- a DC has the reference that this side gave
abbrev pub is_from : ℕ → Value → Bool
is_from r (disconnected destination source) = source == r
is_from r _ = true

-- a unit of the connection with the reference `r` of this side, and `peer` of the other
abbrev pub is_ours : (r peer : ℕ) → Value → Bool
is_ours r peer v = names peer v && is_from r v

abbrev pub ours : (r peer : ℕ) → List Value → List Value
ours r peer vs = picked (is_ours r peer) vs

pub record IsOf (r peer : ℕ) (v : Value) : Type 0 where
  pub named : destination_of v ≡ Some peer
  pub from : is_from r v ≡ true

abbrev pub AllOurs : (r peer : ℕ) → List Value → Type 0
AllOurs r peer units = AllByRecursion (IsOf r peer) units

pub named_so : (n : ℕ) (v : Value) → destination_of v ≡ Some n → names n v ≡ true
named_so n v e = ap (λ (o : Option ℕ). names_in n o) e ∙ eq-eqb n n refl

pub named_not : (m n : ℕ) (v : Value) → (m ≡ n → ⊥) → destination_of v ≡ Some m → names n v ≡ false
named_not m n v other e = ap (λ (o : Option ℕ). names_in n o) e ∙ unequal m n (m == n) refl other

pub ours_so : (r peer : ℕ) (v : Value) → IsOf r peer v → is_ours r peer v ≡ true
ours_so r peer v h = both (names peer v) (is_from r v) (named_so peer v h.named) h.from

pub ours_is : (r peer : ℕ) (v : Value) → is_ours r peer v ≡ true → IsOf r peer v
ours_is r peer v h = grind arith

-- a unit for another reference of the other side
pub ours_not : (r m peer : ℕ) (v : Value) → (m ≡ peer → ⊥) → destination_of v ≡ Some m → is_ours r peer v ≡ false
ours_not r m peer v other e = no_two (names peer v) (is_from r v) (named_not m peer v other e)

-- a DC of another connection
pub dc_not_ours : (r peer d s : ℕ) → (s ≡ r → ⊥) → is_ours r peer (disconnected d s) ≡ false
dc_not_ours r peer d s other = and_not (d == peer) (s == r) (unequal s r (s == r) refl other)

pub all_ours : (r peer : ℕ) (units : List Value) → AllOurs r peer units → ours r peer units ≡ units
all_ours r peer [] h = refl
all_ours r peer (v ∷ vs) (one, more) = grind (arith, picked_first, ours_so, all_ours r peer vs more)

-- units of a connection to which the other side gave another reference
pub none_ours : (r q m peer : ℕ) (units : List Value) → (m ≡ peer → ⊥) → AllOurs q m units → ours r peer units ≡ []
none_ours r q m peer [] other h = refl
none_ours r q m peer (v ∷ vs) other (one, more) = grind (arith, picked_rest, ours_not, none_ours r q m peer vs other more)

-- ---- the units that a line has put

pub last_ours : (r peer : ℕ) (xs ys : List Value) → AllOurs r peer (xs ++ ys) → AllOurs r peer ys
last_ours r peer [] ys h = h
last_ours r peer (x ∷ xs) ys (one, more) = last_ours r peer xs ys more

pub closes_with_none : (r peer : ℕ) (line : Line) → Holds r peer line → line.end ≡ None → is_open line.judge.left.phase ≡ true →
    line.put ≡ [] → ⊥
closes_with_none r peer line h none live e = grind arith

-- of a link that is there, the end has not closed the connection
put_open : (r peer limit : ℕ) (x : Tally) (mine theirs : Half) (put : List Value) (link : Option Standing) (l : Standing) →
    PutsAt r peer limit x mine theirs put link → link ≡ Some l → is_open mine.phase ≡ true
put_open r peer limit x mine theirs put link l h e = grind arith

pub open_with_link : (r peer : ℕ) (line : Line) → Holds r peer line → (l : Standing) → line.end ≡ Some l →
    is_open line.judge.left.phase ≡ true
open_with_link r peer line h l is = grind (arith, put_open)
