-- A unit that is right on a connection is not blamed, however many connections there are.
-- For the law of that name.
use Rattle.osi_blameless.proofs.transport.Vocabulary.{[], all_passed, arith, Bool, class_for, Connection, destination_of, Direction}
use Rattle.osi_blameless.proofs.transport.Vocabulary.{fails_before_first}
use Rattle.osi_blameless.proofs.transport.Vocabulary.{false, Finding, fresh, get_or_from_slice_get, HoldsOfOne, IfSome, is_named}
use Rattle.osi_blameless.proofs.transport.Vocabulary.{is_stopped, IsAtPlace}
use Rattle.osi_blameless.proofs.transport.Vocabulary.{IsRight, Kept, length, List, lt-ltb, NotJudged, Option, Passing, position}
use Rattle.osi_blameless.proofs.transport.Vocabulary.{position-Some}
use Rattle.osi_blameless.proofs.transport.Vocabulary.{position_or_len, refl, slice_get, slice_get_within, Some, subst, suc, sym, takes}
use Rattle.osi_blameless.proofs.transport.Vocabulary.{Traffic as State}
use Rattle.osi_blameless.proofs.transport.Vocabulary.{true, Two, Value, zero, ℕ, ◌<◌, ◌∷◌, ◌≡◌, ◌⊎◌}
use Rattle.osi_blameless.proofs.transport.names.a_reference_names_one_connection.{names_one}
use Rattle.osi_blameless.proofs.transport.lines.a_unit_is_an_act_of_its_line.{found_is}
use Rattle.osi_blameless.proofs.transport.names.what_holds_of_one_item.{first_true}

-- ---- the first item of which something holds

item_there : {X : Type 0} (xs : List X) (i : ℕ) → i < length xs → (x : X) × (slice_get xs i ≡ Some x)
item_there [] i h = absurd (omega arith)
item_there (x ∷ xs) zero h = (x, refl)
item_there (x ∷ xs) (suc i) h = item_there xs i (omega arith)

pub first_there : {X : Type 0} (f : X → Bool) (xs : List X) (p i : ℕ) (d : X) → position f xs ≡ Some i → (x : X) × (slice_get xs i ≡ Some x)
first_there f xs p i d h = let (within, is, before) = position-Some f xs i d h in item_there xs i within

fails_there : {X : Type 0} (f : X → Bool) (xs : List X) (p : ℕ) (x : X) → slice_get xs p ≡ Some x → f x ≡ true →
    p < position_or_len f xs → ⊥
fails_there f xs p x at h before = grind (arith, fails_before_first f xs p x before, get_or_from_slice_get xs p x x at)

-- if it holds of one, there is a first
pub is_first : {X : Type 0} (f : X → Bool) (xs : List X) (p : ℕ) (x : X) → slice_get xs p ≡ Some x → f x ≡ true →
    position f xs ≡ Some (position_or_len f xs)
is_first f xs p x at h = grind (arith, slice_get_within, fails_there, lt-ltb)

-- ---- a unit that is right

-- right, or not judged
abbrev pub IsNotBlamed : Finding → Type 0
IsNotBlamed f = (f ≡ Kept) ⊎ (f ≡ NotJudged)

pub same_item : {X : Type 0} (x y : X) → Some x ≡ Some y → x ≡ y
same_item x y e = cc

module _ (d : Direction) (v : Value) (s : State) (n p : ℕ) (c : Connection) (apart : HoldsOfOne (is_named d n) s.connections)
    (judged : is_stopped d s.course ≡ false) (class : class_for d s.course ≡ Some Two) (named : destination_of v ≡ Some n)
    (at : slice_get s.connections p ≡ Some c) (is_judged : c.is_judged ≡ true) (right : IsRight d c v) (is : is_named d n c ≡ true) where
  by_first : (q : ℕ) → position (is_named d n) s.connections ≡ Some q → IsNotBlamed (takes d v s).told.finding
  by_first q first =
      let (e, there) = first_there (is_named d n) s.connections p q c first in
      let so = first_true (is_named d n) s.connections q e first there in
      let place : IsAtPlace d s n q e = record { judged = judged; class = class; first = first; is = there } in
      subst (λ (f : Finding). IsNotBlamed f) (sym (found_is d v s n q e place named)) (grind (arith, same_item))

pub named_of : (o : Option ℕ) (n : ℕ) (d : Direction) (c : Connection) → o ≡ Some n → IfSome o (λ m. is_named d m c ≡ true) →
    is_named d n c ≡ true
named_of o n d c e h = grind arith

pub right_not_blamed : (ps : List Passing) (d : Direction) (v : Value) (n p : ℕ) (c : Connection) →
    is_stopped d (all_passed ps fresh).course ≡ false → class_for d (all_passed ps fresh).course ≡ Some Two → destination_of v ≡ Some n →
    slice_get (all_passed ps fresh).connections p ≡ Some c → c.is_judged ≡ true → IsRight d c v →
    IsNotBlamed (takes d v (all_passed ps fresh)).told.finding
right_not_blamed ps d v n p c judged class named at is_judged right =
    let s = all_passed ps fresh in
    let is = named_of (destination_of v) n d c named right.named in
    search (arith, by_first, names_one ps d n, is_first (is_named d n) s.connections p c at is)
