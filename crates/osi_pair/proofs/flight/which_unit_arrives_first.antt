-- Which unit can arrive first at an end, by the state of its connection there.
-- For what is in flight and packets.
use Rattle.osi_between.specs.Zero as zero_class
use Rattle.osi_pair.proofs.Vocabulary.{◌≡◌, ℕ, zero, suc, ◌<◌, ◌≤◌, Bool, true, false, not, ◌&&◌, List, [], ◌∷◌, ◌++◌, Some, None, sym, ap}
use Rattle.osi_pair.proofs.Vocabulary.{subst, ◌∙◌, arith, first_of_all, source_is, one_place, AllByRecursion, Value, request, confirm}
use Rattle.osi_pair.proofs.Vocabulary.{disconnect, data0, data2, acknowledge, Given, Zero, Two, Local, Place, never, was_given, place_at}
use Rattle.osi_pair.proofs.Vocabulary.{asked, linked, closing, State, reference_of, units_of, Both, Between, last_of, lost_from, units_from}
use Rattle.osi_pair.proofs.Vocabulary.{AreJoinedBy, AreBetween, Course, asking, accepting, withdrawing, met, at_end, from_end, Holds}
use Rattle.osi_pair.proofs.Vocabulary.{mirror_twice, Meeting, talking, left_there, waiting_there, parted, mirror, here, addressed, leaving}
use Rattle.osi_pair.proofs.Vocabulary.{out, Terms, by_two, by_zero, refusing, accepts_in, class_of, ZeroCourse, HasOne, given_in}

-- ---- by place

-- what an open connection takes of the other end
abbrev pub comes_open : Value → Bool
comes_open (data0 end user) = true
comes_open (data2 destination number end user) = true
comes_open (acknowledge credit destination number) = true
comes_open (disconnect destination (suc source) reason user) = true
comes_open unit = false

-- the answer to a CR is its CC, or if all are refused the DR that refuses it
abbrev pub comes_asked : Bool → Value → Bool
comes_asked true (confirm destination c) = true
comes_asked false (disconnect destination zero reason user) = true
comes_asked accepts unit = false

abbrev pub comes_new : Value → Bool
comes_new (request c) = true
comes_new unit = false

-- if CRs are accepted, or refused
abbrev pub comes : Bool → Place → Value → Bool
comes accepts never unit = comes_new unit
comes accepts (was_given None) unit = false
comes accepts (was_given (Some asked)) unit = comes_asked accepts unit
comes accepts (was_given (Some (linked peer link))) unit = accepts && comes_open unit
comes accepts (was_given (Some (closing peer))) unit = accepts

abbrev pub is_linked : Place → Bool
is_linked (was_given (Some (linked peer link))) = true
is_linked place = false

abbrev pub is_asked : Place → Bool
is_asked (was_given (Some asked)) = true
is_asked place = false

-- The unit is for a reference that the caller gave, and such as may come in the state of its connection; and if that is
-- open the caller has the class. The called end awaits no CC.
pub record IsFirstFor (terms : Terms) (end : Bool) (caller : State) (place : Place) (u : Value) : Type 0 where
  pub named : 0 < reference_of u
  pub given : reference_of u ≤ caller.given
  pub may : comes (accepts_in terms) place u ≡ true
  pub class : is_linked place ≡ true → caller.class ≡ class_of terms
  pub waits : is_asked place ≡ true → end ≡ true

-- ---- in class 2

first_is : {A : Type 0} (x y : A) (xs ys : List A) → x ∷ xs ≡ y ∷ ys → x ≡ y
first_is x y xs ys e = cc

none_first : {A : Type 0} {B : Type 0} (y : A) (ys : List A) → [] ≡ y ∷ ys → B
none_first y ys e = cc

open_first : (n : ℕ) (gs : List Given) (u : Value) (vs : List Value) → addressed n gs ≡ u ∷ vs → comes_open u ≡ true
open_first n [] u vs e = none_first u vs e
open_first n (g ∷ gs) u vs e = grind arith

left_first : (n reason : ℕ) (gs : List Given) (u : Value) (vs : List Value) → 0 < n → addressed n gs ++ leaving n reason ∷ [] ≡ u ∷ vs →
    comes_open u ≡ true
left_first n reason [] u vs some e = grind arith
left_first n reason (g ∷ gs) u vs some e = grind (arith, first_is)

met_comes : (n : ℕ) (m : Meeting) (u : Value) (vs : List Value) → 0 < n → out n (mirror m) ≡ u ∷ vs →
    comes true (was_given (here n m)) u ≡ true
met_comes n (talking p) u vs some e = open_first n p.leftward u vs e
met_comes n (left_there p units reason) u vs some e = left_first n reason p.leftward u vs some e
met_comes n (waiting_there units last) u vs some e = none_first u vs e
met_comes n parted u vs some e = none_first u vs e
met_comes n m u vs some e = grind arith

record ComesBy (end : Bool) (n : ℕ) (caller : State) (g : Course) (place : Place) (u : Value) : Type 0 where
  may : comes true place u ≡ true
  class : is_linked place ≡ true → caller.class ≡ Some Two
  given : at_end true n g ≡ never → ⊥
  waits : is_asked place ≡ true → end ≡ true

to_end : (end : Bool) (n : ℕ) (caller called : State) (g : Course) (u : Value) (vs : List Value) → 0 < n → Holds n caller called g →
    from_end (not end) n called.local g ≡ u ∷ vs → ComesBy end n caller g (at_end end n g) u
to_end true n caller called (accepting c p) u vs some h e = grind (arith, first_is)
to_end true n caller called (withdrawing c p reason) u vs some h e = grind (arith, first_is)
to_end true n caller called (met m) u vs some h e = grind (arith, met_comes n m u vs some e)
to_end false n caller called (asking c) u vs some h e = grind (arith, first_is)
to_end false n caller called (met m) u vs some h e = grind (arith, met_comes n (mirror m) u vs some (ap (out n) (mirror_twice m) ∙ e))
to_end end n caller called g u vs some h e = none_first u vs e

-- a reference that the caller has a place for was given
was : (n : ℕ) (s : State) → (place_at n s ≡ never → ⊥) → n ≤ s.given
was n s none = grind arith

-- ---- in class 0

record ZeroBy (end : Bool) (caller : Place) (place : Place) (u : Value) : Type 0 where
  first : reference_of u ≡ 1
  may : comes true place u ≡ true
  class : is_linked place ≡ true → zero_class.class_in caller ≡ Some Zero
  given : given_in caller ≡ 1
  waits : is_asked place ≡ true → end ≡ true

one_first : (gs : List Given) (u : Value) (vs : List Value) → addressed 1 gs ≡ u ∷ vs → reference_of u ≡ 1
one_first [] u vs e = none_first u vs e
one_first (g ∷ gs) u vs e = grind arith

zero_to_end : (end : Bool) (caller called : Local) (g : ZeroCourse) (u : Value) (vs : List Value) → zero_class.Holds caller called g →
    zero_class.from_end (not end) called g ≡ u ∷ vs → ZeroBy end (zero_class.at_end true g) (zero_class.at_end end g) u
zero_to_end true caller called (zero_class.accepting c p) u vs h e = grind (arith, first_is)
zero_to_end false caller called (zero_class.asking c) u vs h e = grind (arith, first_is, source_is)
zero_to_end end caller called (zero_class.talking p) u vs h e = search (arith, one_first, open_first)
zero_to_end end caller called g u vs h e = none_first u vs e

zero_first : (end : Bool) (caller taker : State) (there place : Place) (u : Value) → HasOne caller there → HasOne taker place →
    ZeroBy end there place u → IsFirstFor by_zero end caller (place_at (reference_of u) taker) u
zero_first end caller taker there place u one other z = search (arith, one_place)

-- ---- at either end

first_by : (terms : Terms) (end : Bool) (b : Between) (u : Value) (rest : List Value) →
    AreJoinedBy terms b.caller b.called (b.going ++ b.going_lost) (b.coming ++ b.coming_lost) →
    units_from (not end) b ++ lost_from (not end) b ≡ u ∷ rest →
    IsFirstFor terms end b.caller (place_at (reference_of u) (last_of end b)) u
first_by by_two end b u rest j e =
    let n = reference_of u in
    let named : AllByRecursion (λ unit. 0 < reference_of unit) (units_from (not end) b ++ lost_from (not end) b) =
    grind (arith, j.named, j.named_back) in
    let some : 0 < n = (subst (λ (us : List Value). AllByRecursion (λ unit. 0 < reference_of unit) us) e named).0 in
    let st = j.stands n some in
    let units : from_end (not end) n b.called.local st.course ≡ units_of n (units_from (not end) b ++ lost_from (not end) b) =
    grind (arith, st.out, st.back) in
    let c = to_end end n b.caller b.called st.course u (units_of n rest) some st.holds
    (units ∙ ap (units_of n) e ∙ first_of_all u rest) in
    grind (arith, was)
first_by by_zero true b u rest j e =
    search (arith, zero_first, zero_to_end true b.caller.local b.called.local j.course u rest j.holds (sym j.coming ∙ e))
first_by by_zero false b u rest j e =
    search (arith, zero_first, zero_to_end false b.caller.local b.called.local j.course u rest j.holds (sym j.going ∙ e))
first_by (refusing reason) true b u rest j e = grind (arith, j.holds, j.live, sym j.coming ∙ e)
first_by (refusing reason) false b u rest j e = search arith

pub first_for : (terms : Terms) (end : Bool) (both : Both) (b : Between) (u : Value) (rest : List Value) → AreBetween terms both b →
    units_from (not end) b ≡ u ∷ rest → IsFirstFor terms end b.caller (place_at (reference_of u) (last_of end b)) u
first_for terms end both b u rest a e =
    first_by terms end b u (rest ++ lost_from (not end) b) a.joined (ap (λ (l : List Value). l ++ lost_from (not end) b) e)
