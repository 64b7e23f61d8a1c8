-- A unit that arrives, at each connection: if it is open, its link takes the unit just if this is for it, or it is open no more.
-- For the course of a connection.
use Rattle.osi_blameless.proofs.ends.Vocabulary.{[], ap, arith, Bool, false, is_some, IsSome, List, nat_le, nat_lt, None, Ok, Option, refl}
use Rattle.osi_blameless.proofs.ends.Vocabulary.{Some}
use Rattle.osi_blameless.proofs.ends.Vocabulary.{subst, sym, true, ℕ, ◌&&◌, ◌<◌, ◌==◌, ◌∙◌, ◌∷◌, ◌≡◌, ◌≢◌, eq-eqb, eqb-true, nat_tests}
use Rattle.osi_blameless.proofs.ends.Vocabulary.{append-nil}
use Rattle.osi_blameless.proofs.ends.Vocabulary.{acknowledge, data0, data2, disconnect, Value, Ends, Flow, all_given, Standing, taken}
use Rattle.osi_blameless.proofs.ends.Vocabulary.{taken_by}
use Rattle.osi_blameless.proofs.ends.Vocabulary.{RiseFrom, Two, react_quiet, put_other, beyond, put_here, without_here, connection_by}
use Rattle.osi_blameless.proofs.ends.Vocabulary.{connection_of, pumped, written_by, handed_out, in_two, settles, put, value_at, asked}
use Rattle.osi_blameless.proofs.ends.Vocabulary.{Connection}
use Rattle.osi_blameless.proofs.ends.Vocabulary.{linked, State as Carrier, EndReason, has_given, AreApart, GivesTo, is_for, Opens, IsShut}
use Rattle.osi_blameless.proofs.ends.Vocabulary.{is_of_link, Marked, react}
use Rattle.osi_blameless.proofs.ends.at_any_time.an_end_that_is_over_does_nothing.{never_lasts}
use Rattle.osi_blameless.proofs.ends.links.the_connections_of_each_class.{ByClass, IsSound, one_here}
use Rattle.osi_blameless.proofs.ends.links.the_connections_of_each_class.ByClass.{asks, none, two, zero}
use Rattle.osi_blameless.proofs.ends.links.units_of_each_connection.{marked, none_mark, none_marked, other_marked, unequal}
use Rattle.osi_blameless.proofs.ends.courses.a_connection_without_a_unit.{given_to}
use Rattle.osi_blameless.proofs.ends.links.what_a_unit_does_to_a_connection.{Acts, IsDeaf, acts_elsewhere}
use Rattle.osi_blameless.proofs.ends.links.what_a_unit_does_to_a_connection.Acts.{answers_it, joins, leaves_it, over, rests}
use Rattle.osi_blameless.proofs.ends.links.how_long_a_connection_is_open.{Life, Stage, is_dr, life_as, life_open, life_opens}
use Rattle.osi_blameless.proofs.ends.links.how_long_a_connection_is_open.{life_to_past}
use Rattle.osi_blameless.proofs.ends.links.how_long_a_connection_is_open.{stage_at, stage_is, stage_over, stage_there}
use Rattle.osi_blameless.proofs.ends.links.how_long_a_connection_is_open.Stage.{amid, early, past}

-- ---- a unit of another connection is not for this one

data_ends : (s : Carrier) (end : Bool) (user : List ℕ) (b : Bool) → IsSome (in_two b (data0 end user) s).state.ended
data_ends s end user b = grind arith

module _ (v : Value) (s : Carrier) (lasted : s.ended ≡ None) (lasts : (react v s).ended ≡ None) where
  two_deaf : (w : Value) → v ≡ w → s.class ≡ Some Two → (r : ℕ) → r ≢ connection_by (Some Two) w s → is_for r w ≡ false
  two_deaf w is class r ne = grind (arith, react_quiet, data_ends, never_lasts)

  pub elsewhere_deaf : (r : ℕ) → ByClass s → r ≢ connection_of v s → IsDeaf r v s
  elsewhere_deaf r h ne peer link here = grind (arith, two_deaf, one_here)

-- ---- a unit that a link takes is for its connection

plain_refused : {A : Type 0} (e : Ends) (o : Option Flow) (v : Value) (after : Standing) → is_of_link v ≡ false →
    taken_by e o v ≡ Ok after → A
plain_refused e o v after plain is = grind arith

-- a link of class 0 takes no unit of class 2
no_data2 : (e : Ends) (destination number : ℕ) (end : Bool) (user : List ℕ) (after : Standing) (o : Option Flow) → o ≡ None →
    taken_by e o (data2 destination number end user) ≡ Ok after → ⊥
no_data2 e destination number end user after o empty is = grind arith

no_ack : (e : Ends) (credit destination number : ℕ) (after : Standing) (o : Option Flow) → o ≡ None →
    taken_by e o (acknowledge credit destination number) ≡ Ok after → ⊥
no_ack e credit destination number after o empty is = grind arith

module _ (s : Carrier) (q peer : ℕ) (link after : Standing) (here : value_at q s.live ≡ Some (linked peer link)) where
  pub taken_for : (v : Value) → q ≡ connection_of v s → ByClass s → taken link v ≡ Ok after → is_for q v ≡ true
  taken_for v own by_class is = grind (arith, no_data2, no_ack, plain_refused)

-- ---- a DR ends the connection that it names

module _ (r source reason : ℕ) (user : List ℕ) (s : Carrier) (peer : ℕ) (link : Standing)
    (here : value_at r s.live ≡ Some (linked peer link)) where
  abbrev dr : Value
  dr = disconnect r source reason user

  dr_two : (b : Bool) → s.class ≡ Some Two → RiseFrom 0 s.live → value_at r (in_two b dr s).state.live ≡ None
  dr_two b class rise = grind (arith, without_here)

  module _ (h : IsSound s) (lasted : s.ended ≡ None) (lasts : (react dr s).ended ≡ None)
      (still : value_at r (react dr s).live ≡ Some (linked peer link)) where
    not_open_by : ByClass s → ⊥
    not_open_by (two class) = grind (arith, dr_two s.is_caller class h.orderly.rise, react_quiet)
    not_open_by (none live) = let both : None ≡ Some (linked peer link) = sym (ap (value_at r) live) ∙ here in cc
    not_open_by (asks q class caller live) = grind (arith, one_here)
    not_open_by (zero q first old class flow live) = grind (arith, react_quiet)

    dr_not : ⊥
    dr_not = not_open_by h.by_class

-- so a unit after which the connection is open as it was is none
no_dr : (r : ℕ) (v : Value) (s : Carrier) (peer : ℕ) (link : Standing) → IsSound s → s.ended ≡ None → (react v s).ended ≡ None →
    value_at r s.live ≡ Some (linked peer link) → value_at r (react v s).live ≡ value_at r s.live → is_dr r v ≡ false
no_dr r v s peer link h lasted lasts here same = grind (arith, eqb-true, dr_not)

-- and neither is one that a link takes
link_no_dr : (q r : ℕ) (v : Value) → is_for q v ≡ true → is_dr r v ≡ false
link_no_dr q r v h = grind arith

-- ---- the unit at one connection

past_shut : (o : Option Connection) → IsShut o → stage_there true o ≡ past
past_shut o shut = grind arith

above_given : (r n : ℕ) → 0 < r → (nat_lt 0 r && nat_le r n) ≡ false → n < r
above_given r n some free = grind (arith, nat_tests)

given_is : (r n : ℕ) → (b : Bool) → (nat_lt 0 r && nat_le r n) ≡ b → 0 < r → (n < r → ⊥) → (nat_lt 0 r && nat_le r n) ≡ true
given_is r n b e some below = grind (arith, above_given)

module _ (is_caller : Bool) (r : ℕ) (some : 0 < r) (v : Value) (s : Carrier) (h : IsSound s) (lasted : s.ended ≡ None)
    (side : has_given r s ≡ false → s.is_caller ≡ is_caller) where
  abbrev t : Carrier
  t = react v s

  abbrev P : Stage → ℕ → List Marked → Stage → Type 0
  P a q put b = Life is_caller r a ((q, v) ∷ []) put b

  life_between : (q : ℕ) (put : List Marked) (a b : Stage) → stage_at r s ≡ a → stage_at r t ≡ b → P a q put b →
      P (stage_at r s) q put (stage_at r t)
  life_between q put a b was then_is p = grind (arith, stage_at)

  -- it is no DR for the connection
  abbrev IsNoDr : Type 0
  IsNoDr = (peer : ℕ) (link : Standing) → value_at r s.live ≡ Some (linked peer link) → is_dr r v ≡ false

  same_life : (q : ℕ) (put : List Marked) → (q == r) ≡ false → AreApart r put → stage_at r t ≡ stage_at r s → IsDeaf r v s → IsNoDr →
      P (stage_at r s) q put (stage_at r t)
  same_life q put other apart same deaf plain = search (arith, life_as)

  to_past : (units : List Value) → stage_at r t ≡ past → P (stage_at r s) 0 (marked 0 units) (stage_at r t)
  to_past units is = search (arith, life_to_past, none_marked r units some)

  acts_live : (units : List Value) → Acts r v units s t → t.ended ≡ None → P (stage_at r s) 0 (marked 0 units) (stage_at r t)
  acts_live units (over ended) lasts = to_past units (stage_over r t ended)
  acts_live units (rests live given told events others deaf) lasts =
      same_life 0 (marked 0 units) (grind (arith, none_mark)) (none_marked r units some)
      (grind (arith, stage_is)) deaf
      (λ peer link here. no_dr r v s peer link h lasted lasts here live)
  acts_live units (joins called_end alone free given peer first fresh here events opener answer) lasts =
      let empty : value_at r s.live ≡ None = beyond r s.given s.live h.orderly.up_to (above_given r s.given some free) in
      life_between 0 (marked 0 units) early (amid peer) (stage_is r s None false lasted free empty)
      (stage_is r t (Some (linked peer first)) true lasts given (here empty))
      (life_opens is_caller r peer v [] (marked 0 units)
      (subst (λ (b : Bool). Opens b r peer v) (sym called_end ∙ side free) opener) tt (none_marked r units some) answer)
  acts_live units (answers_it alone was same peer first fresh here events opener answer) lasts =
      life_between 0 (marked 0 units) early (amid peer) (stage_is r s (Some asked) (has_given r s) lasted refl was)
      (stage_is r t (Some (linked peer first)) (has_given r t) lasts refl here)
      (subst (λ (l : List Marked). P early 0 l (amid peer)) (append-nil (marked 0 units))
      (life_opens is_caller r peer v (marked 0 units) [] (opener is_caller) (none_marked r units some) tt answer))
  acts_live units (leaves_it x here same shut) lasts = grind (arith, to_past, stage_is, given_is, beyond, past_shut)

  -- no link takes it
  passed_by : (units : List Value) (q : ℕ) (b : Bool) → (r == q) ≡ b → q ≡ connection_of v s → (o : Option EndReason) → t.ended ≡ o →
      Acts q v units s t → P (stage_at r s) 0 (marked 0 units) (stage_at r t)
  passed_by units q b is own (Some reason) ended act = to_past units (stage_over r t (ap is_some ended))
  passed_by units q true is own None lasts act = search (arith, acts_live, eqb-true r q is)
  passed_by units q false is own None lasts act =
      let ne : r ≢ connection_of v s = λ same. unequal q r is (same ∙ sym own) in
      acts_live units (acts_elsewhere r v units s ne lasts (elsewhere_deaf v s lasted lasts r h.by_class ne)) lasts

  -- the link of its connection takes it
  taken_by_one : (q : ℕ) (b : Bool) → (r == q) ≡ b → q ≡ connection_of v s → (peer : ℕ) (link after : Standing) →
      value_at q s.live ≡ Some (linked peer link) → taken link v ≡ Ok after → t ≡ (settles q peer after s).state →
      P (stage_at r s) q (marked q (written_by peer (handed_out after))) (stage_at r t)
  taken_by_one q false is own peer link after here took then_is =
      let differ = unequal q r is in
      let lasts : t.ended ≡ None = ap (λ (c : Carrier). c.ended) then_is ∙ lasted in
      let live : value_at r t.live ≡ value_at r s.live =
      ap (λ (c : Carrier). value_at r c.live) then_is ∙ put_other r q (linked peer (pumped (handed_out after))) s.live differ in
      let given : has_given r t ≡ has_given r s = ap (has_given r) then_is in
      same_life q (marked q (written_by peer (handed_out after))) (grind (arith, eqb-true))
      (other_marked q r (written_by peer (handed_out after)) differ)
      (grind (arith, stage_is))
      (elsewhere_deaf v s lasted lasts r h.by_class (λ same. differ (same ∙ sym own)))
      (λ p l there. link_no_dr q r v (taken_for s q peer link after here v own h.by_class took))
  taken_by_one q true is own peer link after here took then_is =
      let same = eqb-true r q is in
      let lasts : t.ended ≡ None = ap (λ (c : Carrier). c.ended) then_is ∙ lasted in
      let was : value_at r s.live ≡ Some (linked peer link) = ap (λ (n : ℕ). value_at n s.live) same ∙ here in
      let next = linked peer (pumped (handed_out after)) in
      let now : value_at r t.live ≡ Some next = grind (arith, put_here) in
      let units = written_by peer (handed_out after) in
      life_between q (marked q units) (amid peer) (amid peer) (stage_is r s (Some (linked peer link)) (has_given r s) lasted refl was)
      (stage_is r t (Some next) (has_given r t) lasts refl now)
      (life_open is_caller r peer ((q, v) ∷ []) (marked q units)
      (eq-eqb q r (sym same) ∙ sym (ap (λ (n : ℕ). is_for n v) same ∙ taken_for s q peer link after here v own h.by_class took), tt)
      (link_no_dr q r v (taken_for s q peer link after here v own h.by_class took), tt)
      (subst (λ (n : ℕ). GivesTo r peer (marked n units)) same (given_to r peer (all_given (handed_out after)))))

  pub passed_life : (units : List Value) (q : ℕ) → q ≡ connection_of v s → Acts q v units s t →
      P (stage_at r s) 0 (marked 0 units) (stage_at r t)
  passed_life units q own act = passed_by units q (r == q) refl own t.ended refl act

  pub taken_life : (q : ℕ) → q ≡ connection_of v s → (peer : ℕ) (link after : Standing) → value_at q s.live ≡ Some (linked peer link) →
      taken link v ≡ Ok after → t ≡ (settles q peer after s).state →
      P (stage_at r s) q (marked q (written_by peer (handed_out after))) (stage_at r t)
  taken_life q own peer link after here took then_is = taken_by_one q (r == q) refl own peer link after here took then_is
