-- If no unit is in flight, nothing is in flight for a connection that is open at both ends.
-- For the laws.
use Rattle.osi_between.specs.Zero.{talking, at_end, from_end, Holds}
use Rattle.osi_between.proofs.Vocabulary.{◌≡◌, ℕ, true, false, List, [], ◌∷◌, ◌++◌, Some, refl, sym, arith, Value, LinkPair, Standing}
use Rattle.osi_between.proofs.Vocabulary.{nothing_begun, was_given, value_at, linked, State, packets, Both, Between, AreJoinedBy}
use Rattle.osi_between.proofs.Vocabulary.{AreBetween, IsStill, IsAllThere, IsEmpty, under_way_for, AreOpen, Terms, by_two, by_zero}
use Rattle.osi_between.proofs.Vocabulary.{refusing, ZeroCourse, HasOne}
use Rattle.osi_between.proofs.joined.requests_beginnings_and_nothing_in_flight.{still, none_addressed}
use Rattle.osi_between.proofs.meeting.a_connection_after_each_unit_and_call.{open_mirror}
use Rattle.osi_between.proofs.joined.class_2_provides_what_is_asked.{linked_own}
use Rattle.osi_between.proofs.zero.a_called_end_that_refuses_all.{none_open}
use Rattle.osi_between.proofs.zero.class_0_provides_what_is_asked.{open_at}
use Rattle.osi_between.proofs.zero.the_one_connection_of_class_0.{one_place, under_is}

-- what is left of a connection that is open at both: nothing
pub record IsDone (n : ℕ) (s r : State) (link peer : Standing) : Type 0 where
  pub links : IsEmpty link peer
  pub there : under_way_for n s r [] ≡ []
  pub back : under_way_for n r s [] ≡ []

-- ---- class 0

done_links : (s r : State) (p : LinkPair) → HasOne s (was_given (Some (linked 1 p.left))) → HasOne r (was_given (Some (linked 1 p.right))) →
    AreOpen false p → p.rightward ≡ [] → p.leftward ≡ [] → IsDone 1 s r p.left p.right
done_links s r p one other a rightward leftward = grind (arith, open_mirror, nothing_begun, one_place, under_is)

done_by : (s r : State) (p q : ℕ) (x y : Standing) (g : ZeroCourse) → at_end true g ≡ was_given (Some (linked p x)) →
    at_end false g ≡ was_given (Some (linked q y)) → HasOne s (at_end true g) → HasOne r (at_end false g) →
    [] ≡ from_end true r.local g → [] ≡ from_end false r.local g → Holds s.local r.local g → IsDone 1 s r x y
done_by s r p q x y (talking l) here there one other is back h =
    grind (arith, done_links s r l one other h (none_addressed 1 l.rightward (sym is)) (none_addressed 1 l.leftward (sym back)))
done_by s r p q x y g here there one other is back h = cc

-- ---- whatever the two agree on

done_at : (terms : Terms) (s r : State) (n p q : ℕ) (x y : Standing) → AreJoinedBy terms s r [] [] → value_at n s.live ≡ Some (linked p x) →
    value_at n r.live ≡ Some (linked q y) → IsDone n s r x y
done_at by_two s r n p q x y j at at_there =
    grind (arith, still, linked_own true s r [] [] n p x j at, linked_own false r s [] [] n q y j at_there)
done_at by_zero s r n p q x y j at at_there =
    let here = open_at s (at_end true j.course) n p x j.one at in
    let there = open_at r (at_end false j.course) n q y j.one_called at_there in
    rw here.reference (done_by s r p q x y j.course here.is there.is j.one j.one_called j.going j.coming j.holds)
done_at (refusing reason) s r n p q x y j at at_there = absurd (none_open s j.stage n p x j.live at)

packets_none : (us : List Value) (front : List ℕ) → [] ≡ packets us ++ front → us ≡ []
packets_none [] front e = refl
packets_none (u ∷ us) front e = cc

pub emptied : (terms : Terms) (both : Both) (b : Between) (n p q : ℕ) (x y : Standing) → AreBetween terms both b → IsStill both →
    value_at n both.caller.state.live ≡ Some (linked p x) → value_at n both.called.state.live ≡ Some (linked q y) → IsAllThere n both b x y
emptied terms both b n p q x y a still at at_there =
    grind (
      arith,
      packets_none,
      done_at,
      a.lives true still.lasts,
      a.lives false still.lasts_called,
      a.comes true still.lasts_called,
      a.comes false still.lasts,
      a.unbroken still.unbroken true,
      a.unbroken still.unbroken false,
    )
