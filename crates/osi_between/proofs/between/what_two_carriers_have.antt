-- What two carriers have for a reference that the caller did not give, and before a class is agreed.
-- For the laws.
use Rattle.osi_between.specs.Between.{under_way}
use Rattle.osi_between.proofs.Vocabulary.{◌≡◌, ℕ, ◌<◌, ◌≤◌, Bool, true, false, List, [], ◌++◌, Some, None, arith, Value, never, place_at}
use Rattle.osi_between.proofs.Vocabulary.{value_at, Connection, asked, State, units_of, Both, Between, AreJoinedBy, AreBetween, Terms}
use Rattle.osi_between.proofs.Vocabulary.{by_two, by_zero, refusing, AreJoinedZero}
use Rattle.osi_between.proofs.unit.the_units_of_one_connection.{units_join, units_other, front_none}
use Rattle.osi_between.proofs.joined.requests_beginnings_and_nothing_in_flight.{next_never}
use Rattle.osi_between.proofs.joined.joined_carriers_stay_joined.{within_given}
use Rattle.osi_between.proofs.zero.class_0_provides_what_is_asked.{at_one}
use Rattle.osi_between.proofs.zero.the_one_connection_of_class_0.{zero_units}

-- ---- a reference that was not given

-- neither end has the connection, and no unit is for it
record IsAhead (n : ℕ) (caller called : State) (going coming : List Value) : Type 0 where
  here : place_at n caller ≡ never
  there : place_at n called ≡ never
  out : units_of n going ≡ []
  back : units_of n coming ≡ []

ahead_zero : (n : ℕ) (s r : State) (going coming : List Value) → AreJoinedZero s r going coming → s.given < n → IsAhead n s r going coming
ahead_zero n s r going coming j above =
    let out = zero_units true s.local r.local j.course j.holds in
    let back = zero_units false s.local r.local j.course j.holds in
    grind (arith, next_never, units_other)

ahead_at : (terms : Terms) (n : ℕ) (s r : State) (going coming : List Value) → AreJoinedBy terms s r going coming → s.given < n →
    IsAhead n s r going coming
ahead_at by_two n s r going coming j above = grind (arith, j.stands n (omega arith), next_never s n above)
ahead_at by_zero n s r going coming j above = ahead_zero n s r going coming j above
ahead_at (refusing reason) n s r going coming j above = grind (arith, next_never)

pub none_ahead : (terms : Terms) (both : Both) (b : Between) (end : Bool) (n : ℕ) → AreBetween terms both b → b.caller.given < n →
    under_way end n both b ≡ []
none_ahead terms both b end n a above =
    let h = ahead_at terms n b.caller b.called (b.going ++ b.going_lost) (b.coming ++ b.coming_lost) a.joined above in
    grind (arith, front_none, units_join)

-- ---- the called end gives no reference that the caller did not

pub none_more : (terms : Terms) (both : Both) (b : Between) → AreBetween terms both b → b.called.given ≤ b.caller.given
none_more terms both b a = grind arith

-- ---- before a class holds

awaits_at : (terms : Terms) (n : ℕ) (x : Connection) (s r : State) (going coming : List Value) → AreJoinedBy terms s r going coming →
    s.class ≡ None → value_at n s.live ≡ Some x → x ≡ asked
awaits_at by_two n x s r going coming j none at = grind (arith, j.stands n (within_given n s x j.orderly at).0)
awaits_at by_zero n x s r going coming j none at = grind (arith, at_one)
awaits_at (refusing reason) n x s r going coming j none at = grind arith

pub awaits_all : (terms : Terms) (both : Both) (b : Between) (n : ℕ) (x : Connection) → AreBetween terms both b → b.caller.class ≡ None →
    value_at n b.caller.live ≡ Some x → x ≡ asked
awaits_all terms both b n x a none at = grind (arith, awaits_at)

-- ---- which is which

pub roles : (terms : Terms) (both : Both) (b : Between) → AreBetween terms both b →
    (b.caller.is_caller ≡ true) × (b.called.is_caller ≡ false)
roles terms both b a = grind arith
