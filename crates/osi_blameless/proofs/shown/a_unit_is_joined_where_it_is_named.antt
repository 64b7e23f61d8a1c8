-- A unit that names a connection is joined at the place of the connection to which the other side gave this reference.
-- For the law on places.
use Rattle.osi_blameless.proofs.Vocabulary.{ap, Bool, false, None, Option, refl, Some, true, ℕ, ◌≡◌, eqb-true, slice_get, acknowledge}
use Rattle.osi_blameless.proofs.Vocabulary.{confirm, data0, data2, destination_of, disconnect, disconnected, error, request, Value, Class}
use Rattle.osi_blameless.proofs.Vocabulary.{Two, Zero, is_named, is_refused, route_in, routed, Traffic as State, takes, Connection, Way}
use Rattle.osi_blameless.proofs.Vocabulary.{Finding, Route, Named, Unnamed, other, Direction, Joined, reference_of, way_of, first_true}
use Rattle.osi_blameless.proofs.Vocabulary.{HaveSamePlaces, IsOneOf, arith, Course, number_is}
use Rattle.osi_rules.specs.declared.directions.Direction.TheVariants as way
use Rattle.osi_blameless.proofs.small_facts_that_many_lemmas_use.{or_first}
use Rattle.osi_blameless.proofs.shown.connections_have_the_same_places.{at_same}

-- ---- how a unit with a reference is routed

data IsRouted (n : ℕ) (r : Route) : Type 0 where
  named : r ≡ Named n → IsRouted n r
  unnamed : (f : Finding) → r ≡ Unnamed f → IsRouted n r

to_named : (m n : ℕ) → Some m ≡ Some n → IsRouted n (Named m)
to_named m n e = named (ap (λ (i : ℕ). Named i) (number_is m n e))

how_routed : (k : Option Class) (d : Way) (b : Bool) (v : Value) (n : ℕ) → destination_of v ≡ Some n → IsRouted n (route_in k d b v)
how_routed None way.Left b (disconnected m source) n e = to_named m n e
how_routed None way.Right b (confirm m c) n e = to_named m n e
how_routed None way.Right b (disconnect m source reason user) n e = to_named m n e
how_routed None way.Right b (disconnected m source) n e = to_named m n e
how_routed None way.Right b (error m cause) n e = to_named m n e
how_routed (Some Zero) way.Left true (error m cause) n e = unnamed _ refl
how_routed (Some Zero) way.Left false (error m cause) n e = unnamed _ refl
how_routed (Some Zero) way.Right true (error m cause) n e = unnamed _ refl
how_routed (Some Zero) way.Right false (error m cause) n e = unnamed _ refl
how_routed (Some Two) way.Left b (confirm m c) n e = to_named m n e
how_routed (Some Two) way.Left b (disconnect m source reason user) n e = to_named m n e
how_routed _ way.Left b (disconnected m source) n e = to_named m n e
how_routed (Some Two) way.Left b (data2 m number end user) n e = to_named m n e
how_routed (Some Two) way.Left b (acknowledge credit m number) n e = to_named m n e
how_routed (Some Two) way.Left b (error m cause) n e = to_named m n e
how_routed (Some Two) way.Right b (confirm m c) n e = to_named m n e
how_routed (Some Two) way.Right b (disconnect m source reason user) n e = to_named m n e
how_routed _ way.Right b (disconnected m source) n e = to_named m n e
how_routed (Some Two) way.Right b (data2 m number end user) n e = to_named m n e
how_routed (Some Two) way.Right b (acknowledge credit m number) n e = to_named m n e
how_routed (Some Two) way.Right b (error m cause) n e = to_named m n e
how_routed k d b (request c) n e = absurd (cc)
how_routed k d b (data0 end user) n e = absurd (cc)
how_routed None way.Left b _ n e = unnamed _ refl
how_routed (Some Zero) way.Left b _ n e = unnamed _ refl
how_routed (Some Zero) way.Right b _ n e = unnamed _ refl
how_routed None way.Right b _ n e = unnamed _ refl

-- ---- the place of a unit with a reference

no_place : {A : Type 0} (i : ℕ) → None ≡ Some i → A
no_place i e = absurd (cc)

module _ (d : Way) (v : Value) (s : State) (n i : ℕ) (c : Connection) (there : slice_get s.connections i ≡ Some c) where
  routed_named : (r : Route) → IsRouted n r → (routed d v s r).told.place ≡ Some i → is_named d n c ≡ true
  routed_named r h h2 = grind (arith, no_place, first_true)

  -- it names the connection at the place that is told of it
  pub names_there : destination_of v ≡ Some n → (takes d v s).told.place ≡ Some i → is_named d n c ≡ true
  names_there e h = search (arith, no_place, routed_named, how_routed)

-- ---- the reference that the other side gave

-- what a unit of a side names has this reference of the other side
pub named_there : (d : Direction) (n : ℕ) (c : Connection) (j : Joined) → IsOneOf c j → c.is_judged ≡ true →
    is_named (way_of d) n c ≡ true → reference_of (other d) j ≡ Some n
named_there d n c j h judged is_so = grind (arith, or_first, eqb-true)

lost_there : (d : Direction) (n : ℕ) (c : Connection) (j : Joined) → IsOneOf c j → c.is_judged ≡ false →
    is_refused c.seen_by_left.phase ≡ false → is_named (way_of d) n c ≡ true → reference_of (other d) j ≡ Some n
lost_there d n c j h lost there is_so = grind (arith, eqb-true)

pub named_any : (d : Direction) (n : ℕ) (c : Connection) (j : Joined) → IsOneOf c j →
    (c.is_judged ≡ false → is_refused c.seen_by_left.phase ≡ false) → is_named (way_of d) n c ≡ true → reference_of (other d) j ≡ Some n
named_any d n c j one there is_so = grind (arith, named_there, lost_there)

-- ---- a unit, and what is joined

pub joined_named : (d : Direction) (v : Value) (c : Course) (n i : ℕ) (connection : Connection) (j : Joined) →
    HaveSamePlaces c.traffic.connections c.sessions.live → destination_of v ≡ Some n →
    (takes (way_of d) v c.traffic).told.place ≡ Some i → slice_get c.traffic.connections i ≡ Some connection →
    connection.is_judged ≡ true → slice_get c.sessions.live i ≡ Some j → reference_of (other d) j ≡ Some n
joined_named d v c n i connection j h e place there judged here =
    let (k, at, one) = at_same c.traffic.connections c.sessions.live i connection h there in
    grind (arith, named_there, names_there (way_of d) v c.traffic n i connection there e place)

pub joined_any : (d : Direction) (v : Value) (c : Course) (n i : ℕ) (connection : Connection) (j : Joined) →
    HaveSamePlaces c.traffic.connections c.sessions.live → destination_of v ≡ Some n →
    (takes (way_of d) v c.traffic).told.place ≡ Some i → slice_get c.traffic.connections i ≡ Some connection →
    (connection.is_judged ≡ false → is_refused connection.seen_by_left.phase ≡ false) → slice_get c.sessions.live i ≡ Some j →
    reference_of (other d) j ≡ Some n
joined_any d v c n i connection j h e place there known here =
    let (k, at, one) = at_same c.traffic.connections c.sessions.live i connection h there in
    grind (arith, named_any, names_there (way_of d) v c.traffic n i connection there e place)
