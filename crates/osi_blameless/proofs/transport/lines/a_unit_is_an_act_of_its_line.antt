-- Of a unit in class 2 that names a connection the rules of transport find what the line of that connection says.
-- For the law of that name.
use Rattle.osi_blameless.proofs.transport.Vocabulary.{[], after_finding, ap, arith, begins, Connection, destination_of, Direction}
use Rattle.osi_blameless.proofs.transport.Vocabulary.{finding_of, IsAtPlace}
use Rattle.osi_blameless.proofs.transport.Vocabulary.{List, map, Named, one_told, option_map, Outcome, packet_begins, refl, route_two}
use Rattle.osi_blameless.proofs.transport.Vocabulary.{slice_get}
use Rattle.osi_blameless.proofs.transport.Vocabulary.{slice_set, Some, suc, takes, Traffic as State, uses_source, Value, zero, ℕ, ◌∷◌, ◌≡◌}

pub route_is : (d : Direction) (v : Value) (n : ℕ) → destination_of v ≡ Some n → route_two d v ≡ Named n
route_is d v n e = grind arith

module _ (d : Direction) (v : Value) (s : State) (n place : ℕ) (c : Connection) (at : IsAtPlace d s n place c)
    (named : destination_of v ≡ Some n) where
  pub takes_is : takes d v s ≡ one_told d place c v s
  takes_is = grind (arith, route_is)

  pub found_is : (takes d v s).told.finding ≡ finding_of d s.course (uses_source d s.connections v) c v
  found_is = ap (λ (o : Outcome). o.told.finding) takes_is

  pub after_is : (takes d v s).state.connections
      ≡ slice_set s.connections place (after_finding d (finding_of d s.course (uses_source d s.connections v) c v) v c)
  after_is = grind (arith, takes_is)

-- ---- a packet begins

each_at : {X : Type 0} (f : X → X) (xs : List X) (i : ℕ) → slice_get (map f xs) i ≡ option_map f (slice_get xs i)
each_at f [] i = refl
each_at f (x ∷ xs) zero = refl
each_at f (x ∷ xs) (suc i) = each_at f xs i

pub begun_at : (d : Direction) (s : State) (i : ℕ) →
    slice_get (packet_begins d s).connections i ≡ option_map (begins d) (slice_get s.connections i)
begun_at d s i = each_at (begins d) s.connections i
