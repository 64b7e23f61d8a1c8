-- The session selectors of what arrives.
use Rattle.osi_stack.proofs.Vocabulary.{DT, meaning, word, place_by, said_at, said_if_read, part_octets, as_message, written, is_second}
use Rattle.osi_stack.proofs.Vocabulary.{Place, came, came_as, Contents, Units, tsdu_at, SpduFault, selectors_of, selectors_told, arith, ◌≡◌}
use Rattle.osi_stack.proofs.Vocabulary.{ℕ, List, ◌∷◌, Some, None, Result, Ok, Err, ap, data_sendable, Kind}
use Rattle.osi_spdu.specs.declared.kinds.Kind.TheVariants as kind
use Rattle.osi_stack.proofs.carried.what_a_move_leaves.{Readings, came_is}

-- ---- the first unit that is read

part_selectors : (k : Kind) (unit : Contents) (place : Place) → unit.kind ≡ k → place_by k unit.known ≡ Some place →
    selectors_of (DT unit.information) ≡ selectors_of (meaning unit)
unfolding meaning
part_selectors k unit place e h = grind arith

word_selectors : (unit : Contents) → selectors_of (as_message (word unit)) ≡ selectors_of (meaning unit)
unfolding word
word_selectors unit = grind (arith, part_selectors)

pub read_selectors : (octets : List ℕ) (first : Contents) (behind : Units) → tsdu_at octets ≡ Ok (first ∷ behind) →
    selectors_told (came octets) ≡ selectors_of (meaning first)
unfolding said_at
read_selectors octets first behind e = grind (arith, word_selectors)

pub bad_selectors : (octets : List ℕ) (fault : SpduFault) → tsdu_at octets ≡ Err fault → selectors_told (came octets) ≡ None
unfolding said_at
bad_selectors octets fault e = ap (λ (r : Result Units SpduFault). selectors_told (came_as (said_if_read r))) e

-- ---- data has none, in one TSDU or in parts

pub data_selectors : Readings → (place : Place) (part octets : List ℕ) →
    selectors_told (came (part_octets place part)) ≡ selectors_told (came (written (DT octets)))
unfolding is_second
data_selectors law place part octets = grind (arith, came_is, data_sendable)
