-- What a judge has joined of a connection of an end, beside what was done at the end of this connection.
use Rattle.std.specs.Prelude.{◌≡◌, ◌≤◌, ℕ, Bool, true, false, List, [], ◌∷◌, ◌++◌, length, map, Option, Some, None, is_none}
use Rattle.std.specs.List.{AllByRecursion, flat_map}
use Rattle.osi_tpdu.specs.Value.{Value}
use Rattle.osi_class.specs.Runs.{parts_in, unit_parts}
use Rattle.osi_class.specs.Tsdus.{Part, tsdus}
use Rattle.osi_side.specs.Captures.{other}
use Rattle.osi_side.specs.declared.directions.Direction.{Direction}
use Rattle.osi_side.specs.declared.directions.Direction.TheVariants.{Left, Right}
use Rattle.osi_blameless.specs.ends.Courses.{Deeds, said_in}
use Rattle.osi_blameless.specs.ends.Parts.{ends_whole}
use Rattle.osi_blameless.specs.ends.Talking.{Said}
use Rattle.osi_judge.specs.declared.rooms.Room.TheVariants.{All}
use Rattle.osi_judge.specs.Connections.{Joined, reference_of, spoken}
use Rattle.osi_judge.specs.Lines.{Begun, Spoken, before, begun_octets, heard}
use Rattle.osi_judge.specs.Lines as lines

-- a calling end is left of the judge
abbrev pub calls_from : Direction → Bool
calls_from Left = true
calls_from Right = false

-- ---- parts

-- the parts of TSDUs that units carry
abbrev pub parts_of : List Value → List Part
parts_of units = flat_map unit_parts units

-- the octets after the last whole TSDU, if these were there before the parts
abbrev pub left_over : List ℕ → List Part → List ℕ
left_over begun [] = begun
left_over begun ((false, octets) ∷ parts) = left_over (begun ++ octets) parts
left_over begun ((true, octets) ∷ parts) = left_over [] parts

-- A side of a connection is joined from these parts.
pub record IsJoinedFrom (parts : List Part) (s : Spoken) : Type 0 where
  pub whole : heard s ≡ tsdus parts
  pub unfinished : begun_octets s.begun ≡ left_over [] parts
  pub between : is_none s.begun ≡ ends_whole true parts

-- ---- how many TSDUs of the other side had passed

-- before a TSDU of a side
abbrev pub before_of : lines.Said → ℕ
before_of t = t.before

-- before the unfinished one
abbrev pub before_begun : Option Begun → List ℕ
before_begun None = []
before_begun (Some b) = b.before ∷ []

-- before each of a side, and the unfinished one, if there is one
abbrev pub all_before : Spoken → List ℕ
all_before s = map before_of s.said ++ before_begun s.begun

-- before each of its whole ones, and before the one to which its current packet adds
abbrev pub with_next : Spoken → List ℕ
with_next s = map before_of s.said ++ before s ∷ []

-- At least as many as a session had taken when it said them. The session may have said more TSDUs.
abbrev pub AreAfter : List ℕ → List Said → Type 0
AreAfter [] said = Unit {0}
AreAfter (n ∷ ns) [] = ⊥
AreAfter (n ∷ ns) (s ∷ said) = (s.taken ≤ n) × AreAfter ns said

-- ---- a connection

-- The judge has joined these deeds. It knows the connection by the reference of this end. Of the units that were put for it, the
-- first have passed, and those are joined. Each TSDU began to pass after those that the session had taken when it said it. Of the
-- other side the judge has joined what the link took, and perhaps more: units in flight to the end, also after it has closed the
-- connection.
pub record IsShownOf (d : Direction) (r : ℕ) (deeds : Deeds) (j : Joined) : Type 0 where
  pub named : reference_of d j ≡ Some r
  pub passed : List Value
  pub waiting : List Value
  pub put : deeds.put ≡ passed ++ waiting
  pub said : IsJoinedFrom (parts_of passed) (spoken d j)
  pub after : AreAfter (all_before (spoken d j)) (said_in 0 deeds.calls)
  pub so_far : AllByRecursion (λ n. n ≤ length (heard (spoken (other d) j))) (all_before (spoken d j))
  pub later : List Part
  pub came : IsJoinedFrom (parts_in deeds.calls ++ later) (spoken (other d) j)

-- ---- as it goes on

-- The same with these units of the end still to pass, and these parts in flight to it or left over. All of the connection is
-- judged. `is_next`: the packet of the end that is passing has the first of these units, which adds to a TSDU.
pub record IsShownNow (d : Direction) (r : ℕ) (deeds : Deeds) (waiting : List Value) (later : List Part) (is_next : Bool) (j : Joined) :
    Type 0 where
  pub shown : IsShownOf d r deeds j
  pub waiting_is : shown.waiting ≡ waiting
  pub later_is : shown.later ≡ later
  pub since : (spoken d j).since ≤ length (heard (spoken (other d) j))
  pub next : is_next ≡ true → AreAfter (with_next (spoken d j)) (said_in 0 deeds.calls)
  pub room : j.room ≡ All
