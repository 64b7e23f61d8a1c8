-- The connections of a byte connection, by what passed on them.
use Rattle.std.specs.Prelude.{ℕ, Bool, true, false, List, [], ◌∷◌, ◌++◌, length, map, Option, Some, None, slice_get, slice_set}
use Rattle.std.specs.Prelude.{◌+◌, ◌==◌, if◌then◌else◌}
use Rattle.std.specs.List.{find}
use Rattle.osi_tpkt.specs.Stream.{offset_of}
use Rattle.osi_tpdu.specs.Value.{Value, request, confirm, data0, data2}
use Rattle.osi_class.specs.declared.terms.Class.{Class}
use Rattle.osi_class.specs.declared.terms.Class.TheVariants.{Zero, Two}
use Rattle.osi_side.specs.declared.directions.Direction.{Direction}
use Rattle.osi_side.specs.declared.directions.Direction.TheVariants.{Left, Right}
use Rattle.osi_rules.specs.declared.findings.Meaning.{Meaning}
use Rattle.osi_rules.specs.declared.findings.Meaning.TheVariants as meaning
use Rattle.osi_judge.specs.declared.rooms.Room.{Room}
use Rattle.osi_judge.specs.declared.rooms.Room.TheVariants.{All, Over}
use Rattle.osi_judge.specs.Lines.{Spoken, silent, begins, added, kept_of}
use Rattle.osi_judge.specs.Rooms.{fits}

-- a connection: its number in the order of the CRs, the references of both sides, the class that its CC selects, whether it is
-- refused or closed, how much may be kept of it, and both sides
pub record Joined : Type 0 where
  pub number : ℕ
  pub calling : ℕ
  pub called : Option ℕ
  pub class : Option Class
  pub closed : Bool
  pub room : Room
  pub left : Spoken
  pub right : Spoken

abbrev pub spoken : Direction → Joined → Spoken
spoken Left j = j.left
spoken Right j = j.right

-- the room that both sides take as they are kept
abbrev pub kept_on : Joined → ℕ
kept_on j = kept_of j.left + kept_of j.right

-- the reference that a side gave it
abbrev pub reference_of : Direction → Joined → Option ℕ
reference_of Left j = Some j.calling
reference_of Right j = j.called

-- those that have a place, by their places, and those whose place was given to another; and how much may be kept of each
pub record Sessions : Type 0 where
  pub live : List Joined
  pub done : List Joined
  pub room : Room

abbrev pub none : Sessions
none = record { live = []; done = []; room = All }

-- how many were requested
abbrev pub count : Sessions → ℕ
count s = length s.live + length s.done

-- the one with a number
abbrev pub has_number : ℕ → Joined → Bool
has_number number j = j.number == number

abbrev pub numbered : ℕ → Sessions → Option Joined
numbered number s = find (has_number number) (s.live ++ s.done)

-- a CR with this reference
abbrev pub asked : (number calling : ℕ) → Room → Joined
asked number calling room = record {
  number = number;
  calling = calling;
  called = None;
  class = None;
  closed = false;
  room = room;
  left = silent;
  right = silent;
}

-- a packet of a side begins
abbrev pub packet_begins : Direction → Joined → Joined
packet_begins Left j = record j { left = begins j.right j.left }
packet_begins Right j = record j { right = begins j.left j.right }

abbrev pub all_begin : Direction → Sessions → Sessions
all_begin d s = record s { live = map (packet_begins d) s.live }

-- a CC of right
abbrev pub opened : (called : ℕ) → Class → Joined → Joined
opened called class j = record j { called = Some called; class = Some class }

-- a DR or an ER
abbrev pub shut : Joined → Joined
shut j = record j { closed = true }

-- a DT of a side that is judged, in the packet at this offset
abbrev pub adds_all : Direction → (at : ℕ) (end : Bool) → List ℕ → Joined → Joined
adds_all Left at end octets j = record j { left = added at end octets j.left }
adds_all Right at end octets j = record j { right = added at end octets j.right }

-- a DT, if there is room for it; if not, nothing of the connection is judged any more
abbrev pub adds_if : (fits : Bool) → Direction → (at : ℕ) (end : Bool) → List ℕ → Joined → Joined
adds_if true d at end octets j = adds_all d at end octets j
adds_if false d at end octets j = record j { room = Over }

abbrev pub adds : Direction → (at : ℕ) (end : Bool) → List ℕ → Joined → Joined
adds d at end octets j = adds_if (fits j.room (kept_on j) (length octets)) d at end octets j

-- ---- what a unit says

abbrev pub source_of : Value → ℕ
source_of (request c) = c.source
source_of (confirm destination c) = c.source
source_of v = 0

abbrev pub class_of : Value → Class
class_of (confirm destination c) = if c.class == 2 then Two else Zero
class_of v = Zero

abbrev pub user_of : Value → List ℕ
user_of (data0 end user) = user
user_of (data2 destination number end user) = user
user_of v = []

-- ---- a unit

-- a connection is requested, and gets this place: that of one that is over, or a new one
abbrev pub placed : (place : ℕ) → Joined → Sessions → Option Joined → Sessions
placed place j s None = record s { live = s.live ++ j ∷ [] }
placed place j s (Some over) = record s { live = slice_set s.live place j; done = s.done ++ over ∷ [] }

-- what the unit means for its connection, if it does not ask for one
abbrev pub meant : Direction → (at : ℕ) → Value → Meaning → Joined → Joined
meant d at v meaning.Opens j = opened (source_of v) (class_of v) j
meant d at v meaning.Closes j = shut j
meant d at v (meaning.Adds end) j = adds d at end (user_of v) j
meant d at v meaning j = j

abbrev pub changed : (place : ℕ) → (Joined → Joined) → Sessions → Option Joined → Sessions
changed place f s None = s
changed place f s (Some j) = record s { live = slice_set s.live place (f j) }

abbrev pub asked_at : (place calling : ℕ) → Sessions → Sessions
asked_at place calling s = placed place (asked (offset_of (count s)) calling s.room) s (slice_get s.live place)

abbrev pub taken_at : Direction → (at : ℕ) → Value → Meaning → (place : ℕ) → Sessions → Sessions
taken_at d at v meaning.Asks place s = asked_at place (source_of v) s
taken_at d at v meaning place s = changed place (meant d at v meaning) s (slice_get s.live place)

abbrev pub taken : Direction → (at : ℕ) → Value → Meaning → Option ℕ → Sessions → Sessions
taken d at v meaning None s = s
taken d at v meaning (Some place) s = taken_at d at v meaning place s
