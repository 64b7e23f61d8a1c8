-- A DT is added to its connection if there is room for it, and if not, nothing of the connection is judged any more.
-- For the function that adds a DT to a connection.
use Rattle.osi_judge.proofs.Vocabulary.{◌≡◌, ◌∙◌, ℕ, ◌+◌, Bool, true, false, List, length, arith, once, room_in, Seen, Direction, Left}
use Rattle.osi_judge.proofs.Vocabulary.{Right, Connection, Over, seen_called, seen_calling}
use Rattle.osi_judge.proofs.Vocabulary.{offset_of, Joined, adds, adds_all, kept_on, line_in, lined, other, spoken, HoldsBoth, HoldsJoined}
use Rattle.osi_judge.proofs.Vocabulary.{IsHeard, Lined, is_unheard, Spoken, kept_of, fits, is_over}
use Rattle.osi_judge.specs.Lines.{kept_by}
use Rattle.osi_judge.proofs.what_is_kept_of_a_side_is_what_passed.{begun_holds, flipped, heard_by_other}

-- ---- the room that a connection takes

pub kept_side : (s t : Seen) (own beside : Lined) (a b : Spoken) → is_unheard own.stage ≡ false → HoldsBoth s t own beside a b
    → room_in (once beside.side.heard) + length own.begun ≡ kept_of a
unfolding kept_by
kept_side s t own beside a b e h =
    let begun = begun_holds s own beside a b e h.this in let same = heard_by_other s t own beside a b e h in grind arith

sum_of : (a b : ℕ) → offset_of (offset_of a + offset_of b) ≡ offset_of (a + b)
sum_of a b = omega arith

pub kept_there : (c : Connection) (j : Joined) → HoldsJoined c j → IsHeard c
    → offset_of (offset_of (room_in (once (lined c.right).side.heard) + length (lined c.left).begun)
    + offset_of (room_in (once (lined c.left).side.heard) + length (lined c.right).begun)) ≡ offset_of (kept_on j)
kept_there c j h k =
    let left = kept_side seen_calling seen_called (lined c.left) (lined c.right) j.left j.right k.left h.sides in
    let right = kept_side seen_called seen_calling (lined c.right) (lined c.left) j.right j.left k.right (flipped h.sides) in
    sum_of (room_in (once (lined c.right).side.heard) + length (lined c.left).begun)
    (room_in (once (lined c.left).side.heard) + length (lined c.right).begun) ∙ (λ i. offset_of (left i + right i))

pub room_kept : (d : Direction) (c : Connection) (j : Joined) → HoldsJoined c j → IsHeard c
    → room_in (once (line_in (other d) c).side.heard) + length (line_in d c).begun ≡ kept_of (spoken d j)
room_kept Left c j h k = kept_side seen_calling seen_called (lined c.left) (lined c.right) j.left j.right k.left h.sides
room_kept Right c j h k = kept_side seen_called seen_calling (lined c.right) (lined c.left) j.right j.left k.right (flipped h.sides)

-- ---- a DT

pub over_stays : (d : Direction) (at : ℕ) (end : Bool) (octets : List ℕ) (c : Connection) (j : Joined) → is_over c.room ≡ true
    → HoldsJoined c j → HoldsJoined c (adds d at end octets j)
over_stays d at end octets c j over h = grind arith

pub no_room : (d : Direction) (at : ℕ) (end : Bool) (octets : List ℕ) (c : Connection) (j : Joined)
    → fits c.room (kept_on j) (length octets) ≡ false → HoldsJoined c j → HoldsJoined (record c { room = Over }) (adds d at end octets j)
no_room d at end octets c j full h = grind arith

pub has_room : (d : Direction) (at : ℕ) (end : Bool) (octets : List ℕ) (c new : Connection) (j : Joined)
    → fits c.room (kept_on j) (length octets) ≡ true → HoldsJoined c j → HoldsJoined new (adds_all d at end octets j)
    → HoldsJoined new (adds d at end octets j)
has_room d at end octets c new j room h k = grind arith

pub finding_stays : (d : Direction) (c new : Connection) → (lined new.left).side.finding ≡ (lined c.left).side.finding
    → (lined new.right).side.finding ≡ (lined c.right).side.finding → (line_in d new).side.finding ≡ (line_in d c).side.finding
finding_stays d c new left right = grind arith
