-- One open connection of class 2, as an end has it and as a judge knows it that is fed what passes anywhere between the two ends.
use Rattle.std.specs.Prelude.{◌≡◌, ◌≢◌, ◌≤◌, ℕ, Bool, true, false, List, [], ◌∷◌, ◌++◌, length, Option, Some, None, IfSome, if◌then◌else◌}
use Rattle.osi_tpdu.specs.Value.{Value, disconnect, disconnected, destination_of, HasFieldsInRange}
use Rattle.osi_class.specs.Limits.{longest_tsdu}
use Rattle.osi_class.specs.Link.{Standing, fresh_two, two_standing, unit_of}
use Rattle.osi_class.specs.Runs.{Move, Moves, hand_in, give_out, take_in, hand_out}
use Rattle.osi_class.specs.declared.terms.Class.TheVariants.{Two}
use Rattle.osi_rules.specs.declared.connections.Connection.{Connection}
use Rattle.osi_rules.specs.declared.courses.Course.{Course}
use Rattle.osi_rules.specs.declared.directions.Direction.{Direction}
use Rattle.osi_rules.specs.declared.findings.Finding.{Finding}
use Rattle.osi_rules.specs.declared.findings.Finding.TheVariants.{Kept, NotJudged}
use Rattle.osi_rules.specs.declared.findings.Reach.TheVariants as reach
use Rattle.osi_rules.specs.declared.halves.Half.{Half}
use Rattle.osi_rules.specs.declared.halves.Phase.TheVariants.{Open}
use Rattle.osi_rules.specs.Reaches.{is_applied, reach_of}
use Rattle.osi_rules.specs.Sides.{other, own, theirs, seen, begins, is_named}
use Rattle.osi_rules.specs.Traffic.{connection_after, found}
use Rattle.osi_blameless.specs.EndAndJudge.{Along, BeginsOwn, Does, EndAndJudge, PassesOther, PassesOwn, Sees}

-- ---- an end, the judge, and the units between them

-- the end is its link, and none once it has closed the connection
abbrev pub Line : Type 0
Line = EndAndJudge (Option Standing) Connection Value

-- ---- what happens

pub data Act : Type 0 where
  -- a call of the link
  moves : Move → Act
  -- the end closes the connection by a DR with this reason: its user does, or its link refuses these units
  closes : ℕ → List Value → Act
  -- an end that has closed the connection takes these units
  ignores : List Value → Act
  -- the end takes a DR, and answers it by a DC
  answers : Value → Act
  -- the next unit of the end begins to pass, and passes; with what the judge knows apart from this connection
  begins_own : Act
  passes_own : Course → Bool → Act
  -- a packet of the end begins to pass that is of another connection
  begins_elsewhere : Act
  -- a packet of the other side begins to pass, and a unit of it passes
  begins_other : Act
  passes_other : Course → Bool → Value → Act

-- the unit that a call gives, with the peer's reference, and the one that it takes
abbrev pub units_put : ℕ → Move → List Value
units_put peer (hand_in tsdu) = []
units_put peer (give_out unit) = unit_of peer unit ∷ []
units_put peer (take_in unit) = []
units_put peer (hand_out tsdu) = []

abbrev pub units_taken : Move → List Value
units_taken (hand_in tsdu) = []
units_taken (give_out unit) = []
units_taken (take_in unit) = unit ∷ []
units_taken (hand_out tsdu) = []

-- a TSDU that is handed in is not too long
abbrev pub HandsInShort : Move → Type 0
HandsInShort (hand_in tsdu) = length tsdu ≤ longest_tsdu
HandsInShort (give_out unit) = Unit {0}
HandsInShort (take_in unit) = Unit {0}
HandsInShort (hand_out tsdu) = Unit {0}

abbrev pub IsDisconnect : Value → Type 0
IsDisconnect v = (destination : ℕ) × (source : ℕ) × (reason : ℕ) × (user : List ℕ) × (v ≡ disconnect destination source reason user)

-- what is found of a unit, and the connection after it
abbrev pub finding_of : Direction → Course → Bool → Connection → Value → Finding
finding_of d course in_use c v = if c.is_judged then found d course in_use c v else NotJudged

abbrev pub after_finding : Direction → Finding → Value → Connection → Connection
after_finding d finding v c = connection_after d v (is_applied finding) (reach_of (Some Two) finding) c

-- The effect of each, at an end that sends in this direction and gave the connection the reference `r`. A unit of the other
-- side after which both sides are not judged any more is the last thing that is looked at.
abbrev pub Acts : Direction → (r peer : ℕ) → Act → Line → Line → Type 0
Acts d r peer (moves move) old new = (link : Standing) × (after : Standing) × (old.end ≡ Some link) × Moves move link after
    × HandsInShort move
    × (old.coming ≡ units_taken move ++ new.coming)
    × Does (Some after) (units_put peer move) new.coming old new
Acts d r peer (closes reason units) old new = (link : Standing) × (old.end ≡ Some link) × (old.coming ≡ units ++ new.coming)
    × Does None (disconnect peer r reason [] ∷ []) new.coming old new
Acts d r peer (ignores units) old new = (old.end ≡ None) × (old.coming ≡ units ++ new.coming) × (new ≡ record old { coming = new.coming })
Acts d r peer (answers unit) old new = (link : Standing) × (old.end ≡ Some link) × IsDisconnect unit × (old.coming ≡ unit ∷ new.coming)
    × Does None (disconnected peer r ∷ []) new.coming old new
Acts d r peer begins_own old new = BeginsOwn (begins d) old new
Acts d r peer (passes_own course in_use) old new = (unit : Value)
    × PassesOwn unit (λ c. after_finding d (finding_of d course in_use c unit) unit c) old new
Acts d r peer begins_elsewhere old new = (old.begun ≡ false) × Sees (begins d) old new
Acts d r peer begins_other old new = Sees (begins (other d)) old new
Acts d r peer (passes_other course in_use unit) old new = HasFieldsInRange unit × (destination_of unit ≡ Some r)
    × (reach_of (Some Two) (finding_of (other d) course in_use old.judge unit) ≢ reach.Everything)
    × PassesOther unit (λ c. after_finding (other d) (finding_of (other d) course in_use c unit) unit c) old new

-- one after the other
abbrev pub ActsAlong : Direction → (r peer : ℕ) → Line → List Act → Line → Type 0
ActsAlong d r peer old acts new = Along (Acts d r peer) old acts new

-- ---- an opened connection

abbrev pub opened_half : (reference credit : ℕ) → Half
opened_half reference credit = record { phase = Open; reference = reference; next = 0; awaited = 0; credit = credit; begun = 0 }

-- The CC has passed, and nothing after it. The link is that of an end which knows the CC, although a calling end may take it
-- later: until then the link does nothing. `size`: the most octets of a unit; `window`: the credit that the end gave the other
-- side; `credit`: what it got.
pub record IsOpened (d : Direction) (r peer : ℕ) (line : Line) : Type 0 where
  pub size : ℕ
  pub window : ℕ
  pub credit : ℕ
  pub link : line.end ≡ Some (two_standing (fresh_two size window credit).ends (fresh_two size window credit).flow)
  pub put : line.put ≡ []
  pub begun : line.begun ≡ false
  pub coming : line.coming ≡ []
  pub sent : own d line.judge ≡ opened_half r window
  pub came : theirs d line.judge ≡ opened_half peer credit
  -- the judge has seen no data when the other side's last packet began
  pub noted : (seen (other d) line.judge).next ≡ 0
  pub most : IfSome line.judge.size (λ most. size ≤ most)
  pub least : 5 ≤ size
  pub some : credit ≤ 15

-- ---- what is claimed

-- a unit of a side is for the connection, and is right, whatever else has passed
pub record IsRight (d : Direction) (c : Connection) (unit : Value) : Type 0 where
  pub named : IfSome (destination_of unit) (λ n. is_named d n c ≡ true)
  pub kept : (course : Course) (in_use : Bool) → found d course in_use c unit ≡ Kept

-- The unit that is passing is right, if the connection is still judged: the other side has not broken its rules on it.
abbrev pub IsRightNow : Direction → Connection → List Value → Type 0
IsRightNow d c [] = ⊥
IsRightNow d c (unit ∷ units) = IsRight d c unit

abbrev pub IsFair : Direction → Line → Type 0
IsFair d line = line.begun ≡ true → line.judge.is_judged ≡ true → IsRightNow d line.judge line.put

-- the line of a connection whose CC has just passed
abbrev pub opened_line : Standing → Connection → Line
opened_line link judge = record { end = Some link; put = []; begun = false; judge = judge; coming = [] }

-- ---- before the CC has passed

-- the line of a connection of which this end has put the CC, and nothing else
abbrev pub answering_line : Standing → (cc : Value) → Connection → Line
answering_line link cc judge = record { end = Some link; put = cc ∷ []; begun = false; judge = judge; coming = [] }

-- no unit passes whole
abbrev pub PassesNone : Act → Type 0
PassesNone (moves move) = Unit {0}
PassesNone (closes reason units) = Unit {0}
PassesNone (ignores units) = Unit {0}
PassesNone (answers unit) = Unit {0}
PassesNone begins_own = Unit {0}
PassesNone (passes_own course in_use) = ⊥
PassesNone begins_elsewhere = Unit {0}
PassesNone begins_other = Unit {0}
PassesNone (passes_other course in_use unit) = ⊥
