-- What a side has sent on a connection, and how much of that the other side may know.
use Rattle.std.specs.Prelude.{ℕ, Bool, true, false, not, ◌&&◌, ◌||◌, ◌==◌}
use Rattle.osi_rules.specs.declared.directions.Direction.{Direction}
use Rattle.osi_rules.specs.declared.directions.Direction.TheVariants.{Left, Right}
use Rattle.osi_rules.specs.declared.halves.Phase.{Phase}
use Rattle.osi_rules.specs.declared.halves.Phase.TheVariants.{Silent, Open, Refused, Closing, Closed}
use Rattle.osi_rules.specs.declared.halves.Half.{Half}
use Rattle.osi_rules.specs.declared.connections.Connection.{Connection}

abbrev pub other : Direction → Direction
other Left = Right
other Right = Left

abbrev pub is_silent : Phase → Bool
is_silent Silent = true
is_silent phase = false

abbrev pub is_open : Phase → Bool
is_open Open = true
is_open phase = false

abbrev pub is_refused : Phase → Bool
is_refused Refused = true
is_refused phase = false

abbrev pub is_closing : Phase → Bool
is_closing Closing = true
is_closing phase = false

abbrev pub is_closed : Phase → Bool
is_closed Closed = true
is_closed phase = false

-- what this side has sent
abbrev pub own : Direction → Connection → Half
own Left c = c.left
own Right c = c.right

-- what the other side has sent
abbrev pub theirs : Direction → Connection → Half
theirs Left c = c.right
theirs Right c = c.left

-- what the other side had sent when this side's packet began
abbrev pub seen : Direction → Connection → Half
seen Left c = c.seen_by_left
seen Right c = c.seen_by_right

-- this side has sent more
abbrev pub sends : Direction → Half → Connection → Connection
sends Left half c = record c { left = half }
sends Right half c = record c { right = half }

-- a packet of this side begins
abbrev pub begins : Direction → Connection → Connection
begins Left c = record c { seen_by_left = c.right }
begins Right c = record c { seen_by_right = c.left }

-- Refused, or closed by both, for a side that has sent the first and knows that the other has sent the second
-- (X.224 sections 6.6 and 6.7).
abbrev pub is_over_by : Half → Half → Bool
is_over_by mine known =
    is_refused mine.phase || (is_refused known.phase || (is_closed mine.phase
    || (is_closing mine.phase && (is_closing known.phase || is_closed known.phase))))

-- the connection is over for this side: it may give its reference to another
abbrev pub is_over : Direction → Connection → Bool
is_over d c = c.is_judged && is_over_by (own d c) (seen d c)

abbrev pub is_live : Direction → Connection → Bool
is_live d c = not (is_over d c)

-- over for both sides
abbrev pub is_free : Connection → Bool
is_free c = is_over Left c && is_over Right c

-- a unit of this side with this DST-REF is for the connection
abbrev pub is_named : Direction → ℕ → Connection → Bool
is_named d destination c = not (is_over d c) && (not (is_silent (seen d c).phase) && ((seen d c).reference == destination))

-- this side has given the connection this reference
abbrev pub uses : Direction → ℕ → Connection → Bool
uses d reference c = not (is_over d c) && (not (is_silent (own d c).phase) && ((own d c).reference == reference))
