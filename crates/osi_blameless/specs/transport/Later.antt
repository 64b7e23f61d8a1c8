-- More of what the other side sent on a connection of class 2 has passed.
use Rattle.std.specs.Prelude.{◌≡◌, ◌≤◌, ◌+◌, true}
use Rattle.osi_rules.specs.declared.connections.Connection.{Connection}
use Rattle.osi_rules.specs.declared.directions.Direction.{Direction}
use Rattle.osi_rules.specs.declared.directions.Direction.TheVariants.{Left, Right}
use Rattle.osi_rules.specs.declared.halves.Half.{Half}
use Rattle.osi_rules.specs.Rows.{steps_from}
use Rattle.osi_rules.specs.Sides.{is_closing}

-- What the other side had sent, `earlier` and `later`, on a connection on which this side has sent so much (`mine`). Its DTs
-- have later numbers, its AKs acknowledge DTs that this side has sent, and the upper edge of the window has not moved down.
-- If it was closing the connection, it still is.
pub record IsLater (mine earlier later : Half) : Type 0 where
  pub next : steps_from mine.awaited earlier.next ≤ steps_from mine.awaited later.next
  pub awaited : steps_from earlier.awaited later.awaited ≤ steps_from earlier.awaited mine.next
  pub credit : earlier.credit ≤ steps_from earlier.awaited later.awaited + later.credit
  pub closing : is_closing earlier.phase ≡ true → is_closing later.phase ≡ true

-- when this side's packet began, so much of the other side had passed
abbrev pub knows : Direction → Half → Connection → Connection
knows Left half c = record c { seen_by_left = half }
knows Right half c = record c { seen_by_right = half }
