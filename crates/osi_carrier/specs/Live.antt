-- The live connections as the code holds them.
use Rattle.std.specs.Prelude.{◌≡◌, None}
use Rattle.osi_class.specs.AnyLink.{any_standing}
use Rattle.osi_class.specs.Link.{next}
use Rattle.osi_carrier.specs.State.{Connection, asked, linked, closing}
use Rattle.osi_carrier.specs.declared.rows.Phase.{Phase}
use Rattle.osi_carrier.specs.declared.rows.Phase.TheVariants.{Asked, Linked, Closing}

abbrev pub connection : Phase → Connection
connection Asked = asked
connection (Linked peer link) = linked peer (any_standing link)
connection (Closing peer) = closing peer

-- everything that an open link gives now has been written
abbrev pub IsPumped : Connection → Type 0
IsPumped asked = Unit {0}
IsPumped (linked peer link) = next link ≡ None
IsPumped (closing peer) = Unit {0}
