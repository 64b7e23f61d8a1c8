-- What memory is needed for: what is written, reported and kept.
use Rattle.std.specs.Prelude.{Bool, ◌||◌, length, nat_lt}
use Rattle.osi_carrier.specs.Calls.{kept_in}
use Rattle.osi_carrier.specs.State.{State}

-- Units were written, an event was reported, or octets of an unfinished TSDU were kept. Otherwise no memory is needed.
unfoldable pub grows : State → State → Bool
grows old new =
    nat_lt (length old.outgoing) (length new.outgoing)
    || (nat_lt (length old.events) (length new.events) || nat_lt (kept_in old.live) (kept_in new.live))
