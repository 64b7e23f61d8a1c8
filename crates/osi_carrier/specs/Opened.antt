-- An open connection: the reference of its peer, and its link.
use Rattle.std.specs.Prelude.{ℕ, Option, Some, None}
use Rattle.osi_class.specs.Ends.{fresh_ends}
use Rattle.osi_class.specs.Link.{Standing, zero_standing}
use Rattle.osi_carrier.specs.State.{Connection, asked, linked, closing}

-- the peer's reference of an open connection
abbrev pub peer_in : Option Connection → Option ℕ
peer_in None = None
peer_in (Some asked) = None
peer_in (Some (linked peer link)) = Some peer
peer_in (Some (closing peer)) = None

-- the link of an open connection
abbrev pub link_in : Option Connection → Standing
link_in None = zero_standing (fresh_ends 0)
link_in (Some asked) = zero_standing (fresh_ends 0)
link_in (Some (linked peer link)) = link
link_in (Some (closing peer)) = zero_standing (fresh_ends 0)
