-- What is counted of the entries of a listing.
use Rattle.std.specs.Prelude.{ℕ, ◌+◌, ◌-◌, ◌^◌, min, Bool, true, false, List, [], ◌∷◌}
use Rattle.std.specs.List.{count_by}
use Rattle.osi_listing.specs.declared.counting.Counts.{Counts}
use Rattle.osi_listing.specs.Listing.{Entry, is_refused}
use Rattle.osi_listing.specs.Listing.Entry.{Packet, TransportUnit, UnitFault, Tsdu, SessionUnit, SessionFault, TsduFault, PacketFault, Left}

-- a count stops at 2^64 - 1
abbrev pub capped : ℕ → ℕ
capped n = min n (2 ^ 64 - 1)

unfoldable pub is_packet : Entry → Bool
is_packet (Packet at u) = true
is_packet _ = false

unfoldable pub is_unit : Entry → Bool
is_unit (TransportUnit v) = true
is_unit _ = false

unfoldable pub is_tsdu : Entry → Bool
is_tsdu (Tsdu octets) = true
is_tsdu _ = false

unfoldable pub is_session_unit : Entry → Bool
is_session_unit (SessionUnit u) = true
is_session_unit _ = false

-- how many entries of each kind there are
abbrev pub counts_of : List Entry → Counts
counts_of entries = record {
  packets = capped (count_by is_packet entries);
  units = capped (count_by is_unit entries);
  tsdus = capped (count_by is_tsdu entries);
  session_units = capped (count_by is_session_unit entries);
  refused = capped (count_by is_refused entries);
}

-- ---- the same, one after the other

abbrev pub none : Counts
none = record { packets = 0; units = 0; tsdus = 0; session_units = 0; refused = 0 }

unfoldable pub one_more : Counts → Entry → Counts
one_more c (Packet at u) = record c { packets = capped (c.packets + 1) }
one_more c (TransportUnit v) = record c { units = capped (c.units + 1) }
one_more c (UnitFault f) = record c { refused = capped (c.refused + 1) }
one_more c (Tsdu octets) = record c { tsdus = capped (c.tsdus + 1) }
one_more c (SessionUnit u) = record c { session_units = capped (c.session_units + 1) }
one_more c (SessionFault f) = record c { refused = capped (c.refused + 1) }
one_more c TsduFault = record c { refused = capped (c.refused + 1) }
one_more c (PacketFault f) = record c { refused = capped (c.refused + 1) }
one_more c (Left n) = c

abbrev pub counted : Counts → List Entry → Counts
counted c [] = c
counted c (e ∷ es) = counted (one_more c e) es
