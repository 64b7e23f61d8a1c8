-- What a listing has before its stream is over.
use Rattle.std.specs.Prelude.{◌≡◌, ℕ, List, [], ◌∷◌, ◌++◌}
use Rattle.std.specs.List.{flat_map}
use Rattle.osi_tpkt.specs.Stream.{Cuts, Ending}
use Rattle.osi_tpkt.specs.Stream.Ending.{Faulty, Rest}
use Rattle.osi_listing.specs.declared.counting.Counts.{Counts}
use Rattle.osi_listing.specs.Counting.{counts_of}
use Rattle.osi_listing.specs.Listing.{Entry, line_of, packet_entries}
use Rattle.osi_listing.specs.Listing.Entry.{PacketFault}

abbrev pub fault_entries : Ending → List Entry
fault_entries (Faulty f) = PacketFault f ∷ []
fault_entries (Rest n) = []

-- the complete packets at the front of a stream, and the fault after them
abbrev pub entries_so_far : List (List ℕ) → Ending → List Entry
entries_so_far units ending = packet_entries 0 [] units ++ fault_entries ending

-- their lines, and their counts
pub record IsListedSoFar (octets lines : List ℕ) (counts : Counts) : Type 0 where
  pub units : List (List ℕ)
  pub ending : Ending
  pub cut : Cuts octets units ending
  pub text : lines ≡ flat_map line_of (entries_so_far units ending)
  pub told : counts ≡ counts_of (entries_so_far units ending)
