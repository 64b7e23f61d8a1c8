-- Two ends in memory.
use Rattle.std.specs.Prelude.{map, vec_capacity}
use Rattle.osi_pair.specs.Ends.{TwoEnds}
use Rattle.osi_pair.specs.Entries.{entry_by}
use Rattle.osi_pair.specs.Pairings.{Pairing}
use Rattle.osi_pair.specs.declared.ends.Ends.{Ends}

abbrev pub ends_in : Ends → TwoEnds
ends_in e = record { left = e.left; right = e.right; reach = e.reach; journal = map entry_by e.journal.items }

-- with the memory of the journal
abbrev pub pairing_in : Ends → Pairing
pairing_in e = record { ends = ends_in e; capacity = vec_capacity e.journal }
