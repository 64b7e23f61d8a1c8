-- What is told of a side once its run is read off.
use Rattle.std.specs.Prelude.{◌≡◌, ◌⊎◌}
use Rattle.osi_session.specs.Standing.{Seen}
use Rattle.osi_witness.specs.declared.streams.Stream.{Stream}
use Rattle.osi_witness.specs.Streams.{tsdus_of}
use Rattle.osi_witness.specs.Trails.{Runs}

-- the run that is told of a side is one of a session that begins in this state and takes what the other side sent
abbrev pub IsTold : (own heard : Stream) → Seen → Type 0
IsTold own heard begin = Runs (tsdus_of own) (tsdus_of heard) own.kept.items own.said.items 0 begin

-- it has such a run now, or what was told of it before
abbrev pub IsTraced : (old own heard : Stream) → Seen → Type 0
IsTraced old own heard begin = IsTold own heard begin ⊎ (own.said ≡ old.said)
