-- The first line of a script.
use Rattle.std.specs.Prelude.{Option, Some, None}
use Rattle.osi_pair.specs.Ends.{TwoEnds}
use Rattle.osi_script.specs.Commands.{Command, Ends}
use Rattle.osi_transcript.specs.Playing.{Starts}

-- the line declares the two ends
abbrev pub IsStart : Option Command → TwoEnds → Type 0
IsStart (Some (Ends caller called size window)) p = Starts caller called size window p
IsStart other p = ⊥

-- the line declares none
abbrev pub IsNoStart : Option Command → Type 0
IsNoStart (Some (Ends caller called size window)) = ⊥
IsNoStart other = Unit {0}

-- the two ends that the line declares, or none
abbrev pub StartsWith : Option Command → Option TwoEnds → Type 0
StartsWith command (Some p) = IsStart command p
StartsWith command None = IsNoStart command
