-- What is known of the session of a side of a connection, by what both sides said on it.
use Rattle.std.specs.Prelude.{◌≡◌}
use Rattle.osi_side.specs.declared.directions.Direction.{Direction}
use Rattle.osi_side.specs.Captures.{other}
use Rattle.osi_side.specs.Judging.{Observed, Observes}
use Rattle.osi_side.specs.Outlines.{outlines}
use Rattle.osi_side.specs.Sides.{begin_of}
use Rattle.osi_judge.specs.Connections.{Joined, spoken}
use Rattle.osi_judge.specs.Lines.{told, heard}

-- what `osi_side` knows of the session of a side, which was told all that this side said and heard all that the other said
pub record IsSession (d : Direction) (j : Joined) (w : Observed) : Type 0 where
  pub begins : w.begin ≡ begin_of d
  pub says : Observes w (told (spoken d j))
  pub hears : w.heard ≡ outlines (heard (spoken (other d) j))
