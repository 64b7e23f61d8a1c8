-- Which of two things that passed in a capture comes first in a script.
use Rattle.std.specs.Prelude.{Bool, nat_le, nat_lt, if◌then◌else◌, Option, Some, None}
use Rattle.osi_script.specs.declared.sides.Side.{Side}
use Rattle.osi_script.specs.declared.sides.Side.TheVariants.{Left, Right}
use Rattle.osi_witness.specs.declared.places.Place.{Place}
use Rattle.osi_witness.specs.declared.places.Stop.{Stop}

abbrev pub other_side : Side → Side
other_side Left = Right
other_side Right = Left

-- what one side sent there comes before what another side sent there: two packets of one side in the order of their offsets, those of
-- two sides in the order of the pieces in which they begin; of two in one piece, that of left comes first
abbrev pub comes_before : Side → Place → Side → Place → Bool
comes_before Left p Left q = nat_lt p.offset q.offset
comes_before Right p Right q = nat_lt p.offset q.offset
comes_before Left p Right q = nat_le p.first q.first
comes_before Right p Left q = nat_lt p.first q.first

abbrev pub stops_before : Stop → Stop → Bool
stops_before s t = comes_before s.side s.place t.side t.place

-- the earlier of two stops, if there are any; the first, if neither comes before the other
abbrev pub earlier_stop : Option Stop → Option Stop → Option Stop
earlier_stop None t = t
earlier_stop (Some s) None = Some s
earlier_stop (Some s) (Some t) = Some (if stops_before t s then t else s)
