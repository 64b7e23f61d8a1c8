-- The two sides.
use Rattle.osi_pair.specs.declared.sides.Side.{Side}
use Rattle.osi_pair.specs.declared.sides.Side.TheVariants.{Left, Right}

abbrev pub other : Side → Side
other Left = Right
other Right = Left
