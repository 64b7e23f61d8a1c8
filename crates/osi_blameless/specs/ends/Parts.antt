-- Whether parts end a TSDU.
use Rattle.std.specs.Prelude.{Bool, List, [], ◌∷◌}
use Rattle.osi_class.specs.Tsdus.{Part}

-- the last of these parts ends a TSDU; if there are none, the part before them did, or not
abbrev pub ends_whole : Bool → List Part → Bool
ends_whole before [] = before
ends_whole before (part ∷ parts) = ends_whole part.0 parts
