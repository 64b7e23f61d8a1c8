-- Whether the fields of a unit fit their octets.
use Rattle.std.specs.Prelude.{◌<◌, IfSome}
use Rattle.osi_unit.specs.Octets.{IsOctets}
use Rattle.osi_message.specs.Meanings.{Meaning, CN, AC, RF, DT, GT, PT, MIP, MIA, MAP, MAA, RS, RA, FN, DN, NF, AB, AA}

-- what its user gave consists of octets, requirements and each size fit two octets, a reason fits one
abbrev pub IsInOctets : Meaning → Type 0
IsInOctets (CN version_2 requirements serial wishes calling called sizes octets) = (requirements < 65536) × IfSome calling IsOctets × IfSome called IsOctets × (sizes.from_asker < 65536) × (sizes.from_answerer < 65536) × IsOctets octets
IsInOctets (AC version_2 requirements serial sides sizes octets) = (requirements < 65536) × (sizes.from_asker < 65536) × (sizes.from_answerer < 65536) × IsOctets octets
IsInOctets (RF reason octets) = (reason < 256) × IsOctets octets
IsInOctets (DT octets) = IsOctets octets
IsInOctets (GT tokens) = Unit {0}
IsInOctets (PT tokens octets) = IsOctets octets
IsInOctets (MIP confirm n octets) = IsOctets octets
IsInOctets (MIA n octets) = IsOctets octets
IsInOctets (MAP n octets) = IsOctets octets
IsInOctets (MAA n octets) = IsOctets octets
IsInOctets (RS kind n wishes octets) = IsOctets octets
IsInOctets (RA n sides octets) = IsOctets octets
IsInOctets (FN octets) = IsOctets octets
IsInOctets (DN octets) = IsOctets octets
IsInOctets (NF octets) = IsOctets octets
IsInOctets (AB bits octets) = (bits < 256) × IsOctets octets
IsInOctets AA = Unit {0}
