-- The largest TSDU in each direction, 0 for no limit, X.225 section 8, TSDU maximum size.
use Rattle.std.specs.Prelude.{ℕ, ◌==◌, ◌&&◌, Bool, Option, Some, None, if◌then◌else◌}
use Rattle.osi_spdu.specs.declared.fields.TsduMaximumSize.{TsduMaximumSize}
use Rattle.osi_spdu.specs.declared.sizes.TsduSize.{TsduSize}
use Rattle.osi_spdu.specs.declared.sizes.TsduSizes.{TsduSizes}
use Rattle.osi_spdu.specs.Values.{is_size}

-- the octets of the size that a user gives for one direction
abbrev pub size_of : TsduSize → ℕ
size_of s = s.octets

-- the sizes that a user gives, as a unit carries them
abbrev pub named_by : TsduSizes → TsduMaximumSize
named_by s = record { from_asker = size_of s.from_asker; from_answerer = size_of s.from_answerer }

-- each size is one that a user may give; a size that was read may also be 1 to 63 octets
abbrev pub are_sizes : TsduMaximumSize → Bool
are_sizes s = is_size s.from_asker && is_size s.from_answerer

-- no limit in either direction, as if the parameter is absent
abbrev pub no_sizes : TsduMaximumSize
no_sizes = record { from_asker = 0; from_answerer = 0 }

-- a unit has the parameter if one of the sizes is not 0
abbrev pub written_sizes : TsduMaximumSize → Option TsduMaximumSize
written_sizes s = if (s.from_asker == 0) && (s.from_answerer == 0) then None else Some s
