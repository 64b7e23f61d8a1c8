-- What the streams that the code keeps mean.
use Rattle.std.specs.Prelude.{ℕ, if◌then◌else◌, []}
use Rattle.std.specs.Ordering.{nat_cmp}
use Rattle.std.specs.Option.{option_map_or}
use Rattle.std.specs.BTreeMap.{get, BTreeMap}
use Rattle.osi_listing.specs.declared.streams.Join.{Join}
use Rattle.osi_listing.specs.declared.streams.Outcome.{Outcome}
use Rattle.osi_listing.specs.declared.streams.Outcome.TheVariants.{Nothing, Whole, TooLong}
use Rattle.osi_listing.specs.Streams as streams

abbrev pub join_value : Join → streams.Join
join_value j = if j.is_dropped then streams.Join.Dropping else streams.Join.Begun j.octets.items

abbrev pub outcome_value : Outcome → streams.Outcome
outcome_value Nothing = streams.Outcome.Nothing
outcome_value (Whole tsdu) = streams.Outcome.Whole tsdu.items
outcome_value TooLong = streams.Outcome.TooLong

-- the joined octets for a DST-REF; none before its first data unit
abbrev pub join_at : BTreeMap ℕ Join → ℕ → streams.Join
join_at m d = option_map_or join_value (get nat_cmp m d) (streams.Join.Begun [])
