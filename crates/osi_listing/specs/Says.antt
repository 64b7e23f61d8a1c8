-- What a function that lists has added to a text and to counts, and what its streams hold.
use Rattle.std.specs.Prelude.{◌≡◌, ℕ, List, ◌++◌, Some, None}
use Rattle.std.specs.List.{flat_map}
use Rattle.osi_listing.specs.declared.counting.Counts.{Counts}
use Rattle.osi_listing.specs.declared.streams.Streams.{Streams}
use Rattle.osi_listing.specs.Counting.{counted}
use Rattle.osi_listing.specs.Streams.{Part, join_of}
use Rattle.osi_listing.specs.Streams as streams
use Rattle.osi_listing.specs.Joins.{join_value, join_at}
use Rattle.osi_listing.specs.Listing.{Entry, line_of}

-- the text has gained the lines of these entries, and the counts these entries
pub record Says (old new : List ℕ) (was now : Counts) (entries : List Entry) : Type 0 where
  pub text : new ≡ old ++ flat_map line_of entries
  pub told : now ≡ counted was entries

-- joins of all streams, after these data units
pub record AreJoins (first : streams.Join) (others : ℕ → streams.Join) (earlier : List Part) : Type 0 where
  pub zero : first ≡ join_of None earlier
  pub two : (d : ℕ) → others d ≡ join_of (Some d) earlier

abbrev pub Holds : Streams → List Part → Type 0
Holds s earlier = AreJoins (join_value s.class_0) (join_at s.class_2) earlier
