-- The bounds that every link keeps.
use Rattle.std.specs.Prelude.{◌+◌, ◌<◌, ◌≤◌, length, IfSome}
use Rattle.osi_unit.specs.Octets.{IsOctets}
use Rattle.osi_tpdu.specs.Value as values
use Rattle.osi_class.specs.Limits.{longest_tsdu}
use Rattle.osi_class.specs.Flow.{Flow}
use Rattle.osi_class.specs.Link.{Standing, Given, part0, part2, ack}
use Rattle.osi_class.specs.Runs.{Move, take_in}

-- unacknowledged units and open credit are at most 15 together; a window has 1 to 15 units, and at most that many Acks
-- are due
pub record IsSoundFlow (f : Flow) : Type 0 where
  pub next : f.sender.next < 128
  pub credit : f.sender.unacknowledged + f.sender.credit ≤ 15
  pub window_least : 1 ≤ f.receiver.window
  pub window_most : f.receiver.window ≤ 15
  pub expected : f.receiver.expected < 128
  pub waiting : f.receiver.waiting ≤ f.receiver.window

-- a unit carries 123 to 8,189 octets, and the unfinished TSDU is not too long
pub record IsSound (s : Standing) : Type 0 where
  pub least : 123 ≤ s.ends.limit
  pub most : s.ends.limit ≤ 8189
  pub begun : length s.ends.joining.begun ≤ longest_tsdu
  pub flow : IfSome s.flow IsSoundFlow

-- the numbers of a unit are in the range of their fields, and its octets fit a unit of 8,192
abbrev pub HasGivenInRange : Given → Type 0
HasGivenInRange (part0 end octets) = IsOctets octets × (length octets ≤ 8189)
HasGivenInRange (part2 number end octets) = (number < 128) × IsOctets octets × (length octets ≤ 8189)
HasGivenInRange (ack number credit) = (number < 128) × (credit < 16)

-- a unit that is taken has each number in the range of its field
abbrev pub TakesInRange : Move → Type 0
TakesInRange (take_in unit) = values.HasFieldsInRange unit
TakesInRange move = Unit {0}
