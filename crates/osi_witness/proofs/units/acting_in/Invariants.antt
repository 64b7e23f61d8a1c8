use Rattle.std.proofs.Common.{◌≡◌, length, map}
use Rattle.std.specs.List.{slice_get}
use Rattle.osi_message.specs.Reading.{word, said_by_units}
use Rattle.osi_session.specs.Joining.{acting_words}
use Rattle.osi_spdu.specs.Groups.{units_behind, units_of}
use Rattle.osi_spdu.specs.Units.{said_by}
use Rattle.osi_witness.proofs.units_act_in_order.{ending}
use Rattle.osi_witness.proofs.units.acting_in.Given as goal

abbrev pub invariant-units : goal.invariant-units
invariant-units l =
    slice_get (acting_words (said_by_units (units_of l.fn.group))) l.fn.place
    ≡ slice_get (ending l.restarts (map word (units_behind l.behind)) (word (said_by l.first))) l.left

abbrev pub decreases-units : goal.decreases-units
decreases-units l = length (units_behind l.behind)
