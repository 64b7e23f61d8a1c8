use Rattle.std.proofs.Common.{arith, ap, map, ◌∙◌, Bool, ◌||◌}
use Rattle.std.specs.List.{slice_get}
use Rattle.osi_message.specs.Reading.{word, said_by_units}
use Rattle.osi_session.specs.Joining.{acting_words}
use Rattle.osi_spdu.specs.Groups.{first_of, behind_of, units_behind, units_of}
use Rattle.osi_spdu.specs.Units.{said_by}
use Rattle.osi_witness.proofs.units_act_in_order.{begun, passed}
use Rattle.osi_witness.proofs.units.acting_in.Goals as goal

pub units-init : goal.units-init
units-init c =
    begun (word (first_of c.args.group.now)) (word (said_by c.first-first.result.now)) (map word (behind_of c.args.group.now))
    (map word (units_behind c.behind-behind.result)) c.args.place (ap word c.first-first.ensures) (ap (map word) c.behind-behind.ensures)

pub units-preserved : goal.units-preserved
units-preserved c =
    passed (slice_get (acting_words (said_by_units (units_of c.args.group.now))) c.args.place) c.units.restarts c.either-restarts.result
    c.units.left (map word (units_behind c.units.behind)) (word (said_by c.in-Some.unit)) (map word (units_behind c.next.new.self))
    (word (said_by c.first-first.result.now)) c.units.invariant (ap (map word) c.in-Some.ensures.steps)
    (c.either-restarts.ensures ∙ ap (λ (b : Bool). c.units.restarts || b) c.is_restart_unit.ensures) (λ h. grind arith)
