use Rattle.osi_stack.proofs.Vocabulary.{DT, part_octets, written, came, arith, ◌++◌, Last}
use Rattle.osi_stack.proofs.called.tsdus_that_are_handed_together.{came_unbounded}
use Rattle.osi_stack.proofs.each_session.parts_have_the_effect_of_the_whole.{parts_as_whole}
use Rattle.osi_stack.proofs.opening.the_selectors_of_what_arrives.{data_selectors}
use Rattle.osi_stack.proofs.laws.parts_are_one_data.Goals as goal

pub returns : goal.returns
returns c = λ r session acts front last e kept none profile fits short parts.
    parts_as_whole r session acts (came (part_octets Last last)) (came (written (DT (front ++ last)))) e kept
    (c.parts_are_the_whole.ensures.before session acts front last none profile fits short parts)
    (c.parts_are_the_whole.ensures.octets session acts front last none profile fits short parts)
    (grind (arith, came_unbounded))
    (search (arith, data_selectors))
