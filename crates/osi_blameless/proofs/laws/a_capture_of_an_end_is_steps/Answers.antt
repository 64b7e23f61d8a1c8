use Rattle.osi_blameless.proofs.Vocabulary.{SpduLaws, all_proper, Known, can_begin}
use Rattle.osi_blameless.proofs.steps.a_capture_is_steps.{capture_steps}
use Rattle.osi_blameless.proofs.steps.what_the_turns_among_steps_do.{comes_by_steps}
use Rattle.osi_blameless.proofs.laws.a_capture_of_an_end_is_steps.Goals as goal

pub returns : goal.returns
returns c = λ d is_caller local begin end turns capture fresh run octets seen.
    let law : SpduLaws = record { room = c.few_octets_fit.ensures; digits = c.serial_digits.ensures } in
    let known : Known = record { proper = all_proper law c.what_closes_sends_nothing.ensures.octets; can = can_begin law } in
    comes_by_steps d is_caller capture begin (capture_steps known d is_caller local begin end turns capture fresh run octets seen)
