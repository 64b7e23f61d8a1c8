-- Each example is computed.
use Rattle.std.proofs.Common.{refl}
use Rattle.osi_machine.specs.Floor.{allowed, met, answered_sizes, smaller_sizes, is_empty, is_within, is_disjoint, without, united}
use Rattle.osi_machine.specs.Floor.{both_units, units_within, has_data, has_points, is_profile, available, settle, stated, answers_wishes}
use Rattle.osi_machine.specs.Floor.{offered, of_asker, of_answerer, point_sent, point_taken, minor_confirmed, major_confirmed, restarted_at}
use Rattle.osi_machine.specs.Floor.{stands, take_expected, respond_unit}
use Rattle.osi_machine.proofs.laws.examples.Goals as goal

-- what the tests of calls and units compute with, and all that an example does
tests : Unit {0}
unfolding is_empty is_within is_disjoint without united both_units units_within has_data has_points is_profile available settle stated
tests = tt

numbers : Unit {0}
unfolding minor_confirmed major_confirmed restarted_at stands take_expected respond_unit
numbers = tt

computed : Unit {0}
unfolding tests allowed met answered_sizes smaller_sizes answers_wishes offered of_asker of_answerer point_sent point_taken numbers
computed = tt

pub returns-clause-lost_give : goal.returns-clause-lost_give
unfolding computed
returns-clause-lost_give c = refl

pub returns-clause-lost_give_before : goal.returns-clause-lost_give_before
unfolding computed
returns-clause-lost_give_before c = (refl, refl)

pub returns-clause-lost_give_after : goal.returns-clause-lost_give_after
unfolding computed
returns-clause-lost_give_after c = refl

pub returns-clause-crossing : goal.returns-clause-crossing
unfolding computed
returns-clause-crossing c = refl

pub returns-clause-crossing_numbers : goal.returns-clause-crossing_numbers
unfolding computed
returns-clause-crossing_numbers c = (refl, refl)

pub returns-clause-crossing_history : goal.returns-clause-crossing_history
unfolding computed
returns-clause-crossing_history c = refl

pub returns-clause-crossing_equal : goal.returns-clause-crossing_equal
unfolding computed
returns-clause-crossing_equal c = refl

pub returns-clause-restart_below : goal.returns-clause-restart_below
unfolding computed
returns-clause-restart_below c = refl

pub returns-clause-restart_below_numbers : goal.returns-clause-restart_below_numbers
unfolding computed
returns-clause-restart_below_numbers c = (refl, refl)

pub returns-clause-restart_below_history : goal.returns-clause-restart_below_history
unfolding computed
returns-clause-restart_below_history c = refl

pub returns-clause-last_point : goal.returns-clause-last_point
unfolding computed
returns-clause-last_point c = refl

pub returns-clause-lost_release : goal.returns-clause-lost_release
unfolding computed
returns-clause-lost_release c = refl

pub returns-clause-lost_release_tokens : goal.returns-clause-lost_release_tokens
unfolding computed
returns-clause-lost_release_tokens c = (refl, refl)

pub returns-clause-both_send : goal.returns-clause-both_send
unfolding computed
returns-clause-both_send c = refl
