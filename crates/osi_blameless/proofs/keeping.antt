-- No unit of an end breaks a rule of transport, whatever the other side breaks.
-- steps are events of a whole end, of which `transport` speaks
pub mod what_waits_changes_nothing
pub mod a_carrier_does_events
pub mod steps_are_events
pub mod class_0_is_known_once_it_is_selected
pub mod no_unit_of_a_whole_end_is_a_break
pub mod what_a_taker_passes_over
-- so it is after a break
pub mod a_break_ends_no_judging_or_all
pub mod later_steps_are_events
pub mod in_class_0_one_side_alone_is_judged
pub mod an_end_that_is_judged_alone_stays_so
pub mod what_is_judged_beside_a_halted_side
pub mod no_unit_of_an_end_breaks_a_rule
