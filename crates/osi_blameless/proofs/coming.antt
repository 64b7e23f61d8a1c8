-- What is in flight to an end, and what it takes of that.
pub mod a_dt_of_class_0_is_in_flight
pub mod what_an_end_takes_at_a_connection
pub mod the_dr_of_the_other_side_is_in_flight
pub mod what_an_end_takes_at_each_stage
pub mod a_calling_end_takes_nothing_before_its_cc
pub mod an_end_takes_what_is_left_for_it
pub mod nothing_comes_before_a_cc_passes
pub mod a_unit_after_a_dr_leaves_all_standing
