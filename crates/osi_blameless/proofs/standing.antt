-- All connections stand at a judge, as units pass and as the end takes a turn.
pub mod what_stands_of_a_connection
pub mod what_a_unit_does_at_its_place
pub mod what_holds_of_a_lost_connection
pub mod all_connections_stand
pub mod right_units_leave_all_standing
pub mod ccs_and_crs_leave_all_standing
pub mod what_passes_leaves_all_standing
pub mod what_is_in_flight_to_an_end
pub mod what_is_left_for_an_end
pub mod a_turn_leaves_all_standing
pub mod steps_leave_all_standing
-- the same in class 0, and after a DR
pub mod a_dt_of_class_0_has_one_place
pub mod class_0_has_one_connection
pub mod a_dt_of_class_0_leaves_all_standing
pub mod each_step_leaves_class_0_one_connection
pub mod nobody_of_a_side_is_to_blame
pub mod steps_of_either_class_leave_all_standing
pub mod a_unit_after_a_dr_is_for_a_closing_connection
