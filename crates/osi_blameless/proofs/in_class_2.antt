-- An end of class 2 and a judge, and what an end keeps unless class 0 is selected.
pub mod an_end_hears_what_breaks_no_rule
pub mod no_unit_waits_for_the_reference_that_a_cc_gives
pub mod no_unit_of_the_other_side_gives_a_reference
pub mod an_end_of_class_2_goes_on
pub mod what_has_come_before_a_cc
pub mod an_end_is_ready_for_each_cr_that_passes
pub mod an_end_is_ready_for_each_cc_that_passes
pub mod an_end_stands_as_units_pass
pub mod a_turn_of_an_end_of_class_2
-- what is asked of what holds at each step
pub mod what_is_asked_of_what_holds_at_each_step
pub mod no_connection_is_opened_before_a_class_is_selected
pub mod an_end_that_has_said_nothing_is_not_to_blame
pub mod an_end_without_class_2_puts_no_dt
pub mod what_an_end_keeps_unless_in_class_0
