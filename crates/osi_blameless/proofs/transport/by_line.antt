-- A whole end that calls: each of its connections has its line from the CC on, and what passes of it is not blamed.
pub mod what_an_end_still_has
pub mod each_connection_has_its_line
-- what passes
pub mod a_unit_of_the_end_passes
pub mod a_unit_that_is_not_judged_passes
pub mod a_dc_follows_a_dr
pub mod a_dc_for_a_stray_dr_passes
pub mod a_dr_for_what_is_gone
pub mod what_has_come_with_one_unit_more
pub mod a_unit_of_the_other_side_passes
pub mod a_stray_dc_of_the_other_side_passes
-- what the end does
pub mod what_a_unit_leaves_at_the_end
pub mod what_an_end_does_to_its_lines
pub mod an_end_takes_a_unit
pub mod an_end_makes_a_call
-- so it is fair
pub mod an_end_ends
pub mod the_end_is_judged_as_the_other_side_is
pub mod an_end_is_fair_in_class_2
pub mod an_end_is_fair
