-- A whole end that is called: each CR that has come has its place, from its answer on with a line, and what passes of it is not blamed.
pub mod each_connection_has_its_place
-- what passes
pub mod how_a_unit_of_right_passes
pub mod a_unit_of_the_end_passes
pub mod a_unit_of_the_other_side_passes
pub mod what_comes_to_an_end
pub mod a_dc_for_what_is_gone_passes
-- what the end does
pub mod what_an_end_does_to_its_lines
pub mod what_an_end_leaves_alone
pub mod an_end_answers_a_cr
pub mod what_becomes_of_an_end
pub mod an_end_makes_a_call
pub mod an_end_takes_a_unit
-- so it is fair
pub mod an_end_is_fair
pub mod an_end_is_fair_in_class_0
