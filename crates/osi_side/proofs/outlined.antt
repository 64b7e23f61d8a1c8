-- TSDUs without their user data, and equal ones in a row.
pub mod equal_tsdus_in_a_row_are_kept_once
pub mod an_outline_is_taken_alike
pub mod alike_tsdus_explain_the_same
pub mod a_rule_of_outlines_is_one_of_tsdus
pub mod a_point_is_its_outline
