-- A break of the other side in class 0: an end and a judge go on as if it had not come.
pub mod no_more_tsdus_than_moments_have_passed
pub mod an_end_of_class_0_has_its_connection_open
pub mod a_judge_counts_what_it_has_joined_of_a_tsdu
pub mod what_a_link_has_begun_is_left_over
pub mod a_dt_that_is_too_long_stays_so
pub mod an_end_of_class_0_has_begun_what_a_judge_has_joined
pub mod the_first_units_of_a_packet_are_a_packet
pub mod an_end_beside_a_judge
pub mod an_end_goes_on_as_if_no_break_had_come
pub mod a_break_in_class_0_leaves_an_end_alone
