-- One open connection: whatever may happen to its line, what the end puts is right.
pub mod what_is_right_passes_each_test
pub mod what_was_right_stays_right
pub mod what_a_link_does
pub mod units_in_flight
pub mod what_holds_of_a_line
pub mod what_an_end_does_to_a_line
pub mod how_a_connection_opens
pub mod what_begins_to_pass_is_right
pub mod what_passes_of_an_end
pub mod what_passes_of_the_other_side
pub mod what_each_unit_of_the_other_side_does
pub mod an_open_end_is_fair
pub mod an_end_closes_last
pub mod a_carrier_follows_lines
pub mod a_unit_is_an_act_of_its_line
pub mod what_is_put_before_the_cc_passes
pub mod calls_of_a_line_join
