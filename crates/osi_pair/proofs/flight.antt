-- What is in flight between two ends, and which unit may arrive first.
pub mod which_unit_arrives_first
pub mod what_may_arrive_row_by_row
pub mod a_taken_packet_is_one_row
pub mod what_a_closing_receiver_has_dropped
pub mod what_is_in_flight_when_an_end_acts
pub mod whether_something_is_cut_off
pub mod who_receives_what_is_in_flight
