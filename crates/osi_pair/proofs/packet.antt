-- One end takes a packet: no step of the tables, or one delivery.
pub mod a_unit_with_which_no_session_acts
pub mod a_unit_at_rest_keeps_the_match
pub mod an_end_handles_its_carriers_events
pub mod a_request_begins_a_session
pub mod a_packet_is_one_delivery_or_none
pub mod a_packet_is_taken
pub mod a_session_makes_its_move
pub mod what_a_session_hears_row_by_row
pub mod the_class_is_known
pub mod a_disconnect_loses_the_session
pub mod a_session_that_moved
pub mod when_a_session_replies_or_closes
pub mod each_packet_keeps_the_match
