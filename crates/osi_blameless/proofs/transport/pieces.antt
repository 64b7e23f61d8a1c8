-- What a carrier does with packets, pieces and calls is such events.
pub mod a_packet_is_events
pub mod what_is_in_front_of_a_whole_end
pub mod a_piece_is_events
pub mod a_run_of_calls_is_events
