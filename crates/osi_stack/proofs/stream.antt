-- How octets that arrive become packets, over every run of calls.
pub mod the_room_for_a_packet
pub mod what_needs_memory_does_something
pub mod what_was_written_is_read
pub mod an_empty_piece_changes_nothing
pub mod a_piece_look_by_look
pub mod what_feeding_keeps
pub mod an_end_is_what_its_packets_make
pub mod how_calls_end_an_end
