-- The packets of a stream, and that what an end puts is read again.
pub mod two_readings_of_a_stream_agree
pub mod how_much_of_a_piece_is_used
pub mod what_is_written_is_read_again
pub mod a_cr_and_a_cc_can_be_written
pub mod what_a_link_gives_can_be_written
