-- How octets that arrive become units, over every run of calls.
pub mod what_is_kept_of_the_input
pub mod what_the_cutter_returns
pub mod what_was_written_is_read
pub mod a_piece_is_read_packet_by_packet
pub mod a_tsdu_is_lent_from_its_piece
pub mod packets_at_the_front_of_octets
pub mod what_takes_packets_ends_alike
pub mod a_carrier_does_what_its_packets_do
pub mod how_calls_end_a_carrier
