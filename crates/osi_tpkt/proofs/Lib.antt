-- The proofs, in reading order.
mod Vocabulary
pub mod a_prefix_of_a_packet
pub mod what_a_cutter_holds
pub mod no_packet_is_a_prefix_of_another
pub mod the_packets_are_those_of_the_stream
pub mod a_stream_is_cut_in_one_way
