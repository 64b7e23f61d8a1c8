-- The proofs, in reading order.
mod Vocabulary
pub mod what_can_be_sent_has_a_written_form
pub mod numbers_are_those_of_points
pub mod what_is_sent_is_octets
pub mod parts_are_written_and_read
pub mod how_pieces_follow_one_another
pub mod units_of_the_fast_path
pub mod brief_messages_in_octets
pub mod a_field_reads_back
pub mod what_is_written_means_it
pub mod the_tsdus_of_a_message
pub mod octets_after_the_first_ones
pub mod the_octet_of_a_set_of_tokens
pub mod a_unit_is_made_of_its_meaning
