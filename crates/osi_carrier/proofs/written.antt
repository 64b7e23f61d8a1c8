-- How TSDUs and units become octets to send.
pub mod the_length_of_a_unit
pub mod a_part_in_its_data_unit
pub mod all_that_a_link_gives
pub mod nothing_takes_no_room
pub mod a_tsdu_part_after_part
pub mod tsdus_that_are_sent_together
pub mod octets_are_cut_into_tsdus
pub mod whether_all_tsdus_may_go_now
pub mod what_is_left_after_some_units
pub mod some_units_may_go_now
pub mod what_is_copied_of_pieces
pub mod pieces_are_written_straight
pub mod what_needs_memory_does_something
pub mod what_is_put_is_written
