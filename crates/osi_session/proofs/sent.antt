-- What a side sends, and what it may send.
pub mod what_an_accepted_call_sends
pub mod what_is_sent_can_be_written
pub mod what_a_side_may_send
pub mod data_is_lent_as_it_is_sent
pub mod data_with_room_in_one_tsdu
