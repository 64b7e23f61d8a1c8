-- What a call does and answers.
pub mod the_result_is_that_of_the_table
pub mod what_a_call_sends
pub mod a_call_without_a_connection
pub mod what_is_sent_is_short
pub mod tsdus_that_are_handed_together
pub mod parts_that_are_lent
