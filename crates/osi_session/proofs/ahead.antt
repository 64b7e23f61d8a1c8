-- A side that has sent a word beside one that has not sent it yet.
pub mod the_state_after_a_word
pub mod words_that_may_be_sent_first
pub mod a_side_that_has_sent_a_word
pub mod beside_one_that_has_not_sent_it
