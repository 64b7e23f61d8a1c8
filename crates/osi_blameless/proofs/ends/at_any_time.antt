-- What holds of an end at any time: what its sessions send fits, and an end that is over does nothing.
pub mod what_a_session_sends_fits
pub mod what_a_session_answers_fits
pub mod the_cn_of_a_request_fits
pub mod an_end_that_is_over_does_nothing
pub mod what_class_0_does_not_take_ends_the_end
