-- What holds of one side, and of two sides and what is in flight between them.
pub mod what_holds_of_both_sides
pub mod each_step_keeps_one_side
pub mod it_holds_when_a_cn_is_sent
pub mod no_side_is_over
pub mod a_side_that_listens
