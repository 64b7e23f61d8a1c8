-- Two links and the units in flight between them.
pub mod parts_stay_in_order
pub mod units_are_of_one_class
pub mod what_was_handed_in_comes_out
pub mod calls_keep_the_flow
pub mod the_oldest_unit_can_be_taken
pub mod owed_acks_keep_the_counts
pub mod no_tsdu_becomes_too_long
pub mod tsdus_come_in_order
