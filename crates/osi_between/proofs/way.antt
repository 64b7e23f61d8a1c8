-- The octets between two carriers.
pub mod octets_are_written_and_handed_over
pub mod units_are_taken_in_turn
pub mod an_end_holds_no_fault
