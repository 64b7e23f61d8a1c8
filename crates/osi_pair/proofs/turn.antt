-- One end acts for one connection: two ends match the tables again.
pub mod a_turn_keeps_the_match
pub mod what_remains_when_a_unit_was_taken
pub mod all_is_shown
pub mod what_an_acting_end_leaves_in_flight
pub mod an_open_connection_acts
