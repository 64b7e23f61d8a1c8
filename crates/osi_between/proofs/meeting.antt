-- One connection of class 2, as both ends see it.
pub mod what_a_unit_or_call_changes
pub mod what_is_in_flight_for_a_connection
pub mod a_connection_after_each_unit_and_call
pub mod how_a_connection_changes_at_each_end
pub mod how_a_connection_is_opened
