-- How connections are requested, answered and addressed.
pub mod which_requests_are_answered
pub mod connections_that_units_open
pub mod who_waits_was_requested
pub mod the_addresses_of_a_connection
pub mod live_connections_have_addresses
pub mod the_selectors_of_what_arrives
