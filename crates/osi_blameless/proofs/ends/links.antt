-- What the carrier of an end does at one connection, in either class and among others.
pub mod units_of_each_connection
pub mod what_calls_of_a_link_say
pub mod what_a_unit_keeps_a_turn_keeps
pub mod the_connections_of_each_class
pub mod what_a_unit_does_to_a_connection
pub mod how_long_a_connection_is_open
pub mod the_first_cc_opens_a_connection
pub mod what_a_link_takes_and_is_handed
pub mod what_another_connection_leaves
pub mod what_is_put_is_written
pub mod what_is_put_in_a_turn_can_be_written
