-- Units: that they fit packets, what they mean, and which connection they are for.
pub mod units_are_read_as_messages
pub mod the_units_of_one_connection
pub mod what_a_taken_unit_means
