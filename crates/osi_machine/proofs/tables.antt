-- What holds after every list of steps of the tables.
pub mod a_line_is_a_connection
pub mod the_tables_are_the_machine
pub mod what_two_tables_tell
pub mod data_behind_is_no_fault
pub mod every_line_of_a_run
pub mod what_is_in_flight_can_be_sent
pub mod what_one_side_received_the_other_sent
