-- What holds after every list of steps of the machine.
pub mod every_connection_of_a_run
pub mod what_two_records_tell
