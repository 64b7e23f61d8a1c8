-- A call of a user, and a request for a connection.
pub mod what_a_call_sends_can_be_written
pub mod a_call_is_answered_as_by_the_machine
pub mod a_call_is_the_machines
pub mod a_request_is_answered_as_by_the_machine
pub mod a_request_is_the_machines
