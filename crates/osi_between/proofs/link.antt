-- The two links of a connection.
pub mod a_call_is_turns_of_two_links
pub mod a_request_and_its_answer_open_two_links
pub mod a_request_before_a_class_is_agreed
