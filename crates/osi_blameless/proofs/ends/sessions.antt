-- What a session took and sent is a run of it.
pub mod a_history_is_a_run
pub mod what_a_capture_shows_is_a_run
pub mod the_session_of_a_request_is_a_caller
