-- Each call keeps the invariant.
pub mod a_call_and_its_unit
pub mod a_unit_that_changes_no_state
pub mod an_answer_is_taken
pub mod an_answer_settles_the_tokens
pub mod tokens_that_are_given
pub mod a_restart_is_answered
pub mod a_release_and_its_refusal
pub mod a_point_is_set
pub mod a_point_is_confirmed
pub mod a_restart_is_requested
