-- An honest session is explained.
pub mod a_selection_is_read
pub mod a_call_may_be_said
pub mod what_is_said_is_explained
pub mod a_call_is_explained
pub mod an_answer_says_itself
pub mod a_run_is_explained
pub mod a_caller_is_explained
pub mod an_honest_side_is_kept
pub mod a_cn_is_answered_within_its_units
pub mod an_honest_run_stays_in_the_profile
