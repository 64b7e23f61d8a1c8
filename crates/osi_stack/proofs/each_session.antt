-- The session of each line.
pub mod what_the_tables_say
pub mod what_happens_beside_calls_and_tsdus
pub mod an_ended_session_is_silent
pub mod a_session_is_what_its_inputs_made
pub mod what_has_joined_is_open
pub mod parts_have_the_effect_of_the_whole
