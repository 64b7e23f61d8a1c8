-- A connection with closes, breaks and ends is simulated by one on which nothing is lost.
pub mod how_a_core_simulates_a_connection
pub mod a_call
pub mod a_close_a_break_and_an_end
pub mod a_unit_is_taken
pub mod each_side_has_the_same_session
pub mod every_step_is_simulated
pub mod before_it_is_agreed_to
pub mod every_stage_of_a_connection
