-- What happens at one connection of an end with its session, in either class and among others.
pub mod steps_of_a_course
pub mod what_a_session_puts
-- as a unit comes
pub mod a_connection_without_a_unit
pub mod which_connection_a_unit_is_for
pub mod what_waits_to_be_heard
pub mod what_units_do_to_a_course
-- as its session hears and answers, and as the user calls
pub mod what_its_own_session_does
pub mod what_sessions_hear_of_it
pub mod what_a_call_does_to_it
-- in a packet, and in a turn
pub mod what_a_packet_does_to_it
pub mod what_a_run_does_to_it
pub mod an_end_takes_packets_up_to_its_last
pub mod an_end_is_sound_between_turns
pub mod what_was_said_is_explained
