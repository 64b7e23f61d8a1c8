-- What the sessions do with the events of the carrier.
pub mod events_one_after_the_other
pub mod all_events_are_handled
pub mod what_sessions_leave_of_the_carrier
pub mod what_a_move_leaves
pub mod what_each_step_preserves
pub mod open_connections_stay_open
pub mod data_is_indicated_where_it_lies
pub mod sessions_that_are_lost
pub mod an_ended_carrier_stays_ended
pub mod no_session_is_left_after_the_end
pub mod packets_without_events
