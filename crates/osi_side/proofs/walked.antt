-- A walk to the next unit of a side loses no explanation, and finds none that is not one.
pub mod one_more_session
pub mod a_walk_loses_no_explanation
pub mod the_first_place_is_enough
pub mod sessions_after_a_unit
pub mod restarts_are_alike
pub mod a_restart_waits
pub mod a_walk_to_a_restart_keeps_two
pub mod what_is_taken_between
pub mod what_is_said_between
pub mod what_ends_alike
pub mod what_lies_between
