-- A break, the end of an end, and memory that runs out.
pub mod a_break_is_the_machines
pub mod all_sessions_are_lost_in_order
pub mod a_connection_ends_with_its_end
pub mod an_end_of_an_end_is_the_machines
pub mod a_told_side_ends
pub mod want_of_memory_is_an_end
pub mod memory_runs_out_for_an_event
