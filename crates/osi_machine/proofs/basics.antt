-- Phases, histories, and the connection at a reference.
pub mod what_holds_in_each_phase
pub mod what_a_restart_leaves_of_a_history
pub mod what_stands_at_a_reference
