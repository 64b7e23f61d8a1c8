-- The invariant of every end.
pub mod the_invariant_is_kept
pub mod the_invariant_between_calls
