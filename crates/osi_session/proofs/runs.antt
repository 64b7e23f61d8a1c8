-- What every run of a session keeps.
pub mod numbers_stay_in_order
pub mod calls_keep_the_invariant
pub mod units_keep_the_invariant
pub mod the_invariant_in_memory
pub mod what_every_run_preserves
pub mod the_first_indication_is_a_connect
