-- One connection is given up.
pub mod the_invariant_stays
pub mod the_others_keep_theirs
pub mod who_waits_was_still_requested
pub mod two_runs_stay_alike
