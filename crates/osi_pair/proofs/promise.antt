-- What follows for the users of two ends that match the machine.
pub mod matching_ends_keep_the_promises
pub mod nothing_is_kept_at_rest
pub mod all_is_taken_at_rest
