-- The proofs, in reading order: first what units in flight do, then the invariant (`invariant/what_holds_of_both_sides`)
-- and that each call and each unit keeps it, then what follows for users, for the machine and for its tables.
mod Vocabulary
pub mod basics
pub mod channels
pub mod invariant
pub mod calls
pub mod takes
pub mod each_step_keeps_both_sides
pub mod promises
pub mod whole
pub mod machine
pub mod tables
