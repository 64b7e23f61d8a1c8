-- The proofs, in reading order.
mod Vocabulary
pub mod basics
pub mod parameters
pub mod tsdu
pub mod first_faults
pub mod form
