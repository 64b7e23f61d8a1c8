-- The proofs, in reading order.
mod Vocabulary
pub mod giving
pub mod bounds
pub mod between
