-- The proofs, in reading order.
mod Vocabulary
pub mod values
pub mod tables
pub mod tsdu
pub mod sent
pub mod moves
pub mod runs
pub mod ahead
