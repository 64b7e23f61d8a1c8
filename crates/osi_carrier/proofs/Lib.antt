-- The proofs, in reading order.
mod Vocabulary
pub mod references
pub mod effects
pub mod written
pub mod stream
