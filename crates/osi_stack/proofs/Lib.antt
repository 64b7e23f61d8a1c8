-- The proofs, in reading order.
mod Vocabulary
pub mod each_session
pub mod each_line
pub mod carried
pub mod opening
pub mod called
pub mod given_up
pub mod stream
pub mod sound
pub mod in_step
