-- The proofs, in reading order.
mod Vocabulary
pub mod walked
pub mod told
pub mod outlined
pub mod a_capture_goes_on
pub mod honest
pub mod kept
