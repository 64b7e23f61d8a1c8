-- The proofs.
pub mod lists_of_octets_stay_octets
