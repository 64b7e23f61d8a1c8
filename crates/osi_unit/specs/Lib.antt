pub mod Octets
pub mod Unit
