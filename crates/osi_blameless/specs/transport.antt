pub mod Later
pub mod Lines
pub mod Following
pub mod Naming
pub mod Asking
pub mod Wholes
pub mod Pieces
pub mod Calls
