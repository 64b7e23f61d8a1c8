pub mod Pairs
pub mod Accords
pub mod Judges
pub mod Liberties
pub mod Machines
pub mod Wholes
