pub mod Sides
pub mod Reaches
pub mod Rows
pub mod Traffic
