pub mod Asking
pub mod Entries
pub mod Standings
pub mod Numbered
pub mod Walks
pub mod Playing
pub mod Steps
pub mod Starting
