pub mod Doing
pub mod Endings
pub mod Judging
pub mod Live
pub mod Pairing
pub mod Show
pub mod Witnessing
pub mod Words
