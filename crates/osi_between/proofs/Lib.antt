-- The map of these proofs, in reading order. `Vocabulary` has the names that come from elsewhere.
mod Vocabulary
-- Units: that they fit packets, what they mean, and which connection they are for.
pub mod unit
-- The octets between two carriers.
pub mod way
-- The two links of a connection.
pub mod link
-- One connection of class 2, as both ends see it.
pub mod meeting
-- Two carriers that agree on class 2.
pub mod joined
-- Two carriers that agree on class 0, or on nothing.
pub mod zero
-- Two carriers, whatever they agree on.
pub mod between
