-- The map of these proofs, in reading order. `Vocabulary` has the names that come from elsewhere.
pub mod Vocabulary
-- What holds of an end at any time: what its sessions send fits, and an end that is over does nothing.
pub mod at_any_time
-- The packets of a stream, and that what an end puts is read again.
pub mod reading
-- What a session took and sent is a run of it.
pub mod sessions
-- What the carrier of an end does at one connection: how long it is open, what its link takes and gives, and which units are its own.
pub mod links
-- What happens at one connection of an end with its session, as units come, as calls are made, and in a turn.
pub mod courses
