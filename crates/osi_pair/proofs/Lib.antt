-- The map of these proofs, in reading order. `Vocabulary` has the names that come from elsewhere.
mod Vocabulary
-- Words that are in flight, and the messages that they make.
pub mod words
-- What is in flight between two ends, and which unit may arrive first.
pub mod flight
-- One session at one end: its seat, its moves, its replies, its pending indications.
pub mod session
-- One end acts for one connection: two ends match the tables again.
pub mod turn
-- A call of a user, and a request for a connection.
pub mod call
-- A break, the end of an end, and memory that runs out.
pub mod ending
-- One end takes a packet: no step of the tables, or one delivery.
pub mod packet
-- Octets are carried: packets one after the other, and the indications that users receive.
pub mod carry
-- What follows for the users of two ends that match the machine.
pub mod promise
-- Pairs of ends in the same state stay so.
pub mod same
-- Any event, and several.
pub mod event
