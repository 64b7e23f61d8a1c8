-- Pairs of ends in the same state stay so.
pub mod a_carry_in_any_pieces
pub mod any_event
