-- What one link keeps over its calls.
pub mod every_link_keeps_its_bounds
pub mod what_a_call_preserves
pub mod numbers_and_their_counts
pub mod what_calls_take
pub mod what_a_queue_hands_out
