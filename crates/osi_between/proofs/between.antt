-- Two carriers, whatever they agree on.
pub mod an_acting_end_keeps_the_invariant
pub mod every_move_keeps_the_invariant
pub mod what_two_carriers_have
pub mod nothing_is_in_flight_at_rest
pub mod what_is_reported_was_handed_in
pub mod tsdus_are_handed_in_together
pub mod what_is_reported_over_a_list_of_moves
