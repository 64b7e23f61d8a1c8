-- Units in flight: what each does to its taker, and what all of them keep.
pub mod a_unit_is_dropped_bad_or_acted_on
pub mod what_every_unit_in_flight_keeps
pub mod a_deaf_side_acts_on_nothing
pub mod a_held_token_keeps_units_out
pub mod what_a_side_will_have_seen
