-- What a unit does to a carrier.
pub mod units_one_after_the_other
pub mod a_refused_unit_changes_nothing
pub mod what_a_link_answers
pub mod a_unit_touches_one_connection
pub mod what_is_in_front_changes_nothing
