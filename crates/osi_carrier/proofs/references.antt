-- The rows of a carrier, one for each reference.
pub mod the_row_at_a_place
pub mod rows_in_order
pub mod the_link_in_a_row
pub mod rows_after_a_change
pub mod what_a_change_leaves_there
pub mod a_reference_without_a_row
pub mod which_connections_have_selectors
pub mod what_is_open
pub mod events_tell_what_is_open
pub mod which_rule_applies_to_a_cr
