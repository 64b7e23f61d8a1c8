-- A reference names one connection, so what is right on its line is not blamed; and the answers without an open connection.
pub mod what_holds_of_one_item
pub mod when_a_connection_has_a_name
pub mod what_keeps_names_apart
pub mod a_reference_names_one_connection
pub mod names_stay_apart_though_one_is_lost
pub mod a_right_unit_is_not_blamed
pub mod what_a_side_knows_stays
pub mod all_are_judged_unless_one_broke
pub mod what_belongs_to_no_open_connection
pub mod which_answers_may_be_blamed
