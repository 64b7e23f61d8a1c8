-- What is live at an end, what a unit closes at the judge, and what stays of a line: of the connections of any whole end.
pub mod what_is_live_at_an_end
pub mod which_unit_of_the_other_side_passes
pub mod what_stays_of_each_connection
pub mod what_the_other_side_closes
pub mod which_units_are_for_a_connection
pub mod what_a_line_keeps_though_it_is_lost
pub mod a_line_since_its_connection_opened
pub mod no_two_open_connections_have_one_peer
pub mod what_becomes_of_a_connection
pub mod units_by_their_place
