-- The lines of an end, one for each connection.
pub mod the_line_of_a_reference
pub mod what_stays_true_of_each_line
pub mod what_stays_true_of_each_session
pub mod references_rise
pub mod lines_stay_in_order
pub mod how_many_lines_wait
pub mod the_first_that_indicates
pub mod the_lowest_is_given_first
