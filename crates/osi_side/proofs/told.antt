-- What is told of a side: its state, its rule, and the session that came nearest.
pub mod how_a_session_comes_on
pub mod the_nearest_of_all_sessions_is_told
pub mod no_session_is_before_the_one_that_is_told
pub mod a_rule_is_told_of_the_message
pub mod a_tsdu_is_broken_by_one_rule
pub mod a_session_stands_in_one_way
pub mod a_side_strays_at_one_place
pub mod a_tsdu_has_one_count
pub mod a_tsdu_leaves_one_count
pub mod what_is_known_of_a_side
pub mod a_break_stays_the_break
