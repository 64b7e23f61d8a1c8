-- What a judge has joined of a connection, beside what was done at the end; the session is not to blame for that.
pub mod a_session_that_is_shown_is_not_to_blame
pub mod how_many_tsdus_were_begun
pub mod what_a_judge_shows_goes_on
pub mod connections_have_the_same_places
pub mod what_has_no_effect_joins_nothing
pub mod a_unit_is_joined_where_it_is_named
pub mod a_right_dt_has_one_place
pub mod a_dt_that_is_no_break_is_right
