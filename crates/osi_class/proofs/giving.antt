-- What a link gives: how much, in which units, and when it gives nothing.
pub mod all_that_may_go_is_given
pub mod giving_ends
pub mod what_is_given_can_be_written
pub mod a_link_gives_finitely_many_units
pub mod units_have_at_most_so_many_octets
pub mod when_nothing_is_given
pub mod a_part_that_is_given_at_once
pub mod the_units_of_one_tsdu
pub mod tsdus_that_are_added_together
pub mod what_calls_send
pub mod some_have_no_more_than_all
