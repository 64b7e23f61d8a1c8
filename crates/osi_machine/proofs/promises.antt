-- What follows for two users, and what their records tell.
pub mod what_two_users_may_rely_on
pub mod what_a_record_tells
