-- Each unit that is taken keeps the invariant.
pub mod a_unit_that_cuts_nothing
pub mod a_point
pub mod tokens_and_answers
pub mod a_restart
