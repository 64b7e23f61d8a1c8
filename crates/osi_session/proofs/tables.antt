-- What the tables of calls and of units say.
pub mod what_is_true_of_each_phase
pub mod what_the_table_of_calls_answers
pub mod what_an_accepted_call_has_passed
pub mod what_an_accepted_call_does
pub mod the_verdict_on_a_unit
pub mod messages_act_as_the_table_says
pub mod a_word_acts_as_its_message
pub mod points_that_are_expected
pub mod two_restarts_that_cross
pub mod units_that_are_alone
pub mod which_reason_comes_first
pub mod the_outcomes_of_each_input
