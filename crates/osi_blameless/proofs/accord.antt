-- The map of these proofs, in reading order. `Vocabulary` has the names that come from elsewhere.
pub mod Vocabulary
-- Two sides that are explained apart from each other run together.
pub mod two_runs_are_one
pub mod a_pair_explains_both_sides
-- The TSDUs of a connection have an order, in which they passed.
pub mod what_both_sides_said_has_an_order
pub mod one_connection_has_a_number
pub mod what_passed_by_then_stands_in_front
-- So two sides of a connection that kept the protocol run together.
pub mod two_kept_sides_run_together
-- What a side may send is what a call sends, but for liberties.
pub mod what_an_ac_selects
pub mod what_may_be_said_is_called
-- What two runs that are compared with the machine have in common.
pub mod messages_of_a_run
pub mod how_a_run_begins
-- A run without liberties is one of the machine.
pub mod a_run_without_liberties_is_one_of_the_machine
-- A run of calls and answers is one of the machine of whole connections.
pub mod a_step_of_one_connection
pub mod a_side_that_calls_takes_and_answers
pub mod a_run_of_calls_and_answers_is_one_of_the_tables
