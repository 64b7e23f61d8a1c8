-- The induction over steps, and so nobody of an end is ever to blame.
pub mod each_step_keeps_an_end_blameless
pub mod no_session_is_to_blame_unless_class_2_is_selected
pub mod no_session_is_to_blame_unless_class_0_is_selected
pub mod a_loss_is_in_class_2_at_a_judge
pub mod the_first_break_of_all_is_of_the_other_side
pub mod no_end_is_ever_to_blame
-- within a bound
pub mod what_is_judged_within_a_bound
pub mod nobody_else_is_to_blame_within_a_bound
pub mod a_bound_changes_no_first_break
pub mod a_judge_with_a_bound_holds_what_passed
