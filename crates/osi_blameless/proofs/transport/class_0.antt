-- An end in class 0.
pub mod what_an_end_puts_in_class_zero
pub mod what_an_end_does_in_class_zero
pub mod a_dt_of_class_zero_passes
pub mod an_end_goes_on_in_class_zero
pub mod an_end_takes_a_cc_of_class_zero
pub mod an_end_selects_class_zero
pub mod what_comes_to_an_end_of_class_zero
