-- The parameters of a unit, read one after the other and kept in slots.
pub mod a_code_is_looked_up
pub mod an_si_that_names_no_unit
pub mod each_slot_has_one_code
pub mod a_slot_is_filled
pub mod parameters_one_after_the_other
pub mod one_level_is_read
pub mod lengths_are_stored_in_order
pub mod a_group_is_counted_once
pub mod a_number_alone_is_read
