-- The fault that reading returns is the first one.
pub mod the_first_fault_is_returned
pub mod the_first_fault_of_a_unit
pub mod the_first_fault_of_a_tsdu
