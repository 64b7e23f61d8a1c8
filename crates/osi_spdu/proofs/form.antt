-- The written form: of what was made, and of what was read.
pub mod values_in_memory_are_in_their_form
pub mod what_is_read_has_a_form
pub mod the_form_spells_its_unit
pub mod a_value_becomes_no_longer
pub mod what_was_read_fits
pub mod few_octets_fit
pub mod parameters_are_written_in_order
pub mod units_are_written_in_order
