-- The proofs, in reading order.
mod Vocabulary
pub mod the_first_fault_of_the_parameters
pub mod parameters_are_read_as_they_mean
pub mod which_units_another_may_follow
pub mod what_is_left_gives_the_rest
pub mod the_units_of_a_packet
pub mod packets_of_one_dt_or_ak
pub mod the_steps_of_reading
pub mod the_first_fault_of_a_unit
pub mod one_unit_is_read
pub mod the_written_form_spells_its_value
pub mod what_is_written_reads_back
