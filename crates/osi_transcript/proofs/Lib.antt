-- The proofs, in reading order: first the text of entries and states, then a script that is read and played, at last its one
-- transcript.
mod Vocabulary
pub mod the_lines_of_entries_in_order
pub mod the_line_of_a_state
pub mod a_script_is_read_line_by_line
pub mod each_line_is_played_in_order
pub mod the_same_numbers_are_one_configuration
pub mod one_line_has_one_effect
pub mod a_script_has_one_transcript
