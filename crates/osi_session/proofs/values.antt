-- States, tokens, functional units and sizes.
pub mod equal_parts_make_equal_states
pub mod sets_of_tokens
pub mod units_are_those_of_a_profile
pub mod what_sizes_are_agreed
