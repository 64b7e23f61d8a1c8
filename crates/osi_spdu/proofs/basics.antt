-- Steps of reading, options, digits, and length indicators.
pub mod the_steps_of_reading
pub mod options_that_are_added
pub mod digits_of_numbers
pub mod length_indicators
pub mod values_of_one_octet
