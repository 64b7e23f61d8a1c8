-- Units and TSDUs: reading is sound and complete.
pub mod units_and_tsdus_are_read
pub mod how_reading_goes_on
pub mod units_after_the_first
pub mod a_tsdu_is_all_of_its_octets
