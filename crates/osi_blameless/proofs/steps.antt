-- A capture of an end is steps of the end and of the judge.
-- what each step keeps at the judge
pub mod all_is_judged_or_nothing
pub mod what_passes_keeps_a_claim
pub mod what_passes_keeps_a_claim_on_two_courses
-- the steps of a capture
pub mod what_the_first_octets_are
pub mod turns_are_taken_late
pub mod the_packets_that_an_end_took_come_first
pub mod what_the_turns_among_steps_do
pub mod what_an_octet_does
pub mod what_is_halted_stays_halted
pub mod how_an_end_stands_to_what_has_passed
pub mod what_follows_what_cannot_be_read
pub mod a_capture_is_steps
