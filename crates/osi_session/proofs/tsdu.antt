-- What a TSDU that is taken does: its words, its answer, what is joined.
pub mod what_the_words_of_a_tsdu_preserve
pub mod words_one_after_the_other
pub mod two_outcomes_together
pub mod the_effect_of_a_word
pub mod a_unit_that_acts_alone
pub mod the_answer_to_a_tsdu
pub mod how_many_indications
pub mod the_verdict_while_joining
pub mod what_is_joined
pub mod octets_are_counted
pub mod memory_for_one_word
pub mod a_part_expected_or_discarded
pub mod what_a_receiver_keeps
pub mod parts_with_calls_between
pub mod what_is_sent_is_taken_as_meant
