-- Words that are in flight, and the messages that they make.
pub mod added_and_cut_words_are_messages
pub mod a_message_leaves_in_its_words
