-- Any event, and several.
pub mod what_an_event_does
pub mod each_end_holds_less_than_a_packet
pub mod events_happen_in_turn
pub mod an_event_is_applied_or_refused
pub mod the_journal_only_grows
