-- One session at one end: its seat, its moves, its replies, its pending indications.
pub mod a_seat_is_its_progress_and_session
pub mod an_end_moves_as_the_tables_do
pub mod a_reply_can_be_sent
pub mod an_end_with_nothing_pending
pub mod a_waiting_session_has_its_request
pub mod a_moved_session_keeps_the_order
