-- What each input does to a session: what opens, closes, gives a token, raises V(A).
pub mod the_move_of_each_input
pub mod the_moves_in_memory
pub mod a_tsdu_that_is_read_straight
pub mod what_leads_to_tokens
pub mod what_closes_the_connection
pub mod what_gives_a_token
pub mod what_raises_v_a
