-- Octets are carried: packets one after the other, and the indications that users receive.
pub mod users_receive_one_after_the_other
pub mod handed_octets_are_no_step
pub mod packets_are_taken_in_turn
pub mod pieces_are_fed_in_turn
pub mod few_indications_are_pending
pub mod a_carry_is_deliveries
pub mod pieces_are_one_carry
pub mod nothing_holds_up_a_carry
pub mod a_carry_with_enough_memory
