-- Two carriers that agree on class 2.
pub mod each_connection_is_in_a_shared_state
pub mod joined_carriers_stay_joined
pub mod a_request_finds_a_place
pub mod requests_beginnings_and_nothing_in_flight
pub mod feeding_keeps_carriers_joined
pub mod class_2_provides_what_is_asked
