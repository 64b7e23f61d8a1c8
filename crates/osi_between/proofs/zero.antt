-- Two carriers that agree on class 0, or on nothing.
pub mod the_one_connection_of_class_0
pub mod class_0_provides_what_is_asked
pub mod a_called_end_that_refuses_all
