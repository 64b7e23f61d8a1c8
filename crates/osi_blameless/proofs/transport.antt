-- No unit that an end puts breaks a rule of transport: the map of these proofs, in reading order. `Vocabulary` has the names that come
-- from elsewhere.
pub mod Vocabulary
pub mod small_facts_that_many_lemmas_use
-- What happens one after the other: of lines, of whole ends, and of ends with their octets.
pub mod what_each_thing_keeps_all_of_them_keep
-- One open connection: whatever may happen to its line, what the end puts is right.
pub mod lines
-- A reference names one connection, so what is right on its line is not blamed; and the answers without an open connection.
pub mod names
-- A calling end asks for connections with references that rise, and no CR is blamed.
pub mod requests
-- What is live at an end and what a unit closes at the judge: of the connections of any whole end.
pub mod connections
-- An end in class 0.
pub mod class_0
-- A whole end that calls: each of its connections has its line from the CC on, and what passes of it is not blamed.
pub mod by_line
-- What a carrier does with packets, pieces and calls is such events.
pub mod pieces
-- A whole end that is called: each CR that has come has its place, from its answer on with a line, and what passes of it is not blamed.
pub mod by_place
