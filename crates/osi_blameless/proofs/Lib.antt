-- The map of these proofs, in reading order: each folder has a map of its files. `Vocabulary` has the names that come from elsewhere.
mod Vocabulary
-- What an end puts on the byte connection and takes from it, connection by connection.
pub mod ends
-- No unit that an end puts breaks a rule of transport, as long as the other side keeps them.
pub mod transport
pub mod small_facts_that_many_lemmas_use
-- A capture of an end is steps of the end and of the judge.
pub mod steps
-- What a judge has joined of a connection, beside what was done at the end; the session is not to blame for that.
pub mod shown
-- No unit of an end breaks a rule of transport, whatever the other side breaks.
pub mod keeping
-- All connections stand at a judge, as units pass and as the end takes a turn.
pub mod standing
-- What an end puts: its references, its CRs and CCs, and for which connection each unit is.
pub mod putting
-- What is in flight to an end, and what it takes of that.
pub mod coming
-- An end of class 2 and a judge, and what an end keeps unless class 0 is selected.
pub mod in_class_2
-- An end in class 0 and a judge, and what an end keeps until class 2 is selected.
pub mod in_class_0
-- A break of the other side in class 0: an end and a judge go on as if it had not come.
pub mod breaking
-- The induction over steps, and so nobody of an end is ever to blame.
pub mod blaming
-- Two sides that are told as kept are two sessions that make what passed.
pub mod accord
