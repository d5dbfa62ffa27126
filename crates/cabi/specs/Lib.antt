-- What a reader must believe of the C interface: the record's numbers, the answers, then the calls.
pub mod Record
pub mod Answers
pub mod Calls
