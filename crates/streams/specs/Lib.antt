-- What a reader must believe of a stream, in document 01's order (session.rs).
pub mod Sequence
pub mod State
pub mod Places
pub mod Sent
pub mod Acknowledged
pub mod Oldest
pub mod Received
pub mod View
pub mod Repeats
