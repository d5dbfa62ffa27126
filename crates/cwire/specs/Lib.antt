-- What a reader must believe of the wire for C: the answers, a datagram's rows, the message of a row, the stores of fragments.
pub mod Answer
pub mod Rows
pub mod Saying
pub mod Stores
