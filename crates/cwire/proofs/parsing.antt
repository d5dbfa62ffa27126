-- Laws of the rows of a datagram.
pub mod Laws
