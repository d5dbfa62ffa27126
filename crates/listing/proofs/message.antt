-- Laws of the lines of a datagram.
pub mod Laws
