-- Laws of numbers on the wire and of writes.
pub mod Laws
