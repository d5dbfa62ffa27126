-- Laws of the rows of streams.
pub mod Laws
