-- Laws of the two headers.
pub mod Laws
