-- Laws of a sweep.
pub mod Laws
